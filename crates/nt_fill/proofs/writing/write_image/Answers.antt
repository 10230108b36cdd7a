use Rattle.std.proofs.Common.{◌≡◌, ◌∙◌, ◌≤◌, ap, sym, refl, subst, length, inl, inr, Option, Some, None, [], append-nil}
use Rattle.std.proofs.lemmas.Result.{err_from_is_err_and}
use Rattle.std.specs.Prelude.{Ok, Err}
use Rattle.nt_pages.specs.declared.image.ClusterImage.{ClusterImage}
use Rattle.nt_book.specs.declared.limits.LimitError.{LimitError}
use Rattle.nt_commit.specs.declared.error.CommitError.{CommitError}
use Rattle.nt_commit.specs.declared.error.CommitError.TheVariants.{Fault, Memory}
use Rattle.nt_commit.specs.Claims.{limit_answered}
use Rattle.nt_commit.specs.Holds.{CommitsInHold}
use Rattle.nt_fill.proofs.Passes.{claim_is, writes, spoils, names, kept_by, fault_by, adds_seen}
use Rattle.nt_fill.proofs.Left.{spoils_leave, writes_leave}
use Rattle.nt_fill.proofs.Passes.{spoils_seen, keyed_length}
use Rattle.nt_fill.proofs.writing.write_image.Goals as goal

-- where none is named
none_named : {A : Type 0} (l : LimitError) → ◌≡◌ {A = Option LimitError} None (Some l) → A
none_named l named = absurd (cc named)

pub returns-in_err-claim-clause-limits : goal.returns-in_err-claim-clause-limits
returns-in_err-claim-clause-limits g c =
    let p = err_from_is_err_and c.from_residual.result c.from_residual.ensures.1 in
    let same : c.from_residual.result ≡ Err c.in_err-claim.field-0.0 = cc (p.1, p.2) in
    names g.D.Disk.state c.args.to.now.committer.now c.args.to.now.staged g.D.Ext.Ext.state c.args.image.now.meta c.args.pass.now
    c.claim_range.new.pass
    (Err c.in_err-claim.field-0.0) c.in_err-claim.ensures.commits c.from_residual.result (sym (ap limit_answered same))
    (λ wanting. let e : c.in_err-claim.field-0.0 ≡ Memory = cc wanting in same ∙ ap (λ (x : CommitError). Err x) e) c.claim_range.new.pass
    ([], append-nil c.claim_range.new.pass.seen) (λ l named. refl)

pub returns-in_err-claim-clause-refused : goal.returns-in_err-claim-clause-refused
returns-in_err-claim-clause-refused g c =
    let p = err_from_is_err_and c.from_residual.result c.from_residual.ensures.1 in
    record {
      kept = λ e is apart.
          let same : c.in_err-claim.field-0.0 ≡ e = cc (p.1, p.2, is) in (
            kept_by g.D.Disk.state c.args.to.now.committer.now c.args.to.now.staged g.D.Ext.Ext.state c.args.image.now.meta
                c.args.pass.now c.claim_range.new.pass
                c.in_err-claim.field-0.0 c.in_err-claim.ensures.commits (λ fault. apart (sym same ∙ fault)),
            refl,
          );
      fault = λ is.
          let same : c.in_err-claim.field-0.0 ≡ Fault = cc (p.1, p.2, is) in
          inl (
            fault_by g.D.Disk.state c.args.to.now.committer.now c.args.to.now.staged g.D.Ext.Ext.state c.args.image.now.meta
                c.args.pass.now c.claim_range.new.pass
                (subst (λ (e : CommitError). CommitsInHold g.D.Disk.state c.args.to.now.staged g.D.Ext.Ext.state
                c.args.to.now.committer.now c.args.image.now.meta
                c.args.pass.now c.claim_range.new.pass (Err e)) same c.in_err-claim.ensures.commits) c.requires.image_is.context_is,
            refl,
          );
    }

pub fill_range-requires-clause-claim : goal.fill_range-requires-clause-claim
fill_range-requires-clause-claim g c =
    let commits = c.in_ok-claim.ensures.commits in
    let new = commits.commits.adds.0 in
    let room = subst (λ n. 42 ≤ n) c.requires.image_is.whole c.requires.image_is.room in
    record {
      own = claim_is g.D.Disk.state c.args.to.now.committer.now c.args.to.now.staged g.D.Ext.Ext.state c.args.image.now.meta
          c.args.pass.now c.claim_range.new.pass
          c.in_ok-claim.claim commits c.requires.image_is.context_is;
      unfilled = new.unfilled;
      long = ap length c.as_slice.ensures ∙ (ap (λ (i : ClusterImage). length i.bytes) c.in_ok-claim.ensures.image
          ∙ (keyed_length c.args.image.now.bytes _ room ∙ (sym c.requires.image_is.whole ∙ sym (ap (λ r. r.len) new.range))));
    }

pub returns-in_err-fill_range-clause-pass : goal.returns-in_err-fill_range-clause-pass
returns-in_err-fill_range-clause-pass g c =
    let s = spoils g.D.Disk.state c.args.to.now.committer.now c.args.to.now.staged g.D.Ext.Ext.state c.args.image.now.meta
    c.args.pass.now c.claim_range.new.pass
    c.in_ok-claim.claim c.in_ok-claim.ensures.commits c.requires.image_is.context_is c.fill_range.new.pass
    c.in_err-fill_range.ensures.err.1 in
    spoils_leave g.D.Disk.state c.args.to.now.committer.now c.args.to.now.staged c.args.pass.now c.fill_range.new.pass c.requires.of
    c.requires.none_out c.args.image.now.meta c.fill_range.new.pen s c.in_err-fill_range.ensures.err.2

pub returns-in_err-fill_range-clause-limits : goal.returns-in_err-fill_range-clause-limits
returns-in_err-fill_range-clause-limits g c =
    let p = err_from_is_err_and c.from_residual-in_err-fill_range.result c.from_residual-in_err-fill_range.ensures.1 in
    let fault = c.in_err-fill_range.ensures.err.0 in
    let same : c.from_residual-in_err-fill_range.result ≡ Err Fault = cc (p.1, p.2, fault) in
    names g.D.Disk.state c.args.to.now.committer.now c.args.to.now.staged g.D.Ext.Ext.state c.args.image.now.meta c.args.pass.now
    c.claim_range.new.pass
    (Ok c.in_ok-claim.claim) c.in_ok-claim.ensures.commits c.from_residual-in_err-fill_range.result
    (sym (ap limit_answered same)) (λ is. absurd (cc is)) c.fill_range.new.pass
    (spoils_seen g.D.Disk.state c.args.to.now.committer.now _ c.claim_range.new.pass c.fill_range.new.pass
    c.in_err-fill_range.ensures.err.1)
    (λ l named. none_named l (sym (ap limit_answered same) ∙ named))

pub returns-in_err-fill_range-clause-refused : goal.returns-in_err-fill_range-clause-refused
returns-in_err-fill_range-clause-refused g c =
    let s = spoils g.D.Disk.state c.args.to.now.committer.now c.args.to.now.staged g.D.Ext.Ext.state c.args.image.now.meta
    c.args.pass.now c.claim_range.new.pass
    c.in_ok-claim.claim c.in_ok-claim.ensures.commits c.requires.image_is.context_is c.fill_range.new.pass
    c.in_err-fill_range.ensures.err.1 in
    let p = err_from_is_err_and c.from_residual-in_err-fill_range.result c.from_residual-in_err-fill_range.ensures.1 in
    record {
      kept = λ e is apart. absurd (apart (cc (p.1, p.2, is, c.in_err-fill_range.ensures.err.0)));
      fault = λ is. inr (s, c.in_err-fill_range.ensures.err.2);
    }

pub returns-clause-pass : goal.returns-clause-pass
returns-clause-pass g c =
    let w = writes g.D.Disk.state c.args.to.now.committer.now c.args.to.now.staged g.D.Ext.Ext.state c.args.image.now.meta
    c.args.pass.now c.claim_range.new.pass
    c.in_ok-claim.claim c.in_ok-claim.ensures.commits c.requires.image_is.context_is c.args.image.now c.as_slice.result.now
    c.fill_range.new.pass refl (c.as_slice.ensures ∙ ap (λ (i : ClusterImage). i.bytes) c.in_ok-claim.ensures.image)
    c.in_ok-fill_range.ensures.ok.0 in
    writes_leave g.D.Disk.state c.args.to.now.committer.now c.args.to.now.staged c.args.pass.now c.fill_range.new.pass c.requires.of
    c.requires.none_out c.args.pen.now c.requires.filled c.requires.alive c.args.image.now c.fill_range.new.pen w

pub returns-clause-limits : goal.returns-clause-limits
returns-clause-limits g c =
    names g.D.Disk.state c.args.to.now.committer.now c.args.to.now.staged g.D.Ext.Ext.state c.args.image.now.meta c.args.pass.now
    c.claim_range.new.pass
    (Ok c.in_ok-claim.claim) c.in_ok-claim.ensures.commits (Ok tt) refl (λ is. absurd (cc is)) c.fill_range.new.pass
    (adds_seen g.D.Disk.state c.args.to.now.committer.now _ c.claim_range.new.pass c.fill_range.new.pass c.in_ok-fill_range.ensures.ok.0)
    (λ l named. none_named l named)

pub returns-clause-ok : goal.returns-clause-ok
returns-clause-ok g c = (
  writes g.D.Disk.state c.args.to.now.committer.now c.args.to.now.staged g.D.Ext.Ext.state c.args.image.now.meta c.args.pass.now
      c.claim_range.new.pass
      c.in_ok-claim.claim c.in_ok-claim.ensures.commits c.requires.image_is.context_is c.args.image.now c.as_slice.result.now
      c.fill_range.new.pass refl (c.as_slice.ensures ∙ ap (λ (i : ClusterImage). i.bytes) c.in_ok-claim.ensures.image)
      c.in_ok-fill_range.ensures.ok.0,
  c.in_ok-fill_range.ensures.ok.1,
  c.in_ok-fill_range.ensures.ok.2,
)
