use Rattle.std.proofs.Common.{◌≡◌, ap, sym, subst, refl, arith, rules, None, ◌≤◌, [], length}
use Rattle.nt_book.specs.Books.{book_ranges, book_end}
use Rattle.nt_book.specs.Limiting.{limit_error}
use Rattle.nt_commit.specs.Appending.{FitsCluster}
use Rattle.nt_commit.proofs.Standing.{range_fits, new_claim}
use Rattle.nt_commit.proofs.Stepping.{same_history}
use Rattle.nt_commit.proofs.Entering.{faulted, entered}
use Rattle.nt_commit.proofs.Owned.{step_from, appends_from}
use Rattle.nt_commit.proofs.locked.Locked.append_cluster.Goals as goal

pub reserve-requires : goal.reserve-requires
reserve-requires g c =
    range_fits g.D.Disk.state _ _ _ _ c.self.invariant c.args.meta.now.len
    (subst (λ v. limit_error v.book.limits (book_end v.book) (length (book_ranges v.book)) c.args.meta.now.len ≡ None)
    (sym c.self.view_is) c.requires.fits.limits)

pub enter-cluster-requires : goal.enter-cluster-requires
enter-cluster-requires g c = record {
  fits = subst (λ v. FitsCluster v.book c.args.meta.now) (sym c.self.view_is) c.requires.fits;
  lists = search rules;
  paged = search rules;
}

pub invariant_of-self : goal.invariant_of-self
invariant_of-self g c =
    let reserved = c.in-Ok.ensures.reserves in
    let context : c.args.meta.now.context ≤ c.self.inside.contexts =
    omega (arith, ap (λ v. v.birth.contexts) c.self.view_is, c.requires.meta.context) in
    let limits = subst (λ v. limit_error v.book.limits (book_end v.book) (length (book_ranges v.book)) c.args.meta.now.len ≡ None)
    (sym c.self.view_is) c.requires.fits.limits in
    (entered g.D.Disk.state _ _ _ _ c.self.invariant _ _ c.keeps.ensures _ c.enter-cluster.result _ c.args.meta.now
    c.enter-cluster.ensures.book c.enter-cluster.ensures.number c.enter-cluster.ensures.behind limits
    context c.requires.meta.room reserved.ok reserved.end reserved.out reserved.cause.later).0.after

pub invariant_of-self-in-Err-Memory : goal.invariant_of-self-in-Err-Memory
invariant_of-self-in-Err-Memory g c =
    let reserved = c.in-Err-Memory.ensures.reserves in
    (same_history g.D.Disk.state _ _ _ _ c.self.invariant _ _ c.self.inside.book.spare {ready = c.self.inside.book.ready}
    refl reserved.err reserved.cause.later).0.after

pub invariant_of-self-in-Err-Failed : goal.invariant_of-self-in-Err-Failed
invariant_of-self-in-Err-Failed g c =
    let reserved = c.in-Err-Failed.ensures.reserves in
    let context : c.args.meta.now.context ≤ c.self.inside.contexts =
    omega (arith, ap (λ v. v.birth.contexts) c.self.view_is, c.requires.meta.context) in
    (faulted g.D.Disk.state _ _ _ _ c.self.invariant _ _ c.keeps.ensures c.args.meta.now.context c.faults-faults.result _
    c.fault.ensures.book context reserved.err reserved.cause.later (reserved.cause.failed (cc c.in-Err-Failed.field-0-is))
    c.faults-faults.ensures c.faults-faults.type_inv).0.after

pub returns-in-Ok-clause-step : goal.returns-in-Ok-clause-step
returns-in-Ok-clause-step g c =
    let reserved = c.in-Ok.ensures.reserves in
    let context : c.args.meta.now.context ≤ c.self.inside.contexts =
    omega (arith, ap (λ v. v.birth.contexts) c.self.view_is, c.requires.meta.context) in
    let limits = subst (λ v. limit_error v.book.limits (book_end v.book) (length (book_ranges v.book)) c.args.meta.now.len ≡ None)
    (sym c.self.view_is) c.requires.fits.limits in
    step_from g.D.Disk.state _ _ _ c.self.view_is
    (entered g.D.Disk.state _ _ _ _ c.self.invariant _ _ c.keeps.ensures _ c.enter-cluster.result _ c.args.meta.now
    c.enter-cluster.ensures.book c.enter-cluster.ensures.number c.enter-cluster.ensures.behind limits
    context c.requires.meta.room reserved.ok reserved.end reserved.out reserved.cause.later).0

pub returns-in-Ok-clause-appends : goal.returns-in-Ok-clause-appends
returns-in-Ok-clause-appends g c =
    let reserved = c.in-Ok.ensures.reserves in
    let context : c.args.meta.now.context ≤ c.self.inside.contexts =
    omega (arith, ap (λ v. v.birth.contexts) c.self.view_is, c.requires.meta.context) in
    let limits = subst (λ v. limit_error v.book.limits (book_end v.book) (length (book_ranges v.book)) c.args.meta.now.len ≡ None)
    (sym c.self.view_is) c.requires.fits.limits in
    appends_from g.D.Disk.state _ _ _ c.self.view_is g.D.Ext.Ext.state c.args.meta.now _ (record {
      added = _;
      grows = (entered g.D.Disk.state _ _ _ _ c.self.invariant _ _ c.keeps.ensures _ c.enter-cluster.result _ c.args.meta.now
          c.enter-cluster.ensures.book c.enter-cluster.ensures.number c.enter-cluster.ensures.behind limits
          context c.requires.meta.room reserved.ok reserved.end reserved.out reserved.cause.later).1;
      adds = (
        new_claim g.D.Disk.state _ _ _ _ c.self.invariant g.D.Ext.Ext.state c.enter-cluster.result c.args.meta.now.len _
            c.enter-cluster.ensures.number c.in-Ok.ensures.new,
        refl,
      );
      passes_none = refl;
    })

pub returns-in-Err-Memory-clause-step : goal.returns-in-Err-Memory-clause-step
returns-in-Err-Memory-clause-step g c =
    let reserved = c.in-Err-Memory.ensures.reserves in
    step_from g.D.Disk.state _ _ _ c.self.view_is
    (same_history g.D.Disk.state _ _ _ _ c.self.invariant _ _ c.self.inside.book.spare {ready = c.self.inside.book.ready}
    refl reserved.err reserved.cause.later).0

pub returns-in-Err-Memory-clause-appends : goal.returns-in-Err-Memory-clause-appends
returns-in-Err-Memory-clause-appends g c =
    let reserved = c.in-Err-Memory.ensures.reserves in
    appends_from g.D.Disk.state _ _ _ c.self.view_is g.D.Ext.Ext.state c.args.meta.now _ (record {
      added = [];
      grows = (same_history g.D.Disk.state _ _ _ _ c.self.invariant _ _ c.self.inside.book.spare
          {ready = c.self.inside.book.ready} refl reserved.err reserved.cause.later).1;
      adds = refl;
      passes_none = refl;
    })

pub returns-in-Err-Failed-clause-step : goal.returns-in-Err-Failed-clause-step
returns-in-Err-Failed-clause-step g c =
    let reserved = c.in-Err-Failed.ensures.reserves in
    let context : c.args.meta.now.context ≤ c.self.inside.contexts =
    omega (arith, ap (λ v. v.birth.contexts) c.self.view_is, c.requires.meta.context) in
    step_from g.D.Disk.state _ _ _ c.self.view_is
    (faulted g.D.Disk.state _ _ _ _ c.self.invariant _ _ c.keeps.ensures c.args.meta.now.context c.faults-faults.result _
    c.fault.ensures.book context reserved.err reserved.cause.later (reserved.cause.failed (cc c.in-Err-Failed.field-0-is))
    c.faults-faults.ensures c.faults-faults.type_inv).0

pub returns-in-Err-Failed-clause-appends : goal.returns-in-Err-Failed-clause-appends
returns-in-Err-Failed-clause-appends g c =
    let reserved = c.in-Err-Failed.ensures.reserves in
    let context : c.args.meta.now.context ≤ c.self.inside.contexts =
    omega (arith, ap (λ v. v.birth.contexts) c.self.view_is, c.requires.meta.context) in
    let rose = reserved.cause.failed (cc c.in-Err-Failed.field-0-is) in
    appends_from g.D.Disk.state _ _ _ c.self.view_is g.D.Ext.Ext.state c.args.meta.now _ (record {
      added = _;
      grows = (faulted g.D.Disk.state _ _ _ _ c.self.invariant _ _ c.keeps.ensures c.args.meta.now.context c.faults-faults.result _
          c.fault.ensures.book context reserved.err reserved.cause.later rose c.faults-faults.ensures c.faults-faults.type_inv).1;
      adds = (rose, refl);
      passes_none = refl;
    })
