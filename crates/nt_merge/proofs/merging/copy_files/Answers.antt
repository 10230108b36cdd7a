use Rattle.std.proofs.Common.{◌≡◌, ◌∙◌, ap, sym, subst, ℕ, ◌+◌, ◌<◌, [], Err, length, arith}
use Rattle.std.specs.Prelude.{slice_index_or}
use Rattle.nt_lists.proofs.Variants.{err_is}
use Rattle.nt_file_meaning.specs.Outlines.{Outline}
use Rattle.nt_merge.specs.Files.{TellBytes}
use Rattle.nt_merge.specs.Copying.{HasMerged, IsJoinable}
use Rattle.nt_merge.specs.Joining.{ToldOfAll}
use Rattle.nt_merge.specs.Merging.{all_numbered}
use Rattle.nt_merge.proofs.Kept.{keep-more, rose-more, tell-kept, tell-long, tell-at, file-at, keep-long}
use Rattle.nt_merge.proofs.AllFiles.{before, of-number, before-more, before-all, all-get, refused-all, fault-copy, disk-copy}
use Rattle.nt_merge.proofs.merging.copy_files.Goals as goal

pub loop-at-preserved : goal.loop-at-preserved
loop-at-preserved g c =
    let inv = c.loop-at.invariant in
    let os = c.args.plan.now in
    let at = c.loop-at.at in
    let files = c.loop-at.files.items in
    let done = c.in-Ok.ensures in
    let there : at < length os = omega (arith, c.loop-at-test.true, c.len-at-end.ensures, ap length c.plan.view_is) in
    let inside : at < length files = omega (arith, there, keep-long g.F.ReadAt.state _ _ inv.kept, c.requires.as_many) in
    let file = file-at files at inside in
    let out = file-at os at there in
    record {
      may = done.may;
      kept = keep-more g.F.ReadAt.state _ _ _ inv.kept done.served.kept;
      disk = omega (arith, inv.disk, done.served.later);
      going = λ t p given able merging.
          done.copies.going t p given out.0 out.1 (all-get (λ (o : Outline). IsJoinable t o.table) os at out.0 able out.1)
          (inv.going t p given able merging);
      told = λ t p given bytes tells able merging has.
          let now : TellBytes g.F.ReadAt.state files bytes = tell-kept g.F.ReadAt.state _ _ bytes inv.kept tells in
          let long : length bytes ≡ length os =
          omega (arith, tell-long g.F.ReadAt.state _ bytes tells, c.requires.as_many) in
          subst (λ (m : ℕ). HasMerged t p given (g.D.Disk.state c.copy_at.new.disk) c.copy_at.new.target.book (all_numbered 0 bytes os) m)
          (before-more os at out.0 out.1)
          (done.copies.told file.0 out.0 file.1 out.1 at t p given (all_numbered 0 bytes os) (before at os) (slice_index_or bytes at [])
          (tell-at g.F.ReadAt.state files bytes at file.0 now file.1) (of-number bytes os at out.0 long out.1)
          (all-get (λ (o : Outline). IsJoinable t o.table) os at out.0 able out.1) (inv.going t p given able merging)
          (inv.told t p given bytes tells able merging has));
    }

pub returns-in-Err-clause-served : goal.returns-in-Err-clause-served
returns-in-Err-clause-served g c =
    let inv = c.loop-at.invariant in
    let failed = c.in-Err.ensures in
    record {
      kept = keep-more g.F.ReadAt.state _ _ _ inv.kept failed.served.kept;
      rose = λ is.
          rose-more g.F.ReadAt.state _ _ _ inv.kept
          (failed.served.rose (ap (λ e. Err e) (fault-copy c.loop-at.at c.in-Err.error (sym c.copy_failure.ensures ∙ err_is _ _ is))));
      disk = λ is.
          let rose = failed.served.disk (ap (λ e. Err e) (disk-copy c.loop-at.at c.in-Err.error
          (sym c.copy_failure.ensures ∙ err_is _ _ is))) in
          omega (arith, inv.disk, rose);
      later = tt;
    }

pub returns-in-Err-clause-going : goal.returns-in-Err-clause-going
returns-in-Err-clause-going g c = λ t p given able merging.
    let inv = c.loop-at.invariant in
    let os = c.args.plan.now in
    let at = c.loop-at.at in
    let files = c.loop-at.files.items in
    let there : at < length os = omega (arith, c.loop-at-test.true, c.len-at-end.ensures, ap length c.plan.view_is) in
    let inside : at < length files = omega (arith, there, keep-long g.F.ReadAt.state _ _ inv.kept, c.requires.as_many) in
    let out = file-at os at there in
    c.in-Err.ensures.copies.going t p given out.0 out.1 (all-get (λ (o : Outline). IsJoinable t o.table) os at out.0 able out.1)
    (inv.going t p given able merging)

pub returns-in-Err-clause-told : goal.returns-in-Err-clause-told
returns-in-Err-clause-told g c = λ t p given bytes tells able merging has.
    let inv = c.loop-at.invariant in
    let os = c.args.plan.now in
    let at = c.loop-at.at in
    let files = c.loop-at.files.items in
    let there : at < length os = omega (arith, c.loop-at-test.true, c.len-at-end.ensures, ap length c.plan.view_is) in
    let inside : at < length files = omega (arith, there, keep-long g.F.ReadAt.state _ _ inv.kept, c.requires.as_many) in
    let file = file-at files at inside in
    let out = file-at os at there in
    let now : TellBytes g.F.ReadAt.state files bytes = tell-kept g.F.ReadAt.state _ _ bytes inv.kept tells in
    let long : length bytes ≡ length os = omega (arith, tell-long g.F.ReadAt.state _ bytes tells, c.requires.as_many) in
    subst (λ e. ToldOfAll t p given (g.D.Disk.state c.copy_at.new.disk) c.copy_at.new.target.book (all_numbered 0 bytes os) (Err e))
    (sym c.copy_failure.ensures)
    (refused-all at t p given (g.D.Disk.state c.copy_at.new.disk) c.copy_at.new.target.book (all_numbered 0 bytes os)
    (before at os + length out.0.clusters) c.in-Err.error
    (c.in-Err.ensures.copies.told file.0 out.0 file.1 out.1 at t p given (all_numbered 0 bytes os) (before at os)
    (slice_index_or bytes at [])
    (tell-at g.F.ReadAt.state files bytes at file.0 now file.1) (of-number bytes os at out.0 long out.1)
    (all-get (λ (o : Outline). IsJoinable t o.table) os at out.0 able out.1) (inv.going t p given able merging)
    (inv.told t p given bytes tells able merging has)))

pub overflow_cast-at : goal.overflow_cast-at
overflow_cast-at g c =
    let long = ap length c.plan.view_is in
    omega (arith, c.loop-at-test.true, c.len-at-end.ensures, c.plan.invariant.few, long)

pub returns-clause-told : goal.returns-clause-told
returns-clause-told g c = λ t p given bytes tells able merging has.
    let inv = c.loop-at.invariant in
    let os = c.args.plan.now in
    let long : length bytes ≡ length os = omega (arith, tell-long g.F.ReadAt.state _ bytes tells, c.requires.as_many) in
    let end : c.loop-at.at ≡ length os =
    omega (arith, c.loop-at-test.false, c.len-at-end.ensures, ap length c.plan.view_is) in
    subst (λ (m : ℕ). HasMerged t p given (g.D.Disk.state c.loop-at.disk) c.loop-at.target.book (all_numbered 0 bytes os) m)
    (before-all bytes os long c.loop-at.at end) (inv.told t p given bytes tells able merging has)
