use Rattle.std.proofs.Common.{◌≡◌, ◌∙◌, ap, sym, subst, ℕ, ◌+◌, length, arith}
use Rattle.nt_merge.specs.Copying.{HasMerged}
use Rattle.nt_book.specs.Books.{BookData}
use Rattle.nt_merge.proofs.CopiedOn.{copied-on, refusal-told}
use Rattle.nt_merge.proofs.GoingOn.{merging-more}
use Rattle.nt_merge.proofs.Unfinished.{left-unfinished}
use Rattle.nt_merge.proofs.copying.copy_file.Goals as goal

pub loop-k-preserved : goal.loop-k-preserved
loop-k-preserved g c =
    let inv = c.loop-k.invariant in
    let left = c.in-Ok.ensures.left in
    let old = g.D.Disk.state c.loop-k.disk in
    let new = g.D.Disk.state c.copy_cluster.new.disk in
    let book = c.loop-k.target.book in
    let next = c.copy_cluster.new.target.book in
    record {
      may = record {
        columns_are = c.in-Ok.ensures.columns
            ∙ (inv.may.columns_are ∙ sym (ap (λ (b : BookData). length b.firsts) left.next.appends.gains.same));
        not_staged = ap (λ (b : BookData). b.staged) left.next.appends.gains.same ∙ inv.may.not_staged;
        end = left.next.appends.end;
      };
      same = c.in-Ok.ensures.served.same ∙ inv.same;
      later = omega (arith, inv.later, c.in-Ok.ensures.served.later);
      disk = omega (arith, inv.disk, c.in-Ok.ensures.served.disk_later);
      going = λ t p given able merging.
          merging-more t p given old new book next left.image left.fits left.next (inv.going t p given able merging);
      told = λ file t p given ns at b told is_of able merging has.
          copied-on t p given old book (inv.going t p given able merging) file b c.args.reader.now ns at is_of c.loop-k.k
          (omega (arith, c.loop-k-test.true, c.clusters-k-end.ensures)) c.loop-k.target.columns inv.may.columns_are able
          (g.F.ReadAt.state c.loop-k.file).bytes (inv.same ∙ told) new next
          (inv.told file t p given ns at b told is_of able merging has) c.keeps.ensures left;
    }

pub returns-in-Err-clause-going : goal.returns-in-Err-clause-going
returns-in-Err-clause-going g c = λ t p given able merging.
    let inv = c.loop-k.invariant in
    left-unfinished c.crashes_leave_closed_or_unfinished.ensures t p given (g.D.Disk.state c.loop-k.disk)
    (g.D.Disk.state c.copy_cluster.new.disk) c.loop-k.target.book (inv.going t p given able merging)
    (g.F.ReadAt.state c.loop-k.file).bytes c.args.reader.now c.loop-k.k c.loop-k.target.columns c.copy_cluster.new.target.book
    c.in-Err.error
    c.in-Err.ensures.left

pub returns-in-Err-clause-told : goal.returns-in-Err-clause-told
returns-in-Err-clause-told g c = λ file t p given ns at b told is_of able merging has.
    let inv = c.loop-k.invariant in
    refusal-told t p given (g.D.Disk.state c.loop-k.disk) c.loop-k.target.book (inv.going t p given able merging) file b c.args.reader.now
    ns at is_of c.loop-k.k (omega (arith, c.loop-k-test.true, c.clusters-k-end.ensures)) c.loop-k.target.columns inv.may.columns_are able
    (g.F.ReadAt.state c.loop-k.file).bytes (inv.same ∙ told) (g.D.Disk.state c.copy_cluster.new.disk) c.copy_cluster.new.target.book
    (inv.told file t p given ns at b told is_of able merging has) c.keeps.ensures
    c.merges_pass_what_their_fronts_pass.ensures.appended (at + length c.args.reader.now.clusters) c.in-Err.error c.in-Err.ensures.left

pub returns-clause-told : goal.returns-clause-told
returns-clause-told g c = λ file t p given ns at b told is_of able merging has.
    let end : at + c.loop-k.k ≡ at + length c.args.reader.now.clusters = omega (arith, c.loop-k-test.false, c.clusters-k-end.ensures) in
    subst (λ (m : ℕ). HasMerged t p given (g.D.Disk.state c.loop-k.disk) c.loop-k.target.book ns m) end
    (c.loop-k.invariant.told file t p given ns at b told is_of able merging has)
