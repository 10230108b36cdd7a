use Rattle.std.proofs.Common.{◌≡◌, ◌∙◌, ap, sym, subst, List, Some, length, refl, arith}
use Rattle.std.proofs.lemmas.Option.{slice_get_read}
use Rattle.std.specs.Prelude.{slice_get}
use Rattle.nt_lists.proofs.Variants.{some_is}
use Rattle.nt_file_meaning.specs.Outlines.{Outline}
use Rattle.nt_merge.specs.Copying.{CopiesFile, IsJoinable}
use Rattle.nt_merge.proofs.Kept.{keep-set, rose-set}
use Rattle.nt_merge.proofs.merging.copy_at.Goals as goal

pub returns-clause-served : goal.returns-clause-served
returns-clause-served g c =
    let files = c.args.files.now.items in
    let is : slice_get files c.args.at ≡ Some c.index_mut.result.now =
    slice_get_read files (length files) c.args.at c.index_mut.result.now refl c.requires.there.0 c.index_mut.ensures.value in
    let served = c.copy_file.ensures.served in
    record {
      kept = keep-set g.F.ReadAt.state files _ c.args.at c.index_mut.result.now c.copy_file.new.file is refl served.same served.later;
      rose = λ fault. rose-set g.F.ReadAt.state files _ c.args.at c.index_mut.result.now c.copy_file.new.file is refl (served.fault fault);
      disk = served.disk_fault;
      later = served.disk_later;
    }

pub returns-clause-copies : goal.returns-clause-copies
returns-clause-copies g c =
    let files = c.args.files.now.items in
    let os = c.args.plan.now in
    let old = g.D.Disk.state c.args.disk.now in
    let new = g.D.Disk.state c.copy_file.new.disk in
    let book = c.args.target.now.book in
    let next = c.copy_file.new.target.book in
    let is : slice_get files c.args.at ≡ Some c.index_mut.result.now =
    slice_get_read files (length files) c.args.at c.index_mut.result.now refl c.requires.there.0 c.index_mut.ensures.value in
    let inside = c.plan.inside.readers.items in
    let long = ap length c.plan.view_is in
    let read : slice_get os c.args.at ≡ Some c.index.result.now =
    subst (λ (l : List Outline). slice_get l c.args.at ≡ Some c.index.result.now) c.plan.view_is
    (slice_get_read inside (length inside) c.args.at c.index.result.now refl (omega (arith, c.requires.there.0, c.requires.there.1, long))
    c.index.ensures) in
    record {
      going = λ t p given o at_o able merging.
          let same : o ≡ c.index.result.now = some_is o c.index.result.now (sym at_o ∙ read) in
          c.copy_file.ensures.going t p given (subst (λ (u : Outline). IsJoinable t u.table) same able) merging;
      told = λ f o at_f at_o.
          let same : c.index.result.now ≡ o = some_is c.index.result.now o (sym read ∙ at_o) in
          let here : c.index_mut.result.now ≡ f = some_is c.index_mut.result.now f (sym is ∙ at_f) in
          subst (λ (u : Outline). CopiesFile (g.F.ReadAt.state f).bytes u old new book next c.copy_file.result) same
          (subst (λ h. CopiesFile (g.F.ReadAt.state h).bytes c.index.result.now old new book next c.copy_file.result) here
          c.copy_file.ensures.told);
    }
