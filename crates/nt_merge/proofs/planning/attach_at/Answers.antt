use Rattle.std.proofs.Common.{◌≡◌, Some, length, refl}
use Rattle.std.proofs.lemmas.Option.{slice_get_read}
use Rattle.std.specs.Prelude.{slice_get}
use Rattle.nt_merge.proofs.Kept.{keep-set, rose-set}
use Rattle.nt_merge.proofs.planning.attach_at.Goals as goal

pub returns-clause-kept : goal.returns-clause-kept
returns-clause-kept g c =
    let is : slice_get c.args.files.now.items c.args.at ≡ Some c.index_mut.result.now =
    slice_get_read c.args.files.now.items (length c.args.files.now.items) c.args.at c.index_mut.result.now refl c.requires
    c.index_mut.ensures.value in
    keep-set g.F.ReadAt.state c.args.files.now.items _ c.args.at c.index_mut.result.now c.attach.new.file is refl
    c.attach.ensures.file.same c.attach.ensures.file.later

pub returns-clause-rose : goal.returns-clause-rose
returns-clause-rose g c = λ fault.
    let is : slice_get c.args.files.now.items c.args.at ≡ Some c.index_mut.result.now =
    slice_get_read c.args.files.now.items (length c.args.files.now.items) c.args.at c.index_mut.result.now refl c.requires
    c.index_mut.ensures.value in
    rose-set g.F.ReadAt.state c.args.files.now.items _ c.args.at c.index_mut.result.now c.attach.new.file is refl
    (c.attach.ensures.file.fault fault)
