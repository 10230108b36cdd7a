use Rattle.std.proofs.Common.{◌<◌, length, arith}
use Rattle.nt_merge_files.proofs.Opened.{opened-planned, opened-unplanned}
use Rattle.nt_merge_files.proofs.Whole.{told-bytes}
use Rattle.nt_merge_files.proofs.hosting.merge_open.Goals as goal

pub returns-in-Ok : goal.returns-in-Ok
returns-in-Ok g c =
    let some : 0 < length c.in-Ok.plan = omega (arith, c.in-Ok.ensures.all, c.requires.count.0) in
    opened-planned g.H.File.ReadAt.state c.copied_files_mean_their_sources.ensures c.copied_files_have_the_stored_pages.ensures
    c.bare_schemas_are_described.ensures.read c.bare_schemas_are_described.ensures.bare c.schemas_without_error_are_mergeable.ensures
    c.args.out.now c.args.params.now c.in-Ok.plan c.args.files.now.items c.plan.new.files.items c.merge_planned.new.files.items _ _
    c.merge_planned.result (told-bytes g.H.File.ReadAt.state g.met.H.File.ReadAt.fit c.args.files.now.items)
    (λ bytes tell. (c.in-Ok.ensures.told bytes tell).0) some c.in-Ok.ensures.kept c.merge_planned.ensures

pub returns-in-Err : goal.returns-in-Err
returns-in-Err g c =
    rw c.error_of_merge.ensures (opened-unplanned g.H.File.ReadAt.state c.args.out.now c.args.params.now c.args.files.now.items
    c.plan.new.files.items (g.H.Host.state c.args.host.now) c.args.params.now.limits.clusters c.in-Err.error
    (λ bytes tell. (c.in-Err.ensures.told bytes tell).1) c.in-Err.ensures.kept c.in-Err.ensures.blamed.rose
    c.in-Err.ensures.blamed.no_disk)
