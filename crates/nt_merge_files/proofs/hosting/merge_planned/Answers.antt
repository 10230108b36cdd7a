use Rattle.nt_merge_files.proofs.Planned.{planned-back, planned-none}
use Rattle.nt_merge_files.proofs.hosting.merge_planned.Goals as goal

pub merge-merged-requires-clause-blank : goal.merge-merged-requires-clause-blank
merge-merged-requires-clause-blank g c =
    let made = c.in-Ok.ensures.disk in record { held = made.empty; end = made.end; out = made.out }

pub returns-in-Ok : goal.returns-in-Ok
returns-in-Ok g c =
    rw c.counts_of_merge.ensures (planned-back g.H.File.ReadAt.state c.args.out.now c.args.params.now c.args.plan.now
    c.args.files.now.items c.merge-merged.new.files.items _ _ _ _ _ _ c.merge-merged.result c.in-Ok.ensures.creates c.in-Ok.ensures.disk
    c.merge-merged.ensures.served c.merge-merged.ensures.told c.return_disk.ensures)

pub returns-in-Err : goal.returns-in-Err
returns-in-Err g c =
    rw c.from.ensures (planned-none g.H.File.ReadAt.state c.args.out.now c.args.params.now c.args.plan.now c.args.files.now.items _ _
    c.in-Err.refused c.in-Err.ensures.creates)
