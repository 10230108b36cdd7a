use Rattle.nt_skim.specs.Select.{selection_of}
use Rattle.nt_skim_file.proofs.Hosted.{files_back, files_none}
use Rattle.nt_skim_file.proofs.hosting.file_selection.Goals as goal

pub write_selection-disk-requires-clause-empty : goal.write_selection-disk-requires-clause-empty
write_selection-disk-requires-clause-empty g c =
    let made = c.in-Ok.ensures.disk in record { held = made.empty; end = made.end; out = made.out }

pub returns-in-Ok : goal.returns-in-Ok
returns-in-Ok g c =
    files_back c.args.out.now c.args.params.now (selection_of c.args.chosen.now.plan) c.args.chosen.now.reader _ _ _ _ _ _ _ _
    c.write_selection-disk.result.1 c.in-Ok.ensures.creates c.in-Ok.ensures.disk c.write_selection-disk.ensures c.return_disk.ensures

pub returns-in-Err : goal.returns-in-Err
returns-in-Err g c =
    rw c.from.ensures (files_none c.args.out.now c.args.params.now (selection_of c.args.chosen.now.plan) c.args.chosen.now.reader
    _ _ _ c.in-Err.refused c.in-Err.ensures.creates)
