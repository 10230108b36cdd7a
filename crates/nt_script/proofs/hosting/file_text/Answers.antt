use Rattle.nt_types.specs.Views.{members_view}
use Rattle.nt_script.proofs.Hosted.{files_back, files_none}
use Rattle.nt_script.proofs.hosting.file_text.Goals as goal

pub write_file-disk-requires-clause-empty : goal.write_file-disk-requires-clause-empty
write_file-disk-requires-clause-empty g c =
    let made = c.in-Ok.ensures.disk in record { held = made.empty; end = made.end; out = made.out }

pub returns-in-Ok : goal.returns-in-Ok
returns-in-Ok g c =
    files_back c.args.out.now c.args.params.now (members_view c.args.fields) _ _ _ _ _ _ _ _ _ c.write_file-disk.result.2
    c.in-Ok.ensures.creates c.in-Ok.ensures.disk c.write_file-disk.ensures c.return_text.ensures.back c.return_text.ensures.world
    c.return_disk.ensures

pub returns-in-Err : goal.returns-in-Err
returns-in-Err g c =
    rw c.from.ensures (files_none c.args.out.now c.args.params.now (members_view c.args.fields) _ _ _ _ c.in-Err.refused
    c.in-Err.ensures.creates c.return_text-in-Err.ensures.back c.return_text-in-Err.ensures.world)
