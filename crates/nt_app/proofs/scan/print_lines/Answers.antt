use Rattle.nt_app.proofs.ScanPrinted.{prints_whole, prints_front}
use Rattle.nt_app.proofs.scan.print_lines.Goals as goal

pub returns-in-Ok : goal.returns-in-Ok
returns-in-Ok g c = prints_whole _ _ _ _ c.in-Ok.ensures

pub returns-in-Err : goal.returns-in-Err
returns-in-Err g c = prints_front _ _ _ _ c.in-Err.ensures
