use Rattle.nt_app.proofs.Scanned.{scans_named, refuses_scan}
use Rattle.nt_app.proofs.scan.scan.Goals as goal

pub returns-in-Ok : goal.returns-in-Ok
returns-in-Ok g c =
    let opened = c.in-Ok.ensures in
    scans_named c.args.name.now _ _ _ _ _ _ _ _ opened.opens.asks.ok opened.opens.asks.err_faults opened.opens.asks.opened
    opened.opens.asks.cause.later opened.opens.world opened.opened c.scan_file-scanned.ensures.file c.scan_file-scanned.ensures.scans
    c.print_scan-status.ensures c.return_file.ensures.back c.return_file.ensures.world

pub returns-in-Err : goal.returns-in-Err
returns-in-Err g c = refuses_scan c.args.name.now _ _ c.in-Err.refused _ c.status_of_refusal.ensures c.in-Err.ensures.opens
