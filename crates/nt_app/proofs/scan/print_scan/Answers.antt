use Rattle.std.proofs.Common.{ℕ, List, Result, Ok, sym, subst}
use Rattle.nt_scan.specs.declared.error.ScanError.{ScanError}
use Rattle.nt_app.specs.Scans.{PrintsScan}
use Rattle.nt_app.proofs.ScanPrinted.{prints_none}
use Rattle.nt_app.proofs.scan.print_scan.Goals as goal

pub returns-in-Ok : goal.returns-in-Ok
returns-in-Ok g c =
    subst (λ (s : Result (List ℕ) ScanError). PrintsScan s (g.H.Host.state c.args.host.now) (g.H.Host.state c.print_lines.new.host)
    c.print_lines.result) (sym c.in-Ok.is)
    (subst (λ (l : List ℕ). PrintsScan (Ok l) (g.H.Host.state c.args.host.now) (g.H.Host.state c.print_lines.new.host)
    c.print_lines.result) c.as_slice.ensures c.print_lines.ensures)

pub returns-in-Err : goal.returns-in-Err
returns-in-Err g c =
    subst (λ (s : Result (List ℕ) ScanError). PrintsScan s (g.H.Host.state c.args.host.now) (g.H.Host.state c.args.host.now)
    c.status_of_scan_error.result) (sym c.in-Err.is)
    (prints_none c.in-Err.error (g.H.Host.state c.args.host.now) _ c.status_of_scan_error.ensures)
