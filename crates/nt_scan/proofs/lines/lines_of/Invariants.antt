use Rattle.std.proofs.Common.{◌≡◌, take}
use Rattle.nt_scan.specs.Scans.{scan_lines}
use Rattle.nt_scan.proofs.lines.lines_of.Given as goal

abbrev pub invariant-loop-i : goal.invariant-loop-i
invariant-loop-i l = l.lines.items ≡ scan_lines l.schema (take l.i l.leaves) (take l.i l.totals)
