use Rattle.std.proofs.Common.{◌≤◌, length}
use Rattle.nt_scan.proofs.Totalled.{ArePartTotalled}
use Rattle.nt_scan.proofs.totals.totals_of.Given as goal

abbrev pub invariant-loop-i : goal.invariant-loop-i
invariant-loop-i l = (l.i ≤ length l.columns) × ArePartTotalled l.schema l.columns l.running l.i l.items.items
