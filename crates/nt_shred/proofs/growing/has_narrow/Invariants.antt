use Rattle.std.proofs.Common.{◌≡◌, drop}
use Rattle.nt_shred.specs.Frame.{set_frame, has_narrow}
use Rattle.nt_shred.proofs.growing.has_narrow.Given as goal

abbrev pub invariant-loop-column : goal.invariant-loop-column
invariant-loop-column l = has_narrow (set_frame (drop l.column l.out)) ≡ has_narrow (set_frame l.out)
