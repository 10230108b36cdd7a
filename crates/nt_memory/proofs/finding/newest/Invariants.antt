use Rattle.std.proofs.Common.{◌≡◌, take}
use Rattle.nt_memory.specs.Named.{stored_in}
use Rattle.nt_memory.proofs.finding.newest.Given as goal

abbrev pub invariant-loop-i : goal.invariant-loop-i
invariant-loop-i l = stored_in l.files l.name ≡ stored_in (take l.i l.files) l.name
