use Rattle.std.proofs.Common.{Some, take}
use Rattle.nt_schema.specs.ByName.{HasNames}
use Rattle.nt_schema.proofs.by_name.names_of.Given as goal

abbrev pub invariant-loop-id : goal.invariant-loop-id
invariant-loop-id l = HasNames (Some l.names) (take l.id l.rows)
