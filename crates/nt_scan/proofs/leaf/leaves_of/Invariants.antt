use Rattle.std.proofs.Common.{◌≡◌, ◌++◌, drop}
use Rattle.nt_scan.specs.Leaves.{leaves_of, leaves_from}
use Rattle.nt_scan.proofs.leaf.leaves_of.Given as goal

-- the leaves so far, and those among the fields that are left
abbrev pub invariant-loop-id : goal.invariant-loop-id
invariant-loop-id l = leaves_of l.schema ≡ l.leaves.items ++ leaves_from l.schema l.id (drop l.id l.schema.fields)
