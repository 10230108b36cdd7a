use Rattle.std.proofs.Common.{◌≡◌, drop}
use Rattle.nt_merge.specs.Comparing.{deferred_from}
use Rattle.nt_merge.proofs.comparing.first_deferred.Given as goal

abbrev pub invariant-loop-id : goal.invariant-loop-id
invariant-loop-id l = record {
  left : deferred_from l.id (drop l.id l.schema.columns) ≡ deferred_from 0 l.schema.columns;
}
