use Rattle.std.proofs.Common.{◌≡◌, drop}
use Rattle.nt_merge.specs.Comparing.{closed_from}
use Rattle.nt_merge.proofs.comparing.first_closed.Given as goal

abbrev pub invariant-loop-id : goal.invariant-loop-id
invariant-loop-id l = record {
  left : closed_from l.schema.fields l.schema.columns l.id (drop l.id l.schema.fields)
      ≡ closed_from l.schema.fields l.schema.columns 0 l.schema.fields;
}
