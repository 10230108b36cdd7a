use Rattle.std.proofs.Common.{◌≡◌, ◌≤◌, drop}
use Rattle.nt_merge.specs.Comparing.{like_field, unlike_from}
use Rattle.nt_merge.proofs.comparing.unlike_field.Given as goal

abbrev pub invariant-loop-id : goal.invariant-loop-id
invariant-loop-id l = record {
  low : l.id ≤ l.common;
  left : unlike_from like_field l.id (drop l.id l.first.fields) (drop l.id l.schema.fields)
      ≡ unlike_from like_field 0 l.first.fields l.schema.fields;
}
