use Rattle.std.proofs.Common.{◌≡◌, ◌≤◌, drop}
use Rattle.nt_merge.specs.Comparing.{like_column, unlike_from}
use Rattle.nt_merge.proofs.comparing.unlike_column.Given as goal

abbrev pub invariant-loop-id : goal.invariant-loop-id
invariant-loop-id l = record {
  low : l.id ≤ l.common;
  left : unlike_from like_column l.id (drop l.id l.first.columns) (drop l.id l.schema.columns)
      ≡ unlike_from like_column 0 l.first.columns l.schema.columns;
}
