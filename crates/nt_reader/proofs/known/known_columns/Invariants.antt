use Rattle.std.proofs.Common.{◌≡◌, ◌++◌, drop, length}
use Rattle.nt_file_meaning.specs.Outlines.{known_columns_from, known_columns}
use Rattle.nt_reader.proofs.known.known_columns.Given as goal

-- the columns so far, and those that are left, are all
abbrev pub invariant-loop-id : goal.invariant-loop-id
invariant-loop-id l = record {
  len : length l.columns.items ≡ l.id;
  known : l.columns.items ++ known_columns_from l.schema l.id (drop l.id l.schema.columns) ≡ known_columns l.schema;
}
