use Rattle.std.proofs.Common.{◌≡◌, map, take}
use Rattle.nt_file_meaning.specs.Clusters.{kind_of_code}
use Rattle.nt_decoded.specs.Columns.{kind_or_bit}
use Rattle.nt_decoded.proofs.columns.empty_columns.Given as goal

abbrev pub invariant-loop-id : goal.invariant-loop-id
invariant-loop-id l = l.kinds.items ≡ map (λ c. kind_or_bit (kind_of_code c.code)) (take l.id l.schema.columns)
