-- the indices so far are read
use Rattle.std.proofs.Common.{◌+◌, get_or}
use Rattle.nt_types.specs.declared.column_type.ColumnType.TheVariants.{Switch}
use Rattle.nt_encode.specs.Pages.{page_values}
use Rattle.nt_encode.proofs.Lists.{Filled}
use Rattle.nt_view.proofs.column.read_indices.Given as goal

abbrev pub invariant-loop-i : goal.invariant-loop-i
invariant-loop-i l = Filled l.out l.i (λ p. get_or (page_values Switch l.count l.bytes) (l.from + p) 0)
