use Rattle.std.proofs.Common.{◌≡◌}
use Rattle.std.specs.List.{slice_range}
use Rattle.nt_column.specs.Elements.{text_of}
use Rattle.nt_view.specs.Table.{elements_in_table}
use Rattle.nt_view.proofs.lookup.copied.Given as goal

abbrev pub invariant-loop-i : goal.invariant-loop-i
invariant-loop-i l = l.bytes.items ≡ text_of (slice_range (elements_in_table l.store l.table l.column) l.from l.i)
