use Rattle.std.proofs.Common.{◌≡◌, ◌-◌, map, flat_map, length}
use Rattle.std.specs.List.{range_with_len}
use Rattle.nt_frame.specs.Writing.{bytes_added}
use Rattle.nt_pagelists.specs.Writing.{column_list_text}
use Rattle.nt_pagelists.specs.Books.{listed_column}
use Rattle.nt_meta.proofs.writing_columns.put_columns.Given as goal

-- what is left, written behind what is there, gives what all gives
abbrev pub invariant-loop-column : goal.invariant-loop-column
invariant-loop-column l =
    bytes_added (flat_map column_list_text (map (listed_column l.book l.cluster)
    (range_with_len l.column (length l.lists - l.column)))) l.out
    ≡ bytes_added (flat_map column_list_text (map (listed_column l.book l.cluster) (range_with_len 0 (length l.lists)))) l.initial.out
