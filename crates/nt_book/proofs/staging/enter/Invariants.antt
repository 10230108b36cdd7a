use Rattle.std.proofs.Common.{◌≡◌, ◌+◌, ◌≤◌, ◌++◌, take, drop, length, map, vec_len, vec_capacity}
use Rattle.nt_book.specs.Keeping.{AreOffsets, order_numbers, own_count, own_columns, own_numbers, placed_row}
use Rattle.nt_book.proofs.staging.enter.Given as goal

abbrev pub invariant-loop-range : goal.invariant-loop-range
invariant-loop-range l =
    AreOffsets l.entries l.firsts (map (placed_row l.rows) l.order.items) l.offsets.items
    × (order_numbers l.order.items ≡ order_numbers l.initial.order.items ++ own_numbers 0 (take l.range l.rows) l.context)
    × (vec_len l.order + own_count (drop l.range l.rows) l.context ≤ vec_capacity l.order)
    × (vec_len l.offsets + own_columns (length l.firsts) (drop l.range l.rows) l.context ≤ vec_capacity l.offsets)
