use Rattle.std.proofs.Common.{◌≡◌, ◌++◌, map, take, drop}
use Rattle.nt_column.specs.Column.{Column, empty, columns_of}
use Rattle.nt_column.proofs.set.ColumnSet.recycle.Given as goal

abbrev pub invariant-loop-i : goal.invariant-loop-i
invariant-loop-i l =
    columns_of l.self-inside.buffers.items ≡ map (λ (c : Column). empty c.kind) (take l.i (columns_of l.fn.self)) ++ drop l.i
    (columns_of l.fn.self)
