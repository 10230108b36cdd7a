-- A buffer that is lent from its set.
use Rattle.std.specs.Prelude.{ℕ, List, slice_set}
use Rattle.std.specs.Borrow.{Lends, MutBor, Fml}
use Rattle.nt_column.specs.Column.{Buffer}
use Rattle.nt_column.specs.contracts.buffer.ColumnBuf.{the_row as buffer_row}
use Rattle.nt_column.specs.contracts.set.ColumnSet.{the_row as set_row}

-- the set ends with this column's buffer as it was left
abbrev pub LendsBuffer : MutBor (List Buffer) → ℕ → MutBor Buffer → Fml
LendsBuffer s k r = Lends set_row buffer_row s r (λ b. slice_set s.now k b)
