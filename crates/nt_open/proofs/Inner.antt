-- Fields inside a field are among the rows.
use Rattle.std.proofs.Common.{ℕ, zero, suc, Bool, true, false, ◌<◌, ◌≤◌, ◌+◌, List, [], ◌∷◌, ◌++◌, length, get_or, ◌==◌, arith}
use Rattle.std.proofs.Common.{if◌then◌else◌}
use Rattle.std.specs.Prelude.{◌&&◌, not}
use Rattle.nt_grammar.specs.declared.rows.FieldRow.{FieldRow}
use Rattle.nt_grammar.specs.Open.{ids_inside}

AllBelow : ℕ → List ℕ → Type 0
AllBelow n ids = (i : ℕ) → get_or ids i 0 < n

one-below : (b : Bool) (n id : ℕ) (later : List ℕ) → id < n → AllBelow n later → AllBelow n ((if b then id ∷ [] else []) ++ later)
unfolding AllBelow
one-below true n id later h a zero = h
one-below true n id later h a (suc i) = a i
one-below false n id later h a i = a i

below : (n parent id : ℕ) (rows : List FieldRow) → 0 < n → id + length rows ≤ n → AllBelow n (ids_inside parent id rows)
unfolding AllBelow
below n parent id [] some h i = some
below n parent id (r ∷ rows) some h i =
    one-below ((r.parent == parent) && not (id == parent)) n id (ids_inside parent (id + 1) rows) (omega arith)
    (below n parent (id + 1) rows some (omega arith)) i

-- the field at a place inside another is one of the rows; so is 0, which stands for none
pub inside_small : (parent i : ℕ) (rows : List FieldRow) → 0 < length rows → get_or (ids_inside parent 0 rows) i 0 < length rows
unfolding AllBelow
inside_small parent i rows h = below (length rows) parent 0 rows h (omega arith) i
