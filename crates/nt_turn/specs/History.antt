-- A history, and the entries of one pass in it.
use Rattle.std.specs.Prelude.{◌≢◌, ℕ, ◌==◌, List, filter, length, nat_lt, if◌then◌else◌}
use Rattle.std.specs.List.{AllByRecursion}

-- the entries of a number, in order
abbrev pub entries_of : {E : Type 0} → (E → ℕ) → List E → ℕ → List E
entries_of context history number = filter (λ e. context e == number) history

-- no list is kept of this number
abbrev pub HasNone : {E : Type 0} → List (ℕ × List E) → ℕ → Type 0
HasNone {E = E} kept n = AllByRecursion (λ (k : ℕ × List E). k.0 ≢ n) kept

-- of two lists the longer one, and the first where they are equally long
abbrev pub longer : {E : Type 0} → List E → List E → List E
longer xs ys = if nat_lt (length xs) (length ys) then ys else xs
