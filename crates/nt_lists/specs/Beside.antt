-- Items, and beside each so many of them one that belongs to these.
use Rattle.std.specs.Prelude.{ℕ, ◌+◌, List, [], ◌∷◌, ◌++◌, take, drop}

-- what stands behind so many items
pub record Beside (A : Type 0) : Type 0 where
  pub count : ℕ
  pub item : A

-- items, and behind each group of so many that of the group
abbrev pub with_beside : {A : Type 0} → List (Beside A) → List A → List A
with_beside [] xs = xs
with_beside (l ∷ ls) xs = take l.count xs ++ (l.item ∷ with_beside ls (drop l.count xs))

-- how many items have one behind them
abbrev pub grouped : {A : Type 0} → List (Beside A) → ℕ
grouped [] = 0
grouped (l ∷ ls) = l.count + grouped ls
