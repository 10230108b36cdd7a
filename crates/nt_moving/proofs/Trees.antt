-- Trees of elements, one after the other, and how much they add.
use Rattle.std.proofs.Common.{◌≡◌, ℕ, zero, suc, ◌+◌, ◌-◌, ◌<◌, ◌≤◌, refl, ◌∙◌, ap, arith}
use Rattle.nt_types.specs.TreeData.{TreeData, no_trees, tree}
use Rattle.nt_trees.specs.TreeAt.{trees_from, only}
use Rattle.nt_shred.specs.Most.{most, most_of_all}

-- the first of them
pub trees_from-next : (f : ℕ → TreeData) (i to : ℕ) → i < to → trees_from f i (to - i) ≡ tree (f i) (trees_from f (i + 1) (to - (i + 1)))
trees_from-next f i to less =
    let count : to - i ≡ suc (to - (i + 1)) = omega (arith, less) in
    let next : suc i ≡ i + 1 = omega arith in
    ap (trees_from f i) count ∙ ap (λ j. tree (f i) (trees_from f j (to - (i + 1)))) next

-- none is left
pub trees_from-none : (f : ℕ → TreeData) (i to : ℕ) → to ≤ i → trees_from f i (to - i) ≡ no_trees
trees_from-none f i to le = let none : to - i ≡ 0 = omega (arith, le) in ap (trees_from f i) none

-- each adds one element
pub most_of_all-singles : (f : ℕ → TreeData) (at n : ℕ) → ((i : ℕ) → most (f i) ≡ 1) → n ≡ most_of_all (trees_from f at n)
most_of_all-singles f at zero one = refl
most_of_all-singles f at (suc n) one = omega (arith, one at, most_of_all-singles f (suc at) n one)

-- one more is counted
pub most_of_all-next : (f : ℕ → TreeData) (i to before more now whole : ℕ) → i < to → more ≡ most (f i) → now ≡ before + more
    → before + most_of_all (trees_from f i (to - i)) ≡ whole → now + most_of_all (trees_from f (i + 1) (to - (i + 1))) ≡ whole
most_of_all-next f i to before more now whole less is sum so_far =
    omega (arith, is, sum, so_far, ap most_of_all (trees_from-next f i to less))

-- an optional of such adds one too
pub most-only : (f : ℕ → TreeData) (at n : ℕ) → ((i : ℕ) → most (f i) ≡ 1) → most (only (trees_from f at n)) ≡ 1
most-only f at zero one = refl
most-only f at (suc n) one = one at
