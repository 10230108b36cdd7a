-- Trees that are read one after the other.
use Rattle.std.proofs.Common.{◌≡◌, ℕ, zero, suc, ◌+◌, ◌-◌, ◌<◌, ◌≤◌, List, [], ◌∷◌, ◌++◌, refl, ap, ◌∙◌, arith}
use Rattle.nt_types.specs.TreeData.{TreeData, TreesData, nothing, no_trees, tree, trees_of}
use Rattle.nt_trees.specs.TreeAt.{trees_from, only}

-- so many trees from a place on, as a list
abbrev pub list_from : (ℕ → TreeData) → ℕ → ℕ → List TreeData
list_from f at zero = []
list_from f at (suc n) = f at ∷ list_from f (suc at) n

pub trees_of-list_from : (f : ℕ → TreeData) (at n : ℕ) → trees_of (list_from f at n) ≡ trees_from f at n
trees_of-list_from f at zero = refl
trees_of-list_from f at (suc n) = ap (tree (f at)) (trees_of-list_from f (suc at) n)

list_from-last : (f : ℕ → TreeData) (at n : ℕ) → list_from f at (suc n) ≡ list_from f at n ++ f (at + n) ∷ []
list_from-last f at zero = let same : at ≡ at + 0 = omega arith in ap (λ i. f i ∷ []) same
list_from-last f at (suc n) =
    let same : suc at + n ≡ at + suc n = omega arith in
    ap (λ l. f at ∷ l) (list_from-last f (suc at) n ∙ ap (λ i. list_from f (suc at) n ++ f i ∷ []) same)

-- the list up to the next place
pub list_from-next : (f : ℕ → TreeData) (at i : ℕ) → at ≤ i → list_from f at (i + 1 - at) ≡ list_from f at (i - at) ++ f i ∷ []
list_from-next f at i le =
    let next : i + 1 - at ≡ suc (i - at) = omega arith in
    let same : at + (i - at) ≡ i = omega arith in
    ap (list_from f at) next ∙ list_from-last f at (i - at) ∙ ap (λ j. list_from f at (i - at) ++ f j ∷ []) same

-- an optional has no tree, or the first
pub only-none : (f : ℕ → TreeData) (from to : ℕ) → to ≤ from → only (trees_from f from (to - from)) ≡ nothing
only-none f from to le = let none : to - from ≡ 0 = omega arith in ap (λ n. only (trees_from f from n)) none

pub only-first : (f : ℕ → TreeData) (from to : ℕ) → from < to → only (trees_from f from (to - from)) ≡ f from
only-first f from to lt =
    let some : to - from ≡ suc (to - from - 1) = omega arith in
    ap (λ n. only (trees_from f from n)) some

-- trees with these before them
abbrev pub before_trees : List TreeData → TreesData → TreesData
before_trees [] rest = rest
before_trees (t ∷ ts) rest = tree t (before_trees ts rest)

pub before_trees-push : (ts : List TreeData) (t : TreeData) (rest : TreesData)
    → before_trees (ts ++ t ∷ []) rest ≡ before_trees ts (tree t rest)
before_trees-push [] t rest = refl
before_trees-push (u ∷ ts) t rest = ap (tree u) (before_trees-push ts t rest)

pub before_trees-none : (ts : List TreeData) → before_trees ts no_trees ≡ trees_of ts
before_trees-none [] = refl
before_trees-none (t ∷ ts) = ap (tree t) (before_trees-none ts)
