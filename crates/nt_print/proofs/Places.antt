-- Trees of numbers at places of a column.
use Rattle.std.proofs.Common.{◌≡◌, ℕ, zero, suc, ◌+◌, ◌-◌, ◌≤◌, Bool, List, ◌∷◌, length, take, drop, get_or}
use Rattle.std.proofs.Common.{refl, sym, ap, ◌∙◌, subst, arith}
use Rattle.std.specs.List.{slice_range}
use Rattle.std.proofs.lemmas.List.{drop_more}
use Rattle.nt_column.specs.Elements.{Element, numbers}
use Rattle.nt_types.specs.TreeData.{TreeData, TreesData, num, tree}
use Rattle.nt_trees.specs.Integers.{integer_of}
use Rattle.nt_plans.specs.Plan.{PlanData, number}
use Rattle.nt_trees.specs.Columns.{Cols, number_at}
use Rattle.nt_trees.specs.TreeAt.{tree_at, trees_from}
use Rattle.nt_join.specs.Readable.{ReadableTo}
use Rattle.nt_print.specs.Integers.{integer_trees}

-- the integer at a place
abbrev pub integer_at : ℕ → Bool → List Element → ℕ → TreeData
integer_at bits signed es i = num (integer_of bits signed (number_at es i))

-- so many from a place on are those of the numbers there
pub trees_from-numbers : (bits : ℕ) (signed : Bool) (es : List Element) (n from : ℕ) → from + n ≤ length es
    → trees_from (integer_at bits signed es) from n ≡ integer_trees bits signed (numbers (take n (drop from es)))
trees_from-numbers bits signed es zero from within = refl
trees_from-numbers bits signed es (suc n) from within =
    let f = integer_at bits signed es in
    let next : drop from es ≡ get_or es from (0, 0) ∷ drop (from + 1) es = drop_more es from (0, 0) (omega arith) in
    let place : suc from ≡ from + 1 = omega arith in
    let others : trees_from f (suc from) n ≡ integer_trees bits signed (numbers (take n (drop (from + 1) es))) =
    ap (λ (j : ℕ). trees_from f j n) place ∙ trees_from-numbers bits signed es n (from + 1) (omega arith) in
    ap (λ (ts : TreesData). tree (f from) ts) others
    ∙ sym (ap (λ (l : List Element). integer_trees bits signed (numbers (take (suc n) l))) next)

-- a list of numbers lies within its column
pub number-within : (p : PlanData) (cols : Cols) (k bits : ℕ) (signed : Bool) (to : ℕ) → p ≡ number k bits signed
    → ReadableTo p cols to → to ≤ length (cols k)
number-within p cols k bits signed to is readable =
    let r = subst (λ (q : PlanData). ReadableTo q cols to) is readable in
    omega (arith, r.within, r.sound)

-- the items of a list of numbers that is lent
pub lent-trees : (p : PlanData) (cols : Cols) (k bits : ℕ) (signed : Bool) (es : List Element) (from to : ℕ) → p ≡ number k bits signed
    → es ≡ slice_range (cols k) from to → from ≤ to → to ≤ length (cols k)
    → integer_trees bits signed (numbers es) ≡ trees_from (tree_at p cols) from (to - from)
lent-trees p cols k bits signed es from to is lent order within =
    ap (λ (xs : List Element). integer_trees bits signed (numbers xs)) lent
    ∙ (sym (trees_from-numbers bits signed (cols k) (to - from) from (omega arith))
    ∙ ap (λ (q : PlanData). trees_from (tree_at q cols) from (to - from)) (sym is))
