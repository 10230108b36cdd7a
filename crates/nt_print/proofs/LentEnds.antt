-- Ends of optionals as they lie in a column.
use Rattle.std.proofs.Common.{◌≡◌, ℕ, zero, suc, ◌+◌, ◌-◌, ◌<◌, ◌≤◌, Bool, List, [], ◌∷◌, length, map, take, drop}
use Rattle.std.proofs.Common.{get_or, refl, sym, ap, ◌∙◌, subst, arith}
use Rattle.std.specs.List.{slice_range}
use Rattle.std.proofs.lemmas.List.{drop_more, length-drop, length-take-le}
use Rattle.nt_types.specs.TreeData.{TreesData, tree}
use Rattle.nt_column.specs.Elements.{Element, plain, numbers}
use Rattle.nt_column.proofs.Numbers.{numbers-plain_list}
use Rattle.nt_plans.specs.Plan.{PlanData, maybe, number}
use Rattle.nt_trees.specs.Columns.{Cols, number_at, begin_at}
use Rattle.nt_trees.specs.Sound.{Rises, FewSteps}
use Rattle.nt_trees.specs.TreeAt.{tree_at, trees_from}
use Rattle.nt_trees.proofs.Lists.{begin_at-le-last}
use Rattle.nt_join.specs.Readable.{ReadableTo}
use Rattle.nt_print.specs.Optionals.{optional_trees, StepsOn, last_behind, AreOptionals}

-- they are steps
steps-lent : (es : List Element) (n from : ℕ) → Rises es → FewSteps es → from + n ≤ length es
    → StepsOn (begin_at es from) (numbers (take n (drop from es)))
steps-lent es zero from rises few within = tt
steps-lent es (suc n) from rises few within =
    let next : drop from es ≡ get_or es from (0, 0) ∷ drop (from + 1) es = drop_more es from (0, 0) (omega arith) in
    let place : suc from ≡ from + 1 = omega arith in
    let rest : StepsOn (number_at es from) (numbers (take n (drop (suc from) es))) =
    steps-lent es n (suc from) rises few (omega (arith, within)) in
    subst (λ (l : List Element). StepsOn (begin_at es from) (numbers (take (suc n) l))) (sym next) (
      rises from (omega (arith, within)),
      few from (omega (arith, within)),
      subst (λ (j : ℕ). StepsOn (number_at es from) (numbers (take n (drop j es)))) place rest,
    )

-- the last of them
last-lent : (es : List Element) (n from : ℕ) → from + n ≤ length es
    → last_behind (begin_at es from) (numbers (take n (drop from es))) ≡ begin_at es (from + n)
last-lent es zero from within = ap (begin_at es) (omega arith)
last-lent es (suc n) from within =
    let next : drop from es ≡ get_or es from (0, 0) ∷ drop (from + 1) es = drop_more es from (0, 0) (omega arith) in
    let place : from + 1 ≡ suc from = omega arith in
    let end : suc from + n ≡ from + suc n = omega arith in
    ap (λ (l : List Element). last_behind (begin_at es from) (numbers (take (suc n) l))) next
    ∙ (ap (λ (j : ℕ). last_behind (number_at es from) (numbers (take n (drop j es)))) place
    ∙ (last-lent es n (suc from) (omega (arith, within)) ∙ ap (begin_at es) end))

-- their optionals
optionals-lent : (e : ℕ) (p : PlanData) (cols : Cols) (n from : ℕ) → from + n ≤ length (cols e)
    → optional_trees (tree_at p cols) (begin_at (cols e) from) (numbers (take n (drop from (cols e))))
    ≡ trees_from (tree_at (maybe e p) cols) from n
optionals-lent e p cols zero from within = refl
optionals-lent e p cols (suc n) from within =
    let es = cols e in
    let f = tree_at p cols in
    let first = tree_at (maybe e p) cols from in
    let next : drop from es ≡ get_or es from (0, 0) ∷ drop (from + 1) es = drop_more es from (0, 0) (omega arith) in
    let place : from + 1 ≡ suc from = omega arith in
    ap (λ (l : List Element). optional_trees f (begin_at es from) (numbers (take (suc n) l))) next
    ∙ ap (λ (ts : TreesData). tree first ts)
    (ap (λ (j : ℕ). optional_trees f (number_at es from) (numbers (take n (drop j es)))) place
    ∙ optionals-lent e p cols n (suc from) (omega (arith, within)))

-- what is so of the optionals of a plan
pub record AreKnown (p : PlanData) (cols : Cols) (from to begin : ℕ) (ends : List ℕ) (column bits : ℕ) (signed : Bool) : Type 0 where
  pub steps : StepsOn begin ends
  pub within : last_behind begin ends ≤ length (cols column)
  pub trees : optional_trees (tree_at (number column bits signed) cols) begin ends ≡ trees_from (tree_at p cols) from (to - from)

pub known-optionals : (p : PlanData) (cols : Cols) (from to begin : ℕ) (ends : List ℕ) (column bits : ℕ) (signed : Bool)
    → AreOptionals p cols from to begin ends column bits signed → from ≤ to → ReadableTo p cols to
    → AreKnown p cols from to begin ends column bits signed
known-optionals p cols from to begin ends column bits signed a order readable =
    let e = a.ends_column in
    let es = cols e in
    let f = tree_at (number column bits signed) cols in
    let n = to - from in
    let r = subst (λ (q : PlanData). ReadableTo q cols to) a.plan readable in
    let within : to ≤ length es = omega (arith, r.within, r.sound.0) in
    let behind : from + n ≤ length es = omega (arith, within, order) in
    let end : from + n ≡ to = omega (arith, order) in
    let is : numbers (take n (drop from es)) ≡ ends = sym (ap numbers a.lent) ∙ numbers-plain_list ends in
    let last : last_behind begin ends ≡ begin_at es to =
    ap (λ (b : ℕ). last_behind b ends) a.begins
    ∙ (ap (λ (l : List ℕ). last_behind (begin_at es from) l) (sym is) ∙ (last-lent es n from behind ∙ ap (begin_at es) end)) in
    record {
      steps = subst (λ (b : ℕ). StepsOn b ends) (sym a.begins)
          (subst (λ (l : List ℕ). StepsOn (begin_at es from) l) is (steps-lent es n from r.sound.1 r.sound.2 behind));
      within = omega (arith, last, begin_at-le-last es r.sound.1 to within, r.sound.3);
      trees = ap (λ (b : ℕ). optional_trees f b ends) a.begins
          ∙ (ap (λ (l : List ℕ). optional_trees f (begin_at es from) l) (sym is)
          ∙ (optionals-lent e (number column bits signed) cols n from behind
          ∙ ap (λ (q : PlanData). trees_from (tree_at q cols) from n) (sym a.plan)));
    }

-- ends of which the one before them is lent too
pub first-lent : (es : List Element) (list : List ℕ) (from to : ℕ) → 0 < from → from ≤ to → to ≤ length es
    → map plain list ≡ slice_range es (from - 1) to → get_or list 0 0 ≡ begin_at es from
first-lent es [] from to some order within is =
    let none : length (slice_range es (from - 1) to) ≡ to - (from - 1) =
    length-take-le (to - (from - 1)) (drop (from - 1) es) (omega (arith, within, some, order, length-drop (from - 1) es)) in
    absurd (omega (arith, none, ap length is, some, order))
first-lent es (y ∷ list) from to some order within is =
    let j = from - 1 in
    let next : drop j es ≡ get_or es j (0, 0) ∷ drop (j + 1) es = drop_more es j (0, 0) (omega (arith, some, order, within)) in
    let count : to - j ≡ suc (to - from) = omega (arith, some, order) in
    let whole : map plain (y ∷ list) ≡ get_or es j (0, 0) ∷ take (to - from) (drop (j + 1) es) =
    is ∙ (ap (λ (n : ℕ). take n (drop j es)) count ∙ ap (λ (l : List Element). take (suc (to - from)) l) next) in
    let place : suc j ≡ from = omega (arith, some) in
    ap (λ (l : List Element). number_at l 0) whole ∙ ap (begin_at es) place

pub others-lent : (es : List Element) (list : List ℕ) (from to : ℕ) → 0 < from → from ≤ to → to ≤ length es
    → map plain list ≡ slice_range es (from - 1) to → map plain (drop 1 list) ≡ slice_range es from to
others-lent es [] from to some order within is =
    let none : length (slice_range es (from - 1) to) ≡ to - (from - 1) =
    length-take-le (to - (from - 1)) (drop (from - 1) es) (omega (arith, within, some, order, length-drop (from - 1) es)) in
    absurd (omega (arith, none, ap length is, some, order))
others-lent es (y ∷ list) from to some order within is =
    let j = from - 1 in
    let next : drop j es ≡ get_or es j (0, 0) ∷ drop (j + 1) es = drop_more es j (0, 0) (omega (arith, some, order, within)) in
    let count : to - j ≡ suc (to - from) = omega (arith, some, order) in
    let whole : map plain (y ∷ list) ≡ get_or es j (0, 0) ∷ take (to - from) (drop (j + 1) es) =
    is ∙ (ap (λ (n : ℕ). take n (drop j es)) count ∙ ap (λ (l : List Element). take (suc (to - from)) l) next) in
    let place : j + 1 ≡ from = omega (arith, some) in
    ap (drop 1) whole ∙ ap (λ (i : ℕ). take (to - from) (drop i es)) place
