-- Values that are left, one for each plan.
use Rattle.std.proofs.Common.{◌≡◌, ℕ, ◌+◌, ◌-◌, ◌<◌, ◌≤◌, List, [], ◌∷◌, length, drop, get_or, sym, ◌∙◌, ap, subst, arith}
use Rattle.std.proofs.lemmas.Bool.{false≢true}
use Rattle.std.proofs.lemmas.List.{drop_more, length-drop}
use Rattle.nt_types.specs.TreeData.{TreeData, TreesData, tree}
use Rattle.nt_column.specs.Column.{Buffer}
use Rattle.nt_plans.specs.Plan.{PlanData, PlansData, plan}
use Rattle.nt_plans.specs.PlanViews.{plan_view}
use Rattle.nt_plans.specs.declared.plan.Plan.{Plan}
use Rattle.nt_trees.specs.Columns.{Cols}
use Rattle.nt_trees.specs.TreeAt.{tree_at, each_at, trees_from}
use Rattle.nt_trees.specs.Views.{plans_in}
use Rattle.nt_join.specs.Chosen.{chosen, tree_in}
use Rattle.nt_join.specs.Readable.{ReadableEach}
use Rattle.nt_shred.proofs.Left.{LeftAll, LeftEach}
use Rattle.nt_moving.proofs.Trees.{trees_from-next}

-- the first element that is left, and those behind it
pub items-step : (p : PlanData) (all : TreesData) (f : ℕ → TreeData) (i to : ℕ) (start now : List Buffer) → i < to
    → LeftAll p all (trees_from f i (to - i)) start now → LeftAll p all (tree (f i) (trees_from f (i + 1) (to - (i + 1)))) start now
items-step p all f i to start now less left = subst (λ ts. LeftAll p all ts start now) (trees_from-next f i to less) left

-- there is a part for each plan that is left, and a place
parts-left : (ps qs : PlansData) (all : TreesData) (p : PlanData) (ds : List Plan) (cols : Cols) (i : ℕ) (start now : List Buffer)
    → LeftEach ps all (plan p qs) (each_at (plans_in ds) cols i) start now → 1 ≤ length ds
parts-left ps qs all p [] cols i start now l = absurd (false≢true l.ready.fitting)
parts-left ps qs all p (d ∷ ds) cols i start now l = omega arith

places-left : (ps qs : PlansData) (all : TreesData) (p : PlanData) (places : List ℕ) (entry : TreesData) (start now : List Buffer)
    → LeftEach ps all (plan p qs) (chosen places entry) start now → 1 ≤ length places
places-left ps qs all p [] entry start now l = absurd (false≢true l.ready.fitting)
places-left ps qs all p (k ∷ places) entry start now l = omega arith

-- the first plan that is left and the part for it, and those behind them
pub record PartsStep (to of : List Plan) (cols : Cols) (i k : ℕ) (first part : Plan) (all : TreesData) (start now : List Buffer)
    : Type 0 where
  pub later : ReadableEach (plans_in (drop (k + 1) of)) cols i
  pub left : LeftEach (plans_in to) all (plan (plan_view first) (plans_in (drop (k + 1) to)))
      (tree (tree_at (plan_view (get_or of k part)) cols i) (each_at (plans_in (drop (k + 1) of)) cols i)) start now

module _ (to : List Plan) where
  next : (k : ℕ) (first : Plan) → k < length to → first ≡ get_or to k first → drop k to ≡ first ∷ drop (k + 1) to
  next k first less is = drop_more to k first less ∙ ap (λ p. p ∷ drop (k + 1) to) (sym is)

  pub parts-step : (of : List Plan) (cols : Cols) (i k : ℕ) (first part : Plan) (all : TreesData) (start now : List Buffer) → k < length to
      → first ≡ get_or to k first → ReadableEach (plans_in (drop k of)) cols i
      → LeftEach (plans_in to) all (plans_in (drop k to)) (each_at (plans_in (drop k of)) cols i) start now
      → PartsStep to of cols i k first part all start now
  parts-step of cols i k first part all start now less is readable left =
      let some = subst (λ ps. LeftEach (plans_in to) all (plans_in ps) (each_at (plans_in (drop k of)) cols i) start now)
      (next k first less is) left in
      let here = parts-left (plans_in to) _ all (plan_view first) (drop k of) cols i start now some in
      let rest = drop_more of k part (omega (arith, here, length-drop k of)) in
      let sound = subst (λ ds. ReadableEach (plans_in ds) cols i) rest readable in
      record {
        later = record { size = sound.size; sound = sound.sound.1; within = sound.within };
        left = subst (λ ds. LeftEach (plans_in to) all (plan (plan_view first) (plans_in (drop (k + 1) to)))
            (each_at (plans_in ds) cols i) start now) rest some;
      }

  -- the same of places
  pub places-step : (places : List ℕ) (entry : TreesData) (k : ℕ) (first : Plan) (all : TreesData) (start now : List Buffer) → k < length to
      → first ≡ get_or to k first → LeftEach (plans_in to) all (plans_in (drop k to)) (chosen (drop k places) entry) start now
      → LeftEach (plans_in to) all (plan (plan_view first) (plans_in (drop (k + 1) to)))
      (tree (tree_in entry (get_or places k 0)) (chosen (drop (k + 1) places) entry)) start now
  places-step places entry k first all start now less is left =
      let some = subst (λ ps. LeftEach (plans_in to) all (plans_in ps) (chosen (drop k places) entry) start now)
      (next k first less is) left in
      let here = places-left (plans_in to) _ all (plan_view first) (drop k places) entry start now some in
      let rest = drop_more places k 0 (omega (arith, here, length-drop k places)) in
      subst (λ ks. LeftEach (plans_in to) all (plan (plan_view first) (plans_in (drop (k + 1) to))) (chosen ks entry) start now) rest some
