-- What lies below an element: where it can be read, and the tree.
use Rattle.std.proofs.Common.{◌≡◌, ◌-◌, ◌<◌, ◌≤◌, ℕ, suc, Box, Global, map, length, get_or, sym, ap, ap₂, subst, ◌∙◌, arith}
use Rattle.std.proofs.lemmas.List.{length-map}
use Rattle.nt_types.specs.TreeData.{items, pick}
use Rattle.nt_types.specs.TreeData as trees
use Rattle.nt_plans.specs.Plan.{text, list, maybe, choice, plans_of}
use Rattle.nt_plans.specs.PlanViews.{plan_view}
use Rattle.nt_plans.specs.declared.plan.Plan.{Plan}
use Rattle.nt_plans.specs.declared.plan.Plan as plans
use Rattle.nt_plans.specs.declared.plan.Plans.{Plans}
use Rattle.nt_plans.proofs.PlanViews.{view-Text}
use Rattle.nt_trees.specs.Columns.{Cols, number_at, tag_at, begin_at}
use Rattle.nt_trees.specs.TreeAt.{tree_at, text_from, trees_from}
use Rattle.nt_join.specs.Readable.{Readable, ReadableTo}
use Rattle.nt_join.proofs.Joins.{only-first}
use Rattle.nt_join.proofs.Reach.{of_tag-at, readable-is, text-within, items-readable, optional-readable}
use Rattle.nt_join.proofs.Reach.{tag-among, picked-readable, tree_at-picked}
use Rattle.nt_moving.proofs.Ready.{is-List, is-Maybe, is-Choice}

-- the bytes of a text
pub record TextBelow (plan : Plan) (b : ℕ) (cols : Cols) (i from to : ℕ) : Type 0 where
  pub order : from ≤ to
  pub within : to ≤ length (cols b)
  pub tree : tree_at (plan_view plan) cols i ≡ trees.text (text_from (cols b) from (to - from))

pub text-below : (plan : Plan) (e b : ℕ) (cols : Cols) (i from to : ℕ) → plan ≡ plans.Text e b → from ≡ begin_at (cols e) i
    → to ≡ number_at (cols e) i → Readable (plan_view plan) cols i → TextBelow plan b cols i from to
text-below plan e b cols i from to is begins ends readable =
    let plan_is = ap plan_view is ∙ view-Text e b in
    let r = readable-is _ (text e b) cols i plan_is readable in
    let rises : begin_at (cols e) i ≤ begin_at (cols e) (suc i) = r.sound.1 i (omega (arith, r.within, r.sound.0)) in
    record {
      order = omega (arith, rises, begins, ends);
      within = omega (arith, text-within e b cols i r, ends);
      tree = ap (λ p. tree_at p cols i) plan_is
          ∙ sym (ap₂ (λ (x y : ℕ). trees.text (text_from (cols b) x (y - x))) begins ends);
    }

-- the items of a list
pub record ListBelow (plan x : Plan) (cols : Cols) (i from to : ℕ) : Type 0 where
  pub order : from ≤ to
  pub readable : ReadableTo (plan_view x) cols to
  pub tree : tree_at (plan_view plan) cols i ≡ items (trees_from (tree_at (plan_view x) cols) from (to - from))

pub list-below : (plan x : Plan) (e : ℕ) (of : Box Plan Global) (cols : Cols) (i from to : ℕ) → plan ≡ plans.List e of → x ≡ of.value
    → from ≡ begin_at (cols e) i → to ≡ number_at (cols e) i → Readable (plan_view plan) cols i → ListBelow plan x cols i from to
list-below plan x e of cols i from to is inside begins ends readable =
    let plan_is = is-List plan x e of is inside in
    let r = items-readable e (plan_view x) cols i (readable-is _ (list e (plan_view x)) cols i plan_is readable) in
    record {
      order = omega (arith, r.1, begins, ends);
      readable = subst (ReadableTo (plan_view x) cols) (sym ends) r.0;
      tree = ap (λ p. tree_at p cols i) plan_is
          ∙ sym (ap₂ (λ (a b : ℕ). items (trees_from (tree_at (plan_view x) cols) a (b - a))) begins ends);
    }

-- the value of an optional that has one
pub record ValueBelow (plan x : Plan) (cols : Cols) (i from : ℕ) : Type 0 where
  pub readable : Readable (plan_view x) cols from
  pub tree : tree_at (plan_view plan) cols i ≡ tree_at (plan_view x) cols from

pub value-below : (plan x : Plan) (e : ℕ) (of : Box Plan Global) (cols : Cols) (i from to : ℕ) → plan ≡ plans.Maybe e of → x ≡ of.value
    → from ≡ begin_at (cols e) i → to ≡ number_at (cols e) i → (from ≤ to → from < to) → Readable (plan_view plan) cols i
    → ValueBelow plan x cols i from
value-below plan x e of cols i from to is inside begins ends apart readable =
    let plan_is = is-Maybe plan x e of is inside in
    let r = optional-readable e (plan_view x) cols i (readable-is _ (maybe e (plan_view x)) cols i plan_is readable) in
    let less = apart (omega (arith, r.1, begins, ends)) in
    let f = tree_at (plan_view x) cols in
    record {
      readable = record { size = r.0.size; sound = r.0.sound; within = omega (arith, r.0.within, less, ends) };
      tree = ap (λ p. tree_at p cols i) plan_is
          ∙ only-first f (begin_at (cols e) i) (begin_at (cols e) (suc i)) (omega (arith, less, begins, ends)) ∙ sym (ap f begins);
    }

-- the alternative of a tag
pub inside-choice : (plan : Plan) (s : ℕ) (ps : Plans) (cols : Cols) (i tag : ℕ) → plan ≡ plans.Choice s ps → tag ≡ tag_at (cols s) i
    → 0 < tag → Readable (plan_view plan) cols i → tag - 1 < length ps.list.items
inside-choice plan s ps cols i tag is tag_is some readable =
    let l = ps.list.items in
    let r = readable-is _ (choice s (plans_of (map plan_view l))) cols i (is-Choice plan s ps is) readable in
    omega (arith, some, tag_is, tag-among s (map plan_view l) cols i r, length-map l plan_view)

pub record PickBelow (plan x : Plan) (cols : Cols) (i tag at : ℕ) : Type 0 where
  pub readable : Readable (plan_view x) cols at
  pub tree : tree_at (plan_view plan) cols i ≡ pick tag (tree_at (plan_view x) cols at)

pub pick-below : (plan x : Plan) (s : ℕ) (ps : Plans) (cols : Cols) (i tag at : ℕ) → plan ≡ plans.Choice s ps → tag ≡ tag_at (cols s) i
    → 0 < tag → x ≡ get_or ps.list.items (tag - 1) x → at ≡ number_at (cols s) i → Readable (plan_view plan) cols i
    → PickBelow plan x cols i tag at
pick-below plan x s ps cols i tag at is tag_is some inside index_is readable =
    let l = ps.list.items in
    let plan_is = is-Choice plan s ps is in
    let less = inside-choice plan s ps cols i tag is tag_is some readable in
    let r = readable-is _ (choice s (plans_of (map plan_view l))) cols i plan_is readable in
    let n = of_tag-at l tag x some (omega (arith, less)) inside in
    record {
      readable = subst (Readable (plan_view x) cols) (sym index_is)
          (picked-readable s (plans_of (map plan_view l)) tag (plan_view x) cols i n (sym tag_is) some r);
      tree = ap (λ p. tree_at p cols i) plan_is
          ∙ tree_at-picked s (plans_of (map plan_view l)) tag (plan_view x) cols i n (sym tag_is) some
          ∙ sym (ap (λ j. pick tag (tree_at (plan_view x) cols j)) index_is);
    }
