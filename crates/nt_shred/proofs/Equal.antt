-- By what a plan is.
use Rattle.std.proofs.Common.{◌≡◌, ℕ, ◌+◌, nat_lt, true, List, [], ◌∷◌, Option, None, Some, IfSome, map, rules, sym, ap, ◌∙◌, subst, arith}
use Rattle.std.proofs.lemmas.Bool.{lt-ltb}
use Rattle.nt_column.specs.Column.{Buffer}
use Rattle.nt_event.specs.Standing.{StandsFrom}
use Rattle.nt_plans.specs.Plan.{PlanData, PlansData, record_of, plans_of}
use Rattle.nt_plans.specs.PlanViews.{plan_view, plans_view}
use Rattle.nt_plans.specs.declared.plan.Plan.{the_lemmas}
use Rattle.nt_plans.specs.declared.plan.Plan as plans
use Rattle.nt_plans.specs.declared.plan.Plans.{Plans}
use Rattle.nt_plans.specs.declared.plan.Plans as lists
use Rattle.nt_plans.proofs.PlanViews.{view-Record}
use Rattle.nt_trees.specs.Views.{plans_in}
use Rattle.nt_shred.specs.Places.{Grew}
use Rattle.nt_shred.specs.Walk.{CanPut, Puts, PutsEach, Leaves}
use Rattle.nt_shred.proofs.LineArms.{record-put}

pub can-is : (p q : PlanData) (left : ℕ) (bs : List Buffer) → p ≡ q → CanPut p left bs → CanPut q left bs
can-is p q left bs is can = subst (λ x. CanPut x left bs) is can

pub puts-is : (p q : PlanData) (line : List ℕ) (at end : ℕ) (old new : List Buffer) → p ≡ q → Puts q line at end old new
    → Puts p line at end old new
puts-is p q line at end old new is h = subst (λ x. Puts x line at end old new) (sym is) h

pub leaves-is : (p q : PlanData) (line : List ℕ) (at : ℕ) (old new : List Buffer) (r : Option ℕ) → p ≡ q
    → Leaves (λ end. Puts q line at end old new) old new r → Leaves (λ end. Puts p line at end old new) old new r
leaves-is p q line at old new r is h = subst (λ x. Leaves (λ end. Puts x line at end old new) old new r) (sym is) h

listed : (ps : Plans) → plans_view ps ≡ map plan_view ps.list.items
listed ps = search (rules, the_lemmas, lists.the_lemmas)

pub view-parts : (ps : Plans) → plan_view (plans.Record ps) ≡ record_of (plans_in ps.list.items)
view-parts ps = view-Record ps ∙ ap (λ l. record_of (plans_of l)) (listed ps)

-- ---- what is left where nothing or something was found

pub leaves-none : (P : ℕ → Type 0) (old new : List Buffer) (r : Option ℕ) → r ≡ None → Grew old new → Leaves P old new r
leaves-none P old new r is g = subst (Leaves P old new) (sym is) g

pub leaves-found : (P Q : ℕ → Type 0) (old new : List Buffer) (r : Option ℕ) → IfSome r Q → ((end : ℕ) → Q end → P end) → Grew old new
    → Leaves P old new r
leaves-found P Q old new None h f g = g
leaves-found P Q old new (Some end) h f g = f end h

pub lt-next : (k : ℕ) → nat_lt 0 (k + 1) ≡ true
lt-next k = lt-ltb 0 (k + 1) (omega arith)

pub record-leaves : (p : PlanData) (ps : PlansData) (line : List ℕ) (at first : ℕ) (old new : List Buffer) (r : Option ℕ)
    → p ≡ record_of ps → StandsFrom (91 ∷ []) line at first → Leaves (λ end. PutsEach ps line first end old new) old new r
    → Leaves (λ end. Puts p line at end old new) old new r
record-leaves p ps line at first old new None is begin h = h
record-leaves p ps line at first old new (Some end) is begin h =
    puts-is p (record_of ps) line at end old new is (record-put ps line at first end old new begin h)
