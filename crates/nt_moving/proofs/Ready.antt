-- What is known of each form of plan and level.
use Rattle.std.proofs.Common.{rules, ◌≡◌, ◌<◌, ℕ, List, Box, Global, length, get_or, sym, ap, subst, ◌∙◌}
use Rattle.nt_column.specs.Column.{Buffer}
use Rattle.nt_plans.specs.Plan.{PlanData, list, maybe, choice}
use Rattle.nt_plans.specs.PlanViews.{plan_view}
use Rattle.nt_plans.specs.declared.plan.Plan.{Plan, the_lemmas as plan_lemmas}
use Rattle.nt_plans.specs.declared.plan.Plan as plans
use Rattle.nt_plans.specs.declared.plan.Plans.{Plans}
use Rattle.nt_plans.proofs.plan.Plan.TheLaws.{the_size}
use Rattle.nt_plans.proofs.PlanViews.{view-List, view-Maybe}
use Rattle.nt_trees.specs.Columns.{Cols}
use Rattle.nt_trees.specs.Put.{put_tree}
use Rattle.nt_trees.specs.Views.{plans_in}
use Rattle.nt_shred.specs.Steps.{Ready, GainsInRoom}
use Rattle.nt_shred.proofs.PlanLists.{view-alternatives}
use Rattle.nt_moving.specs.Levels.{level_tree}
use Rattle.nt_moving.specs.declared.level.Level.{Level}

-- of a plan and a level that are these
pub ready-of : (plan : Plan) (p : PlanData) (l m : Level) (cols : Cols) (bs : List Buffer) → plan_view plan ≡ p → l ≡ m
    → Ready (plan_view plan) (level_tree l cols) bs → Ready p (level_tree m cols) bs
ready-of plan p l m cols bs plan_is is r =
    subst (λ x. Ready p (level_tree x cols) bs) is (subst (λ q. Ready q (level_tree l cols) bs) plan_is r)

pub gains-of : (plan : Plan) (p : PlanData) (l m : Level) (cols : Cols) (old new : List Buffer) → plan_view plan ≡ p → l ≡ m
    → GainsInRoom (put_tree p (level_tree m cols)) old new → GainsInRoom (put_tree (plan_view plan) (level_tree l cols)) old new
gains-of plan p l m cols old new plan_is is g =
    subst (λ q. GainsInRoom (put_tree q (level_tree l cols)) old new) (sym plan_is)
    (subst (λ x. GainsInRoom (put_tree p (level_tree x cols)) old new) (sym is) g)

-- ---- what a plan is

pub is-List : (plan x : Plan) (e : ℕ) (of : Box Plan Global) → plan ≡ plans.List e of → x ≡ of.value
    → plan_view plan ≡ list e (plan_view x)
is-List plan x e of is inside = ap plan_view is ∙ view-List e of ∙ ap (λ p. list e (plan_view p)) (sym inside)

pub is-Maybe : (plan x : Plan) (e : ℕ) (of : Box Plan Global) → plan ≡ plans.Maybe e of → x ≡ of.value
    → plan_view plan ≡ maybe e (plan_view x)
is-Maybe plan x e of is inside = ap plan_view is ∙ view-Maybe e of ∙ ap (λ p. maybe e (plan_view p)) (sym inside)

pub is-Choice : (plan : Plan) (s : ℕ) (ps : Plans) → plan ≡ plans.Choice s ps → plan_view plan ≡ choice s (plans_in ps.list.items)
is-Choice plan s ps is = ap plan_view is ∙ view-alternatives s ps

-- an alternative is smaller
pub smaller-part : (plan x : Plan) (s : ℕ) (ps : Plans) (i : ℕ) → plan ≡ plans.Choice s ps → i < length ps.list.items
    → x ≡ get_or ps.list.items i x → the_size x < the_size plan
smaller-part plan x s ps i is h inside = search (rules, plan_lemmas)
