-- Plans that a plan holds, as they lie.
use Rattle.std.proofs.Common.{◌≡◌, ℕ, map, rules, ap, ◌∙◌}
use Rattle.nt_plans.specs.Plan.{choice, plans_of}
use Rattle.nt_plans.specs.PlanViews.{plan_view, plans_view}
use Rattle.nt_plans.specs.declared.plan.Plan.{the_lemmas}
use Rattle.nt_plans.specs.declared.plan.Plan as plans
use Rattle.nt_plans.specs.declared.plan.Plans.{Plans}
use Rattle.nt_plans.specs.declared.plan.Plans as lists
use Rattle.nt_plans.proofs.PlanViews.{view-Choice}
use Rattle.nt_trees.specs.Views.{plans_in}

listed : (ps : Plans) → plans_view ps ≡ map plan_view ps.list.items
listed ps = search (rules, the_lemmas, lists.the_lemmas)

pub view-alternatives : (tags : ℕ) (ps : Plans) → plan_view (plans.Choice tags ps) ≡ choice tags (plans_in ps.list.items)
view-alternatives tags ps = view-Choice tags ps ∙ ap (λ l. choice tags (plans_of l)) (listed ps)
