-- Plans in the code, and the data that they stand for.
use Rattle.std.proofs.Common.{◌≡◌, ℕ, zero, suc, ◌<◌, List, [], ◌∷◌, length, map, drop, get_or, sym, ap, arith, rules}
use Rattle.nt_plans.specs.PlanViews.{plan_view, plans_view}
use Rattle.nt_plans.specs.declared.plan.Plan.{Plan, the_lemmas}
use Rattle.nt_plans.specs.declared.plan.Plans.{Plans}

pub plans_view-list : (ps : Plans) → plans_view ps ≡ map plan_view ps.list.items
plans_view-list ps = search (rules, the_lemmas)

pub drop-plan : (l : List Plan) (j : ℕ) (x : Plan) → j < length l → x ≡ get_or l j x
    → drop j (map plan_view l) ≡ plan_view x ∷ drop (suc j) (map plan_view l)
drop-plan [] j x h is = absurd (omega arith)
drop-plan (y ∷ l) zero x h is = ap (λ p. plan_view p ∷ map plan_view l) (sym is)
drop-plan (y ∷ l) (suc j) x h is = drop-plan l j x (omega arith) is
