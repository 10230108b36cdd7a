use Rattle.std.proofs.Common.{◌≡◌, ◌<◌, ℕ, length, map, drop}
use Rattle.std.specs.Option.{option_or}
use Rattle.nt_plans.specs.Plan.{plans_of}
use Rattle.nt_plans.specs.PlanViews.{plan_view}
use Rattle.nt_open.specs.Uses.{principal_in_any, use_in, use_at}
use Rattle.nt_open.proofs.uses.+mark.Given as goal

abbrev pub invariant-mark_all-loop-plan : goal.invariant-mark_all-loop-plan
invariant-mark_all-loop-plan l = record {
  count : length l.uses ≡ length l.initial.uses;
  each : (k : ℕ) → k < length l.initial.uses
      → option_or (use_at l.uses k) (use_in l.of.top (principal_in_any l.of.principal
      (plans_of (map plan_view (drop l.plan-index l.plans))) k))
      ≡ option_or (use_at l.initial.uses k) (use_in l.of.top (principal_in_any l.of.principal (plans_of (map plan_view l.plans)) k));
}
