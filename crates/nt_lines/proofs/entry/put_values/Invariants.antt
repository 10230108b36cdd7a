use Rattle.std.proofs.Common.{◌≡◌, ◌≤◌, ◌++◌, length, map, take, drop}
use Rattle.nt_plans.specs.Plan.{plans_of}
use Rattle.nt_plans.specs.PlanViews.{plan_view}
use Rattle.nt_join.specs.Readable.{ReadableEach}
use Rattle.nt_lines.specs.declared.lent.LentPlan.{LentPlan}
use Rattle.nt_lines.specs.Lines.{rest_behind}
use Rattle.nt_lines.proofs.entry.put_values.Given as goal

-- the values so far
abbrev pub invariant-loop-k : goal.invariant-loop-k
invariant-loop-k g l =
    let cols = g.C.Columns.elements l.lines.columns.now in
    let plans = l.lines.plans.items in
    record {
      high : l.k ≤ length plans;
      readable : ReadableEach (plans_of (map (λ (p : LentPlan). plan_view p.plan.now) (drop l.k plans))) cols l.i;
      text : l.out.items ++ rest_behind l.k plans cols l.i ≡ l.fn.out.items ++ rest_behind l.count plans cols l.i;
      kept : take (length l.fn.out.items) l.out.items ≡ l.fn.out.items;
    }
