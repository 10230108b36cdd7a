use Rattle.std.proofs.Common.{◌≡◌, ◌≤◌, ◌++◌, length, map, take, drop}
use Rattle.nt_event.specs.Json.{line_of}
use Rattle.nt_plans.specs.Plan.{plans_of}
use Rattle.nt_plans.specs.PlanViews.{plan_view}
use Rattle.nt_join.specs.Readable.{ReadableEach}
use Rattle.nt_lines.specs.declared.lent.LentPlan.{LentPlan}
use Rattle.nt_lines.specs.Lines.{entry_trees, rest_behind}
use Rattle.nt_lines.proofs.entry.place_values.Given as goal

-- the values so far
abbrev pub invariant-loop-k : goal.invariant-loop-k
invariant-loop-k g l =
    let cols = g.C.Columns.elements l.lines.columns.now in
    let plans = l.lines.plans.items in
    record {
      low : l.from ≤ l.at;
      within : l.at ≤ length l.room;
      same : length l.room ≡ length l.fn.room;
      kept : take l.from l.room ≡ take l.from l.fn.room;
      readable : ReadableEach (plans_of (map (λ (p : LentPlan). plan_view p.plan.now) (drop l.k plans))) cols l.i;
      text : take l.at l.room ++ rest_behind l.k plans cols l.i ≡ take l.from l.fn.room ++ line_of (entry_trees plans cols l.i);
    }
