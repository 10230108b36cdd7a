use Rattle.std.proofs.Common.{◌≡◌, ◌*◌, map, drop, option_map, length}
use Rattle.nt_plans.specs.Plan.{plans_of}
use Rattle.nt_plans.specs.PlanViews.{plan_view, plans_view}
use Rattle.nt_trees.specs.Faults.{lower, fault_in_any, fault_under}
use Rattle.nt_join.specs.Spots.{spot_of}
use Rattle.nt_join.proofs.Blocks.{IsFirstUpTo}
use Rattle.nt_join.proofs.check.+check.Given as goal

abbrev pub invariant-each_fault-loop-plan : goal.invariant-each_fault-loop-plan
invariant-each_fault-loop-plan g l =
    let cols = g.C.Columns.elements l.columns in
    lower (option_map spot_of l.fault) (fault_in_any (plans_of (map plan_view (drop l.plan-index l.plans))) cols l.needed)
    ≡ fault_in_any (plans_of (map plan_view l.plans)) cols l.needed

abbrev pub invariant-choice_fault-loop-block : goal.invariant-choice_fault-loop-block
invariant-choice_fault-loop-block g l =
    let cols = g.C.Columns.elements l.columns in
    let ps = plans_view l.of in
    record {
      first : IsFirstUpTo (length ps) (l.block * 128) (cols l.tags) l.first;
      below : lower (option_map spot_of l.below) (fault_under (l.block * 128) (plans_of (drop (l.block * 128) ps)) (cols l.tags) cols)
          ≡ fault_under 0 (plans_of ps) (cols l.tags) cols;
    }

abbrev pub invariant-block_fault-loop-j : goal.invariant-block_fault-loop-j
invariant-block_fault-loop-j g l =
    let cols = g.C.Columns.elements l.columns in
    let ps = map plan_view l.of in
    lower (option_map spot_of l.fault) (fault_under l.j (plans_of (drop l.j ps)) (cols l.tags) cols)
    ≡ lower (option_map spot_of l.fn.known) (fault_under l.low (plans_of (drop l.low ps)) (cols l.tags) cols)
