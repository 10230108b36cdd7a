use Rattle.std.proofs.Common.{drop, true, nat_lt, length, ◌-◌}
use Rattle.nt_plans.specs.PlanViews.{plan_view}
use Rattle.nt_trees.specs.Views.{plans_in}
use Rattle.nt_shred.proofs.Walks.{SoFarAll, SoFarEach}
use Rattle.nt_shred.proofs.values.+value.Given as goal

abbrev pub invariant-items-loop-next : goal.invariant-items-loop-next
invariant-items-loop-next l = SoFarAll (plan_view l.of) true l.line l.at l.i l.fn.out l.out

abbrev pub decreases-items-loop-next : goal.decreases-items-loop-next
decreases-items-loop-next l = length l.line - l.i

abbrev pub invariant-each-loop-k : goal.invariant-each-loop-k
invariant-each-loop-k l = SoFarEach (plans_in l.plans) (plans_in (drop l.k l.plans)) (nat_lt 0 l.k) l.line l.at l.i l.fn.out l.out
