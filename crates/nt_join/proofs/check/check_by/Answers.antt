use Rattle.std.proofs.Common.{◌≡◌, ◌∙◌, sym, ap, map, option_map, None}
use Rattle.nt_plans.specs.Plan.{plans_of}
use Rattle.nt_plans.specs.PlanViews.{plan_view, plans_view}
use Rattle.nt_trees.specs.Faults.{fault_in_any}
use Rattle.nt_trees.proofs.NoFault.{AllSound-no_fault}
use Rattle.nt_join.specs.Spots.{spot_of}
use Rattle.nt_join.proofs.Plans.{plans_view-list}
use Rattle.nt_join.proofs.check.check_by.Goals as goal

pub returns-in-None-clause-sound : goal.returns-in-None-clause-sound
returns-in-None-clause-sound g c =
    let cols = g.C.Columns.elements c.args.columns.now in
    let n = c.args.entries in
    let ps = plans_view c.args.plans.now in
    let same = plans_view-list c.args.plans.now ∙ ap (map plan_view) (sym c.deref.ensures.value) in
    let none : fault_in_any (plans_of ps) cols n ≡ None =
    ap (λ l. fault_in_any (plans_of l) cols n) same ∙ sym c.each_fault.ensures ∙ ap (option_map spot_of) c.in-None.is in
    AllSound-no_fault (plans_of ps) cols n none

pub returns-in-None-clause-readable : goal.returns-in-None-clause-readable
returns-in-None-clause-readable g c i l = record {
  size = c.args.entries;
  sound = returns-in-None-clause-sound g c;
  within = l;
}
