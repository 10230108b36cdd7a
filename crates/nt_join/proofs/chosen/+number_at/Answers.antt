use Rattle.std.proofs.Common.{◌≡◌, ◌<◌, ◌∙◌, ap, sym, suc, arith}
use Rattle.nt_plans.specs.Plan.{maybe}
use Rattle.nt_plans.specs.PlanViews.{plan_view}
use Rattle.nt_plans.proofs.PlanViews.{view-Maybe}
use Rattle.nt_trees.specs.Columns.{begin_at}
use Rattle.nt_trees.specs.TreeAt.{tree_at}
use Rattle.nt_join.specs.Chosen.{number_in}
use Rattle.nt_join.proofs.Joins.{only-first}
use Rattle.nt_join.proofs.Reach.{readable-is, optional-readable}
use Rattle.nt_join.proofs.chosen.+number_at.Goals as goal

pub number_at-requires-after_bounds : goal.number_at-requires-after_bounds
number_at-requires-after_bounds g t c κs within =
    let cols = g.C.Columns.elements c.args.columns.now in
    let k = c.in-Maybe.ends in
    let of = plan_view c.deref.result.now in
    let is = ap plan_view c.in-Maybe.is ∙ view-Maybe k c.in-Maybe.of ∙ ap (λ p. maybe k (plan_view p)) (sym c.deref.ensures) in
    let r = optional-readable k of cols c.args.i (readable-is _ (maybe k of) cols c.args.i is c.requires) in
    record {
      size = r.0.size;
      sound = r.0.sound;
      within = omega (arith, r.0.within, r.1, c.begin-from.ensures, c.number-in-Maybe.ensures, c.if-from-number.false);
    }

pub returns-else-from-number : goal.returns-else-from-number
returns-else-from-number g t c =
    let cols = g.C.Columns.elements c.args.columns.now in
    let k = c.in-Maybe.ends in
    let i = c.args.i in
    let of = plan_view c.deref.result.now in
    let is = ap plan_view c.in-Maybe.is ∙ view-Maybe k c.in-Maybe.of ∙ ap (λ p. maybe k (plan_view p)) (sym c.deref.ensures) in
    let r = optional-readable k of cols i (readable-is _ (maybe k of) cols i is c.requires) in
    let less : begin_at (cols k) i < begin_at (cols k) (suc i) =
    omega (arith, r.1, c.begin-from.ensures, c.number-in-Maybe.ensures, c.if-from-number.false) in
    c.number_at.ensures ∙ ap (λ j. number_in (tree_at of cols j)) c.begin-from.ensures
    ∙ ap number_in (sym (only-first (tree_at of cols) (begin_at (cols k) i) (begin_at (cols k) (suc i)) less))
    ∙ ap (λ p. number_in (tree_at p cols i)) (sym is)
