use Rattle.std.proofs.Common.{ap, ◌∙◌}
use Rattle.nt_plans.specs.PlanViews.{plan_view}
use Rattle.nt_plans.proofs.PlanViews.{view-Number}
use Rattle.nt_moving.proofs.words.run_of.Goals as goal

pub returns-then-has_width : goal.returns-then-has_width
returns-then-has_width g c =
    let n = c.in-Number in
    let width = c.has_width.ensures c.if-has_width.true in
    record {
      source = c.in_ok-source-in-Number.source;
      bits = n.bits;
      signed = n.signed;
      to_is = ap plan_view n.is ∙ view-Number n.column n.bits n.signed;
      from_is = c.in_ok-source-in-Number.ensures;
      width = width.0;
      known = width.1;
      fit = width.2;
      lent = c.in_ok-words-in-Number.ensures.words;
    }
