use Rattle.nt_skim.proofs.PlanFits.{answer-fits}
use Rattle.nt_skim.proofs.PlanRules.{answer-rules}
use Rattle.nt_skim.proofs.planning.plan.Goals as goal

pub returns-clause-fits : goal.returns-clause-fits
returns-clause-fits c =
    answer-fits c.args.schema.now c.written_shapes_take_the_same.ensures c.args.names.now _ c.planned.result c.planned.ensures

pub returns-clause-rules : goal.returns-clause-rules
returns-clause-rules c some =
    answer-rules c.args.schema.now (λ p. (c.fields_are_tested.ensures p).0) c.args.names.now _ c.planned.result c.planned.ensures some
