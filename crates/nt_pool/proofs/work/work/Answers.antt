use Rattle.std.proofs.Common.{◌∙◌, refl, ap, subst, arith}
use Rattle.nt_pool.specs.declared.rule.Hand.{Hand}
use Rattle.nt_pool.proofs.Steps.{takes, learns}
use Rattle.nt_pool.proofs.Working.{has-room, works-on}
use Rattle.nt_pool.proofs.work.work.Goals as goal

pub pop_as-requires-clause-rule : goal.pop_as-requires-clause-rule
pop_as-requires-clause-rule g c = (takes g.J.Job.ready _ _ c.loop.invariant.0.part, learns g.J.Job.ready _ _)

pub push_reserved-requires : goal.push_reserved-requires
push_reserved-requires g c =
    let h = has-room g.J.Job.number g.J.Job.does g.J.Job.ready c.args.line.now c.loop.worker c.in-Some-pop_as.job c.pop_as.new.pass
    c.loop.invariant.0 c.in-Some-pop_as.ensures.rule in
    omega (arith, h)

pub loop-preserved : goal.loop-preserved
loop-preserved g c =
    let took = c.in-Some-pop_as.ensures.rule in (
      works-on g.J.Job.number g.J.Job.does g.J.Job.ready c.args.line.now c.loop.worker c.in-Some-pop_as.job c.pop_as.new.pass
          (record { pass = c.pop_as.new.pass; answers = c.push_reserved.new.self })
          (record { number = c.number-number.result; done = c.run-done.result })
          c.loop.invariant.0 c.in-Some-pop_as.ensures.queue took refl c.push_reserved.ensures.items c.push_reserved.ensures.capacity
          (c.number-number.ensures ∙ ap g.J.Job.number c.into_inner-job.ensures)
          (subst (λ j. g.J.Job.does j c.run-done.result) c.into_inner-job.ensures c.run-done.ensures),
      (ap (λ (v : Hand _). v.parts) took.now ∙ c.loop.invariant.1.0, ap (λ (v : Hand _). v.put) took.now ∙ c.loop.invariant.1.1),
    )
