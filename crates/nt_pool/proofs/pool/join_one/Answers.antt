use Rattle.std.proofs.Common.{refl, arith}
use Rattle.crossbeam_queue.specs.Passes.{view}
use Rattle.nt_pool.proofs.Steps.{joins, learns}
use Rattle.nt_pool.proofs.Working.{pairs-length, joined-few, joins-work}
use Rattle.nt_pool.proofs.pool.join_one.Goals as goal

pub absorb-requires-clause-rule : goal.absorb-requires-clause-rule
absorb-requires-clause-rule g c = joins g.J.Job.ready _ _ _ _ c.requires.own.part

pub learn_as-requires-clause-rule : goal.learn_as-requires-clause-rule
learn_as-requires-clause-rule g c = learns g.J.Job.ready _ _

pub unreachable-requires : goal.unreachable-requires
unreachable-requires g c =
    let learned = c.learn_as.ensures.rule in
    let few = joined-few g.J.Job.number g.J.Job.does c.args.line.now (view c.args.own.now.pass) (view c.args.other.pass)
    (view c.absorb.new.pass) learned.0
    c.absorb.ensures.rule c.requires.own.part learned.1 in
    let a = pairs-length g.J.Job.number g.J.Job.does (view c.args.own.now.pass).taken c.args.own.now.answers.items c.requires.own.pairs in
    let b = pairs-length g.J.Job.number g.J.Job.does (view c.args.other.pass).taken c.args.other.answers.items c.requires.other.pairs in
    let r = c.requires.own.room in
    omega (arith, few, a, b, r, c.in_default.ensures.full)

pub returns-clause-own : goal.returns-clause-own
returns-clause-own g c =
    joins-work g.J.Job.number g.J.Job.does c.args.line.now c.args.own.now c.args.other
    (record { pass = c.learn_as.new.pass; answers = c.append-put.new.self })
    c.absorb.new.pass c.learn_as.new.pass c.requires.own c.requires.other c.absorb.ensures.queue c.absorb.ensures.rule
    c.learn_as.ensures.queue.0 c.learn_as.ensures.queue.1
    refl c.in-Ok.ensures.items c.in-Ok.ensures.capacity
