use Rattle.std.proofs.Common.{arith}
use Rattle.nt_lines.proofs.LentPlans.{lent-more}
use Rattle.nt_lines.proofs.lent.lent_plans.Goals as goal

pub loop-k-preserved : goal.loop-k-preserved
loop-k-preserved g c =
    lent-more c.args.plans.now (g.C.Columns.elements c.args.columns.now) c.loop-k.lent.items c.push.new.self.items c.loop-k.k
    _ (omega (arith, c.loop-k-test.true)) c.loop-k.invariant
    c.index-plans-k.is c.lent_of.ensures c.in_ok-push.ensures.items
