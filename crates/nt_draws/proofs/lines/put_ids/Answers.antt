use Rattle.std.proofs.Common.{arith}
use Rattle.nt_draws.proofs.Joined.{after_draws-more, ids_text-more}
use Rattle.nt_draws.proofs.lines.put_ids.Goals as goal

pub loop-left-preserved : goal.loop-left-preserved
loop-left-preserved c = (
  after_draws-more _ _ _ _ c.loop-left-test.true c.draw-last.ensures c.loop-left.invariant.0,
  ids_text-more c.loop-left.line.items _ c.loop-left.later c.loop-left.left c.loop-left.last _ _ c.loop-left-test.true c.draw-last.ensures
      c.put_id.ensures.line c.loop-left.invariant.1,
  omega (arith, c.put_id.ensures.len, c.loop-left.invariant.2),
)
