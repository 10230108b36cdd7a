use Rattle.std.proofs.Common.{arith}
use Rattle.nt_open.proofs.Marking.{use_at-snoc}
use Rattle.nt_open.proofs.uses.no_uses.Goals as goal

pub loop-uses-preserved : goal.loop-uses-preserved
loop-uses-preserved c = record {
  count = omega (arith, c.in_ok-push.ensures.len);
  none = rw c.in_ok-push.ensures.items (use_at-snoc c.loop-uses.uses.items c.loop-uses.invariant.none);
}
