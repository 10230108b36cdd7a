use Rattle.std.proofs.Common.{arith}
use Rattle.nt_shred.proofs.RunOfIntegers.{ends-none, ends-more}
use Rattle.nt_shred.proofs.optional.counted_on.Goals as goal

pub loop-end-init : goal.loop-end-init
loop-end-init c = ends-none c.args.bits c.args.before c.args.last c.args.column c.requires.room.0

pub loop-end-preserved : goal.loop-end-preserved
loop-end-preserved c =
    ends-more c.args.bits c.args.before c.loop-end.end c.args.last c.args.column c.loop-end.ends c.push_at_width.new.self
    c.loop-end.invariant (omega (arith, c.loop-end-test.true)) c.push_at_width.ensures.column c.push_at_width.ensures.spare
