use Rattle.std.proofs.Common.{sym}
use Rattle.nt_outside.proofs.Ranges.{found_at}
use Rattle.nt_outside.proofs.range.place_of.Goals as goal

pub returns-then-eq-clause-place : goal.returns-then-eq-clause-place
returns-then-eq-clause-place c =
    found_at c.args.out.now c.loop-i.i (record { start = 0; len = 0 }) c.args.range c.loop-i-test.true (sym c.if-eq.ensures)
    c.loop-i.invariant
