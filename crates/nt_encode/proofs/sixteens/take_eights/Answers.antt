use Rattle.std.proofs.Common.{length, arith, ◌≡◌, ◌∙◌}
use Rattle.nt_encode.proofs.Lists.{list_of_whole, Filled-set}
use Rattle.nt_encode.proofs.sixteens.take_eights.Goals as goal

pub take_sixteen_64-requires-clause-before : goal.take_sixteen_64-requires-clause-before
take_sixteen_64-requires-clause-before c = rw c.loop-i.auto.out c.loop-i.invariant.1

pub loop-i-preserved : goal.loop-i-preserved
loop-i-preserved c = (omega (arith, c.loop-i-test.true), rw c.loop-i.auto.out at c.take_sixteen_64.ensures)

pub loop-k-init : goal.loop-k-init
loop-k-init c = c.loop-i.invariant.1

pub loop-k-preserved : goal.loop-k-preserved
loop-k-preserved c =
    Filled-set c.loop-k.out c.loop-k.k c.number_at.result _ c.loop-k.invariant
    (omega (arith, c.loop-k-test.true, c.loop-k.auto.out)) c.number_at.ensures

pub returns : goal.returns
returns c =
    let size : length c.loop-k.out ≡ length c.args.out.now = c.loop-k.auto.out ∙ c.loop-i.auto.out in
    rw size (list_of_whole c.loop-k.out _ c.loop-k.k _ size c.loop-k.invariant (omega (arith, c.loop-k-test.false)))
