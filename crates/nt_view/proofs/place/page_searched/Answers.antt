use Rattle.std.proofs.Common.{arith}
use Rattle.nt_view.proofs.Places.{between-all, between-up, between-down, between-found}
use Rattle.nt_view.proofs.place.page_searched.Goals as goal

pub loop-high-init : goal.loop-high-init
loop-high-init c = between-all c.args.pages.now c.args.i c.requires.within

pub loop-high-preserved-then-pages-middle : goal.loop-high-preserved-then-pages-middle
loop-high-preserved-then-pages-middle c =
    between-up c.args.pages.now c.loop-high.low _ c.loop-high.high c.args.i _ c.requires.follow c.loop-high.invariant
    (omega (arith, c.loop-high-test.true)) c.if-pages-middle.true

pub loop-high-preserved : goal.loop-high-preserved
loop-high-preserved c =
    between-down c.args.pages.now c.loop-high.low _ c.loop-high.high c.args.i _ c.requires.follow c.loop-high.invariant
    (omega (arith, c.loop-high-test.true)) (omega (arith, c.loop-high-test.true)) c.if-pages-middle.false

pub returns : goal.returns
returns c =
    between-found c.args.pages.now c.loop-high.low c.loop-high.high c.args.i c.requires.follow c.loop-high.invariant
    (omega (arith, c.loop-high-test.false))
