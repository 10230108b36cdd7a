use Rattle.std.proofs.Common.{◌<◌, ◌+◌, length, arith}
use Rattle.nt_view.proofs.Laid.{no_page}
use Rattle.nt_view.proofs.Viewed.{counted-same, counted-other, counted-le}
use Rattle.nt_view.proofs.view.count_before.Goals as goal
use Rattle.nt_view.proofs.view.count_before.Goals.{then-pages-i, else-pages-i}

pub overflow_add-count : goal.overflow_add-count
overflow_add-count c =
    let ps = c.args.pages.now in
    let k = c.args.column in
    let i = c.loop-i.i in
    let lt : i < length ps = omega (arith, c.loop-i-test.true, c.requires.within) in
    omega (
      arith,
      c.loop-i.invariant,
      counted-same k ps i no_page lt c.if-pages-i.true,
      counted-le k ps (i + 1),
      c.requires.few,
    )

pub loop-i-preserved : goal.loop-i-preserved
loop-i-preserved c =
    let ps = c.args.pages.now in
    let k = c.args.column in
    let i = c.loop-i.i in
    let lt : i < length ps = omega (arith, c.loop-i-test.true, c.requires.within) in
    elim c.if-pages-i.branch [
      | then-pages-i w ↦ omega (arith, w.count-is, c.loop-i.invariant, counted-same k ps i no_page lt w.if-pages-i.true)
      | else-pages-i w ↦ omega (arith, w.count-is, c.loop-i.invariant, counted-other k ps i no_page lt w.if-pages-i.false)
    ]
