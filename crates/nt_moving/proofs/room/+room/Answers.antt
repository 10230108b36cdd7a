use Rattle.std.proofs.Common.{rules, ◌≡◌, ◌<◌, ◌-◌, ap, subst, sym, arith}
use Rattle.std.specs.Prelude.{IfOk}
use Rattle.nt_plans.specs.PlanViews.{plan_view}
use Rattle.nt_trees.specs.TreeAt.{tree_at}
use Rattle.nt_shred.specs.Most.{most}
use Rattle.nt_moving.proofs.Adding.{length-text}
use Rattle.nt_moving.proofs.Below.{text-below, list-below, value-below, inside-choice, pick-below}
use Rattle.nt_moving.proofs.Ready.{smaller-part}
use Rattle.nt_moving.proofs.Trees.{most_of_all-singles, most_of_all-next}
use Rattle.nt_moving.proofs.room.+room.Goals as goal

-- ---- texts and lists

pub most-returns-in-Text : goal.most-returns-in-Text
most-returns-in-Text g t c =
    let cols = g.C.Columns.elements c.args.columns.now in
    let from = c.begin-from.result in
    let to = c.number-to.result in
    let b = text-below c.args.plan.now c.in-Text.ends c.in-Text.bytes cols c.args.i from to c.in-Text.is c.begin-from.ensures
    c.number-to.ensures c.requires in
    omega (
      arith,
      b.order,
      ap most b.tree,
      length-text (cols c.in-Text.bytes) from (to - from) (omega (arith, b.order, b.within)),
    )

pub most-most_of_all-requires-clause-readable : goal.most-most_of_all-requires-clause-readable
most-most_of_all-requires-clause-readable g t c κs within =
    (list-below c.args.plan.now c.deref.result.now c.in-List.ends c.in-List.of (g.C.Columns.elements c.args.columns.now) c.args.i
    c.begin-from-in-List.result c.number-to-in-List.result c.in-List.is c.deref.ensures c.begin-from-in-List.ensures
    c.number-to-in-List.ensures c.requires).readable

pub most-returns-in_ok-most_of_all-in-List : goal.most-returns-in_ok-most_of_all-in-List
most-returns-in_ok-most_of_all-in-List g t c =
    let b = list-below c.args.plan.now c.deref.result.now c.in-List.ends c.in-List.of (g.C.Columns.elements c.args.columns.now) c.args.i
    c.begin-from-in-List.result c.number-to-in-List.result c.in-List.is c.deref.ensures c.begin-from-in-List.ensures
    c.number-to-in-List.ensures c.requires in
    omega (arith, ap most b.tree, c.in_ok-most_of_all-in-List.ensures)

-- ---- optionals

pub most-most-requires-after_bounds : goal.most-most-requires-after_bounds
most-most-requires-after_bounds g t c κs within =
    (value-below c.args.plan.now c.deref-in-Maybe.result.now c.in-Maybe.ends c.in-Maybe.of (g.C.Columns.elements c.args.columns.now)
    c.args.i c.begin-from-in-Maybe.result c.number.result c.in-Maybe.is c.deref-in-Maybe.ensures c.begin-from-in-Maybe.ensures
    c.number.ensures (λ le. omega (arith, le, c.if-from-number.false)) c.requires).readable

pub most-returns-else-from-number : goal.most-returns-else-from-number
most-returns-else-from-number g t c =
    let b = value-below c.args.plan.now c.deref-in-Maybe.result.now c.in-Maybe.ends c.in-Maybe.of
    (g.C.Columns.elements c.args.columns.now) c.args.i c.begin-from-in-Maybe.result c.number.result c.in-Maybe.is c.deref-in-Maybe.ensures
    c.begin-from-in-Maybe.ensures c.number.ensures (λ le. omega (arith, le, c.if-from-number.false)) c.requires in
    subst (λ v. IfOk c.most.result (λ n. n ≡ most v)) (sym b.tree) c.most.ensures

-- ---- choices

pub most-index-requires : goal.most-index-requires
most-index-requires g t c =
    let less = inside-choice c.args.plan.now c.in-Choice.tags c.in-Choice.of (g.C.Columns.elements c.args.columns.now) c.args.i
    c.tag-tag.result c.in-Choice.is c.tag-tag.ensures (omega (arith, c.if-tag-eq0.false)) c.requires in
    omega (arith, less, c.in-Choice.of.list.ok)

pub most-most-requires-in-Choice : goal.most-most-requires-in-Choice
most-most-requires-in-Choice g t c κs within =
    let cols = g.C.Columns.elements c.args.columns.now in
    let plan = c.args.plan.now in
    let s = c.in-Choice.tags in
    let ps = c.in-Choice.of in
    let tag = c.tag-tag.result in
    let x = c.index.result.now in
    let some : 0 < tag = omega (arith, c.if-tag-eq0.false) in
    let inside = inside-choice plan s ps cols c.args.i tag c.in-Choice.is c.tag-tag.ensures some c.requires in
    let b = pick-below plan x s ps cols c.args.i tag c.number-at.result c.in-Choice.is c.tag-tag.ensures some c.index.ensures
    c.number-at.ensures c.requires in
    let less = smaller-part plan x s ps (tag - 1) c.in-Choice.is inside c.index.ensures in (
      omega (arith, less),
      (search (rules, within), (search rules, b.readable)),
    )

pub most-returns-in_ok-most-in-Choice : goal.most-returns-in_ok-most-in-Choice
most-returns-in_ok-most-in-Choice g t c =
    let b = pick-below c.args.plan.now c.index.result.now c.in-Choice.tags c.in-Choice.of (g.C.Columns.elements c.args.columns.now)
    c.args.i c.tag-tag.result c.number-at.result c.in-Choice.is c.tag-tag.ensures (omega (arith, c.if-tag-eq0.false)) c.index.ensures
    c.number-at.ensures c.requires in
    omega (arith, ap most b.tree, c.in_ok-most-in-Choice.ensures)

-- ---- elements one after the other

pub most_of_all-returns-then-is_single : goal.most_of_all-returns-then-is_single
most_of_all-returns-then-is_single g t c =
    let cols = g.C.Columns.elements c.args.columns.now in
    let from = c.args.from in
    let to = c.args.to in
    omega (
      arith,
      c.requires.order,
      most_of_all-singles (tree_at (plan_view c.args.of.now) cols) from (to - from) (c.is_single.ensures c.if-is_single.true cols),
    )

pub most_of_all-loop-i-preserved : goal.most_of_all-loop-i-preserved
most_of_all-loop-i-preserved g t c =
    let f = tree_at (plan_view c.args.of.now) (g.C.Columns.elements c.args.columns.now) in
    most_of_all-next f c.loop-i.i c.args.to c.loop-i.total c.in_ok-more.more _ _ (omega (arith, c.loop-i-test.true))
    c.in_ok-more.ensures (search rules) c.loop-i.invariant
