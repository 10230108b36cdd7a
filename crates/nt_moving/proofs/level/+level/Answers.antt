use Rattle.std.proofs.Common.{sym, ◌∙◌, arith}
use Rattle.nt_moving.proofs.Below.{text-below, list-below, value-below, inside-choice, pick-below}
use Rattle.nt_moving.proofs.level.+level.Goals as goal

pub level_at-returns-in-Text-clause-inside : goal.level_at-returns-in-Text-clause-inside
level_at-returns-in-Text-clause-inside g t c =
    let b = text-below c.args.plan.now c.in-Text.ends c.in-Text.bytes (g.C.Columns.elements c.args.columns.now) c.args.i c.begin.result
    c.number-in-Text.result c.in-Text.is c.begin.ensures c.number-in-Text.ensures c.requires in
    (b.order, b.within)

pub level_at-returns-in-List-clause-inside : goal.level_at-returns-in-List-clause-inside
level_at-returns-in-List-clause-inside g t c =
    let b = list-below c.args.plan.now c.deref.result.now c.in-List.ends c.in-List.of (g.C.Columns.elements c.args.columns.now) c.args.i
    c.begin-in-List.result c.number-in-List.result c.in-List.is c.deref.ensures c.begin-in-List.ensures c.number-in-List.ensures
    c.requires in
    (b.order, b.readable)

pub level_at-inside_at-requires-after_bounds : goal.level_at-inside_at-requires-after_bounds
level_at-inside_at-requires-after_bounds g t c κs within =
    (value-below c.args.plan.now c.deref-else-from-number.result.now c.in-Maybe.ends c.in-Maybe.of
    (g.C.Columns.elements c.args.columns.now) c.args.i c.begin-from.result c.number-in-Maybe.result c.in-Maybe.is
    c.deref-else-from-number.ensures c.begin-from.ensures c.number-in-Maybe.ensures
    (λ le. omega (arith, le, c.if-from-number.false)) c.requires).readable

pub level_at-returns-else-from-number-clause-tree : goal.level_at-returns-else-from-number-clause-tree
level_at-returns-else-from-number-clause-tree g t c =
    c.inside_at.ensures.tree
    ∙ sym (value-below c.args.plan.now c.deref-else-from-number.result.now c.in-Maybe.ends c.in-Maybe.of
    (g.C.Columns.elements c.args.columns.now) c.args.i c.begin-from.result c.number-in-Maybe.result c.in-Maybe.is
    c.deref-else-from-number.ensures c.begin-from.ensures c.number-in-Maybe.ensures
    (λ le. omega (arith, le, c.if-from-number.false)) c.requires).tree

pub level_at-index-requires : goal.level_at-index-requires
level_at-index-requires g t c =
    let less = inside-choice c.args.plan.now c.in-Choice.tags c.in-Choice.of (g.C.Columns.elements c.args.columns.now) c.args.i
    c.tag-tag.result c.in-Choice.is c.tag-tag.ensures (omega (arith, c.if-tag-eq0.false)) c.requires in
    omega (arith, less, c.in-Choice.of.list.ok)

pub level_at-returns-else-tag-eq0-clause-tree : goal.level_at-returns-else-tag-eq0-clause-tree
level_at-returns-else-tag-eq0-clause-tree g t c =
    sym (pick-below c.args.plan.now c.index.result.now c.in-Choice.tags c.in-Choice.of (g.C.Columns.elements c.args.columns.now) c.args.i
    c.tag-tag.result c.number-else-tag-eq0.result c.in-Choice.is c.tag-tag.ensures (omega (arith, c.if-tag-eq0.false)) c.index.ensures
    c.number-else-tag-eq0.ensures c.requires).tree

pub level_at-returns-else-tag-eq0-clause-inside : goal.level_at-returns-else-tag-eq0-clause-inside
level_at-returns-else-tag-eq0-clause-inside g t c =
    (pick-below c.args.plan.now c.index.result.now c.in-Choice.tags c.in-Choice.of (g.C.Columns.elements c.args.columns.now) c.args.i
    c.tag-tag.result c.number-else-tag-eq0.result c.in-Choice.is c.tag-tag.ensures (omega (arith, c.if-tag-eq0.false)) c.index.ensures
    c.number-else-tag-eq0.ensures c.requires).readable
