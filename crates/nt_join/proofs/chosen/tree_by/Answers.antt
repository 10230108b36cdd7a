use Rattle.std.proofs.Common.{◌≡◌, ◌<◌, ◌∙◌, ap, sym, length, Option, subst, arith}
use Rattle.std.specs.Prelude.{IfOk}
use Rattle.nt_types.specs.TreeData.{TreeData}
use Rattle.nt_types.specs.TreeViews.{tree_view}
use Rattle.nt_types.proofs.TreeViews.{view-Nothing}
use Rattle.nt_join.specs.Chosen.{number_in}
use Rattle.nt_join.proofs.Places.{plans-readable, plans-tree, plans-past}
use Rattle.nt_join.proofs.chosen.tree_by.Goals as goal

pub returns-then-place-len : goal.returns-then-place-len
returns-then-place-len g c =
    let past = plans-past c.args.plans.now c.args.place (g.C.Columns.elements c.args.columns.now) c.args.i
    (omega (arith, c.if-place-len.true, c.len.ensures)) in
    view-Nothing ∙ sym past

pub tree-requires-after_bounds : goal.tree-requires-after_bounds
tree-requires-after_bounds g c κs within =
    plans-readable c.args.plans.now c.args.place c.index.result.now (g.C.Columns.elements c.args.columns.now) c.args.i
    (omega (arith, c.if-place-len.false, c.len.ensures)) c.index.ensures c.requires

pub returns : goal.returns
returns g c =
    let same = plans-tree c.args.plans.now c.args.place c.index.result.now (g.C.Columns.elements c.args.columns.now) c.args.i
    (omega (arith, c.if-place-len.false, c.len.ensures)) c.index.ensures in
    subst (λ (x : TreeData). IfOk c.tree.result (λ t. tree_view t ≡ x)) (sym same) c.tree.ensures
