use Rattle.std.proofs.Common.{rules, ◌≡◌, ◌<◌, ◌+◌, ◌-◌, ℕ, suc, length, map, sym, ap, ◌∙◌, arith}
use Rattle.std.proofs.lemmas.List.{length-map}
use Rattle.nt_types.specs.ShapeData.{ShapeData, kinds_of}
use Rattle.nt_types.specs.declared.shape.Member.{Member}
use Rattle.nt_types.specs.Views.{shape_view, member_view}
use Rattle.nt_types.specs.TreeViews.{tree_view}
use Rattle.nt_types.specs.Fits.{fits, fits_one}
use Rattle.nt_types.proofs.TreeSteps.{kinds_unequal, parts_unequal, one-zero, one-beyond, one-nth, nth-shape, member_step}
use Rattle.nt_types.proofs.fit.+fits.Goals.{one_fits-then-tag-eq0-via-then-tag-eq0, one_fits-then-tag-eq0-via-else-tag-eq0+then-tag-shapes}
use Rattle.nt_types.proofs.fit.+fits.Goals as goal

pub each_fits-returns-then-shapes-trees : goal.each_fits-returns-then-shapes-trees
each_fits-returns-then-shapes-trees t c =
    let ss = c.args.shapes.now in
    let ts = c.args.trees.now in
    kinds_unequal (map shape_view ss) (map tree_view ts)
    (λ e. c.if-shapes-trees.true (sym (length-map ss shape_view) ∙ e ∙ length-map ts tree_view))

pub members_fit-returns-then-members-trees : goal.members_fit-returns-then-members-trees
members_fit-returns-then-members-trees t c =
    let ms = c.args.members.now in
    let ts = c.args.trees.now in
    parts_unequal (map member_view ms) (map tree_view ts)
    (λ e. c.if-members-trees.true (sym (length-map ms member_view) ∙ e ∙ length-map ts tree_view))

pub members_fit-returns-then-not-takes : goal.members_fit-returns-then-not-takes
members_fit-returns-then-not-takes t c =
    let i = c.loop-i.i in
    let e = member_step c.args.members.now c.args.trees.now i c.index-members-i.result c.index-trees-i.result c.takes.result
    (omega (arith, c.loop-i-test.true)) (omega (arith, c.loop-i-test.true, c.if-members-trees.false)) c.index-members-i.is
    c.index-trees-i.is (c.takes.ensures ∙ ap (λ (m : Member). fits (shape_view m.of) (tree_view c.index-trees-i.result))
    (sym c.index-members-i.is)) in
    search (rules, c.loop-i.invariant, e)

pub members_fit-loop-i-preserved : goal.members_fit-loop-i-preserved
members_fit-loop-i-preserved t c =
    let i = c.loop-i.i in
    let e = member_step c.args.members.now c.args.trees.now i c.index-members-i.result c.index-trees-i.result c.takes.result
    (omega (arith, c.loop-i-test.true)) (omega (arith, c.loop-i-test.true, c.if-members-trees.false)) c.index-members-i.is
    c.index-trees-i.is (c.takes.ensures ∙ ap (λ (m : Member). fits (shape_view m.of) (tree_view c.index-trees-i.result))
    (sym c.index-members-i.is)) in
    search (rules, c.loop-i.invariant, e)

pub one_fits-returns-then-tag-eq0 : goal.one_fits-returns-then-tag-eq0
one_fits-returns-then-tag-eq0 t c =
    let ss = c.args.shapes.now in
    let ks = map shape_view ss in
    let v = tree_view c.args.tree.now in
    elim c.then-tag-eq0.branch [
      | one_fits-then-tag-eq0-via-then-tag-eq0 w ↦ one-zero ks v ∙ ap (λ n. fits_one (kinds_of ks) n v) (sym w.if-tag-eq0.true)
      | one_fits-then-tag-eq0-via-else-tag-eq0+then-tag-shapes w ↦ one-beyond ks c.args.tag v
          (omega (arith, w.if-tag-shapes.true, length-map ss shape_view))
    ]

pub one_fits-returns : goal.one_fits-returns
one_fits-returns t c =
    let ss = c.args.shapes.now in
    let ks = map shape_view ss in
    let k = c.index-shapes-tag.result in
    let v = tree_view c.args.tree.now in
    let in_range : c.args.tag - 1 < length ss = omega (arith, c.if-tag-eq0.false, c.if-tag-shapes.false) in
    let next : suc (c.args.tag - 1) ≡ c.args.tag = omega (arith, c.if-tag-eq0.false) in
    c.takes.ensures ∙ sym (one-nth ks (c.args.tag - 1) (shape_view k) v (omega (arith, in_range, length-map ss shape_view))
    (nth-shape ss (c.args.tag - 1) k in_range c.index-shapes-tag.is)) ∙ ap (λ n. fits_one (kinds_of ks) n v) next
