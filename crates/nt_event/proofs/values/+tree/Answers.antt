use Rattle.std.proofs.Common.{rules, ◌≡◌, ◌<◌, ◌∷◌, [], ◌+◌, ◌-◌, suc, Some, None, option_map, length, map, drop, get_or, sym, ap, ◌∙◌}
use Rattle.std.proofs.Common.{arith, subst}
use Rattle.std.proofs.lemmas.List.{map-append, length-map, drop_all}
use Rattle.serde_json.specs.View.{view, items_view}
use Rattle.nt_types.specs.TreeData.{TreeData, TreesData, pick}
use Rattle.nt_types.specs.ShapeData as kinds
use Rattle.nt_event.specs.Line.{tree_read, all_read, pick_read, one_read}
use Rattle.nt_event.specs.Line as lines
use Rattle.nt_types.specs.Views.{shape_view, member_view, members_view}
use Rattle.nt_types.specs.ShapeData.{kinds_of, parts_of}
use Rattle.nt_types.specs.TreeViews.{tree_view}
use Rattle.nt_types.specs.TreeData.{trees_of}
use Rattle.nt_event.specs.Entry.{trees_then}
use Rattle.nt_types.specs.declared.tree.Tree.{Tree}
use Rattle.nt_event.proofs.ViewLemmas.{view-Items, view-Parts, view-List, view-Rec, view-Tuple, nth-shape}
use Rattle.nt_types.proofs.TreeViews.{view-Pick}
use Rattle.nt_types.specs.declared.shape.Shape.{the_lemmas as shape_lemmas}
use Rattle.nt_types.specs.declared.shape.Member.{Member}
use Rattle.nt_event.proofs.Steps.{picked_is, picked_none, list-tree, record-tree, tuple-tree, all-step, each-step, then-all, lengths-differ}
use Rattle.nt_event.proofs.Steps.{members-differ, member-step, no-pick, one-zero, one-beyond, one-nth}
use Rattle.nt_event.proofs.values.+tree.Goals as goal

pub each-returns-then-shapes-values : goal.each-returns-then-shapes-values
each-returns-then-shapes-values t c =
    sym (lengths-differ (map shape_view c.args.shapes.now) c.args.values.now
    (λ e. omega (arith, e, length-map c.args.shapes.now shape_view, c.if-shapes-values.true)))

pub each_member-returns-then-members-values : goal.each_member-returns-then-members-values
each_member-returns-then-members-values t c =
    sym (members-differ (map member_view c.args.members.now) c.args.values.now
    (λ e. omega (arith, e, length-map c.args.members.now member_view, c.if-members-values.true)))

pub each-loop-i-preserved : goal.each-loop-i-preserved
each-loop-i-preserved t c =
    let olds = c.loop-i.trees.items in
    let more = c.in_ok-push-in-Some.ensures.items in
    let views = ap (map tree_view) more ∙ map-append tree_view olds (c.in-Some.tree ∷ []) in
    let k = c.index-shapes-i.result in
    let x = c.index-values-i.result in
    let at : Some (tree_view c.in-Some.tree) ≡ tree_read (shape_view k) (view x) =
    subst (λ o. option_map tree_view o ≡ tree_read (shape_view k) (view x)) c.in-Some.is c.in_ok-tree.ensures in
    let lt = c.loop-i-test.true in
    record {
      left = each-step _ (map tree_view olds) (tree_view c.in-Some.tree) c.args.shapes.now c.args.values.now c.loop-i.i k x
          (omega (arith, lt)) (omega (arith, lt, c.if-shapes-values.false)) c.index-shapes-i.is c.index-values-i.is
          c.loop-i.invariant.left at
          ∙ ap (λ l. option_map (trees_then l) (lines.kinds_read (kinds_of (map shape_view (drop (c.loop-i.i + 1) c.args.shapes.now)))
          (items_view (drop (c.loop-i.i + 1) c.args.values.now)))) (sym views);
    }

pub each-returns : goal.each-returns
each-returns t c =
    let i = c.loop-i.i in
    let olds = map tree_view c.loop-i.trees.items in
    let done = c.loop-i-test.false in
    sym (c.loop-i.invariant.left
    ∙ ap (λ l. option_map (trees_then olds) (lines.kinds_read (kinds_of (map shape_view l)) (items_view (drop i c.args.values.now))))
    (drop_all i c.args.shapes.now (omega (arith, done)))
    ∙ ap (λ l. option_map (trees_then olds) (lines.kinds_read kinds.no_kinds (items_view l)))
    (drop_all i c.args.values.now (omega (arith, done, c.if-shapes-values.false)))
    ∙ ap (λ (l : TreesData). Some l) (then-all olds))

pub each_member-loop-i-preserved : goal.each_member-loop-i-preserved
each_member-loop-i-preserved t c =
    let olds = c.loop-i.trees.items in
    let more = c.in_ok-push-in-Some.ensures.items in
    let views = ap (map tree_view) more ∙ map-append tree_view olds (c.in-Some.tree ∷ []) in
    let k = c.index-members-i.result in
    let x = c.index-values-i.result in
    let at : Some (tree_view c.in-Some.tree) ≡ tree_read (shape_view k.of) (view x) =
    subst (λ o. option_map tree_view o ≡ tree_read (shape_view (get_or c.args.members.now c.loop-i.i k).of) (view x)) c.in-Some.is
    c.in_ok-tree.ensures
    ∙ ap (λ (m : Member). tree_read (shape_view m.of) (view x)) (sym c.index-members-i.is) in
    let lt = c.loop-i-test.true in
    record {
      left = member-step _ (map tree_view olds) (tree_view c.in-Some.tree) c.args.members.now c.args.values.now c.loop-i.i k x
          (omega (arith, lt)) (omega (arith, lt, c.if-members-values.false)) c.index-members-i.is c.index-values-i.is
          c.loop-i.invariant.left at
          ∙ ap (λ l. option_map (trees_then l) (lines.parts_read (parts_of (map member_view (drop (c.loop-i.i + 1) c.args.members.now)))
          (items_view (drop (c.loop-i.i + 1) c.args.values.now)))) (sym views);
    }

pub each_member-returns : goal.each_member-returns
each_member-returns t c =
    let i = c.loop-i.i in
    let olds = map tree_view c.loop-i.trees.items in
    let done = c.loop-i-test.false in
    sym (c.loop-i.invariant.left
    ∙ ap (λ l. option_map (trees_then olds) (lines.parts_read (parts_of (map member_view l)) (items_view (drop i c.args.values.now))))
    (drop_all i c.args.members.now (omega (arith, done)))
    ∙ ap (λ l. option_map (trees_then olds) (lines.parts_read kinds.no_parts (items_view l)))
    (drop_all i c.args.values.now (omega (arith, done, c.if-members-values.false)))
    ∙ ap (λ (l : TreesData). Some l) (then-all olds))

pub list-loop-value-preserved : goal.list-loop-value-preserved
list-loop-value-preserved t c =
    let f = tree_read (shape_view c.args.of.now) in
    let olds = c.loop-value.trees.items in
    let views = ap (map tree_view) c.in_ok-push-in-Some.ensures.items ∙ map-append tree_view olds (c.in-Some.tree ∷ []) in
    let x = c.value-item.result in
    let at : Some (tree_view c.in-Some.tree) ≡ f (view x) =
    subst (λ o. option_map tree_view o ≡ f (view x)) c.in-Some.is c.in_ok-tree.ensures in
    record {
      left = all-step f _ (map tree_view olds) (tree_view c.in-Some.tree) c.args.values.now c.loop-value.value-index x
          c.loop-value-test.true c.value-item.is c.loop-value.invariant.left at
          ∙ ap (λ l. option_map (trees_then l) (all_read f (items_view (drop (c.loop-value.value-index + 1) c.args.values.now))))
          (sym views);
    }

pub list-returns : goal.list-returns
list-returns t c =
    let olds = map tree_view c.loop-value.trees.items in
    sym (c.loop-value.invariant.left
    ∙ ap (λ l. option_map (trees_then olds) (all_read (tree_read (shape_view c.args.of.now)) (items_view l)))
    (drop_all c.loop-value.value-index c.args.values.now (omega (arith, c.loop-value-test.false)))
    ∙ ap (λ (l : TreesData). Some l) (then-all olds))

pub picked-returns-then-values-ne2 : goal.picked-returns-then-values-ne2
picked-returns-then-values-ne2 t c =
    sym (no-pick (one_read (kinds_of (map shape_view c.args.shapes.now))) c.args.values.now (λ e. omega (arith, e, c.if-values-ne2.true)))

pub picked-returns-then-tag-eq0 : goal.picked-returns-then-tag-eq0
picked-returns-then-tag-eq0 t c =
    let ks = map shape_view c.args.shapes.now in
    sym (picked_none ks c.args.values.now c.index-values-0.result c.in-Some.tag (omega (arith, c.if-values-ne2.false)) c.index-values-0.is
    (sym c.in-Some.is ∙ c.tag.ensures)
    (λ d. ap (λ n. one_read (kinds_of ks) n d) c.if-tag-eq0.true ∙ one-zero ks d))

pub picked-returns-then-tag-shapes : goal.picked-returns-then-tag-shapes
picked-returns-then-tag-shapes t c =
    let ks = map shape_view c.args.shapes.now in
    sym (picked_none ks c.args.values.now c.index-values-0.result c.in-Some.tag (omega (arith, c.if-values-ne2.false)) c.index-values-0.is
    (sym c.in-Some.is ∙ c.tag.ensures)
    (λ d. one-beyond ks c.in-Some.tag d (omega (arith, length-map c.args.shapes.now shape_view, c.if-tag-shapes.true))))

pub picked-returns-in_ok-new-in-Some-2 : goal.picked-returns-in_ok-new-in-Some-2
picked-returns-in_ok-new-in-Some-2 t c =
    let ks = map shape_view c.args.shapes.now in
    let tag = c.in-Some.tag in
    let k = c.index-shapes-tag.result in
    let y = c.index-values-1.result in
    let some = c.if-tag-eq0.false in
    let few = c.if-tag-shapes.false in
    let at : Some (tree_view c.in-Some-2.tree) ≡ tree_read (shape_view k) (view y) =
    subst (λ o. option_map tree_view o ≡ tree_read (shape_view k) (view y)) c.in-Some-2.is c.in_ok-tree.ensures in
    let lt : tag - 1 < length c.args.shapes.now = omega (arith, some, few) in
    let next : tag ≡ suc (tag - 1) = omega (arith, some) in
    ap (λ (v : TreeData). Some v) (view-Pick tag c.in_ok-new-in-Some-2.field-0
    ∙ ap (λ (u : Tree). pick tag (tree_view u)) c.in_ok-new-in-Some-2.ensures.ok)
    ∙ ap (option_map (pick tag)) (at ∙ sym (one-nth ks (tag - 1) (shape_view k) (view y)
    (omega (arith, lt, length-map c.args.shapes.now shape_view)) (nth-shape c.args.shapes.now (tag - 1) k lt c.index-shapes-tag.is))
    ∙ ap (λ n. one_read (kinds_of ks) n (view y)) (sym next))
    ∙ sym (picked_is ks c.args.values.now c.index-values-0.result y tag (omega (arith, c.if-values-ne2.false)) c.index-values-0.is
    c.index-values-1.is (sym c.in-Some.is ∙ c.tag.ensures))

pub picked-returns-in-None : goal.picked-returns-in-None
picked-returns-in-None t c =
    let ks = map shape_view c.args.shapes.now in
    let tag = c.in-Some.tag in
    let k = c.index-shapes-tag.result in
    let y = c.index-values-1.result in
    let some = c.if-tag-eq0.false in
    let few = c.if-tag-shapes.false in
    let at : None ≡ tree_read (shape_view k) (view y) =
    subst (λ o. option_map tree_view o ≡ tree_read (shape_view k) (view y)) c.in-None.is c.in_ok-tree.ensures in
    let lt : tag - 1 < length c.args.shapes.now = omega (arith, some, few) in
    let next : tag ≡ suc (tag - 1) = omega (arith, some) in
    ap (option_map (pick tag)) (at ∙ sym (one-nth ks (tag - 1) (shape_view k) (view y)
    (omega (arith, lt, length-map c.args.shapes.now shape_view)) (nth-shape c.args.shapes.now (tag - 1) k lt c.index-shapes-tag.is))
    ∙ ap (λ n. one_read (kinds_of ks) n (view y)) (sym next))
    ∙ sym (picked_is ks c.args.values.now c.index-values-0.result y tag (omega (arith, c.if-values-ne2.false)) c.index-values-0.is
    c.index-values-1.is (sym c.in-Some.is ∙ c.tag.ensures))

pub tree-returns-in-Some-2 : goal.tree-returns-in-Some-2
tree-returns-in-Some-2 t c =
    let e = c.in_ok-list-in-List.ensures in
    let vs = c.in-Some-2.list in
    let k = c.in-List.of in
    let xs = c.in-Some.values.now in
    let d = view c.args.value.now in
    let all : Some (trees_of (map tree_view vs.items)) ≡ all_read (tree_read (shape_view k.value)) (items_view xs.items) =
    search (rules, e, c.in-Some-2.is, c.deref.ensures, c.deref-in-List.ensures.value) in
    ap (λ (v : TreeData). Some v) (view-Items vs)
    ∙ list-tree (shape_view k.value) d (items_view xs.items) (trees_of (map tree_view vs.items)) c.in-Some.ensures all
    ∙ ap (λ j. tree_read j d) (sym (view-List k)) ∙ ap (λ s. tree_read (shape_view s) d) (sym c.in-List.is)

pub tree-returns-in-Some-3 : goal.tree-returns-in-Some-3
tree-returns-in-Some-3 t c =
    let e = c.in_ok-list-in-Rec.ensures in
    let vs = c.in-Some-3.list in
    let ms = c.in-Rec.members in
    let xs = c.in-Some-as_array.values.now in
    let d = view c.args.value.now in
    let all : Some (trees_of (map tree_view vs.items)) ≡ lines.parts_read (parts_of (members_view ms)) (items_view xs.items) =
    search (rules, shape_lemmas, e, c.in-Some-3.is, c.deref-in-Rec.ensures.value, c.deref-in-Rec-2.ensures.value) in
    ap (λ (v : TreeData). Some v) (view-Parts vs)
    ∙ record-tree (parts_of (members_view ms)) d (items_view xs.items) (trees_of (map tree_view vs.items)) c.in-Some-as_array.ensures all
    ∙ ap (λ j. tree_read j d) (sym (view-Rec ms)) ∙ ap (λ s. tree_read (shape_view s) d) (sym c.in-Rec.is)

pub tree-returns-in-Some-4 : goal.tree-returns-in-Some-4
tree-returns-in-Some-4 t c =
    let e = c.in_ok-list-in-Tuple.ensures in
    let vs = c.in-Some-4.list in
    let ks = c.in-Tuple.shapes in
    let xs = c.in-Some-as_array-2.values.now in
    let d = view c.args.value.now in
    let all : Some (trees_of (map tree_view vs.items)) ≡ lines.kinds_read (kinds_of (map shape_view ks.list.items))
    (items_view xs.items) = search (rules, e, c.in-Some-4.is, c.deref-in-Tuple.ensures.value, c.deref-in-Tuple-2.ensures.value) in
    ap (λ (v : TreeData). Some v) (view-Parts vs)
    ∙ tuple-tree (kinds_of (map shape_view ks.list.items)) d (items_view xs.items) (trees_of (map tree_view vs.items))
    c.in-Some-as_array-2.ensures all
    ∙ ap (λ j. tree_read j d) (sym (view-Tuple ks)) ∙ ap (λ s. tree_read (shape_view s) d) (sym c.in-Tuple.is)
