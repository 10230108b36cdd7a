use Rattle.std.proofs.Common.{rules, refl, ◌≡◌, ◌<◌, ◌∷◌, [], ◌++◌, ◌+◌, ◌-◌, ◌^◌, ◌==◌, List, length, map, take, get_or, not, sym, ap, ◌∙◌}
use Rattle.std.proofs.Common.{arith, subst, length-append, IfSome, decimal}
use Rattle.std.proofs.lemmas.List.{map-append, length-map, take_all}
use Rattle.std.specs.Vec.{vec_len}
use Rattle.nt_types.specs.Views.{shape_view, member_view, members_view}
use Rattle.nt_types.specs.ShapeData.{kinds_of, parts_of}
use Rattle.nt_types.specs.TreeViews.{tree_view}
use Rattle.nt_types.specs.TreeData.{trees_of, pick, nothing}
use Rattle.nt_types.specs.ShapeData as kinds
use Rattle.nt_types.specs.declared.shape.Shape.{the_lemmas as shape_lemmas}
use Rattle.nt_types.specs.declared.tree.Tree.{Tree, the_lemmas as tree_lemmas}
use Rattle.nt_types.specs.declared.tree.Tree as trees
use Rattle.nt_event.specs.Standing.{StandsFrom, MayStand, ItemsStand, ReadsValue, AllGood, EachGood, jsons_of, kinds_in}
use Rattle.nt_event.proofs.Texts.{OpenStands, are_some, open-next, open-end, comma-some, reads-list, reads-record}
use Rattle.nt_event.proofs.GoodValues.{all-next, each-next}
use Rattle.nt_event.proofs.Texts.{reads-tuple, reads-pick, reads-null, reads-no_value, may-past}
use Rattle.nt_event.proofs.ViewLemmas.{some_views, next-shapes, nth-shape, view-Items, view-Parts, view-List, view-Rec, view-Tuple}
use Rattle.nt_event.proofs.ViewLemmas.{next-members, length-kinds_in, seen-as}
use Rattle.nt_types.proofs.TreeViews.{view-Pick}
use Rattle.nt_event.proofs.scan.+value.Goals as goal

pub items-loop-next-preserved : goal.items-loop-next-preserved
items-loop-next-preserved t c =
    let v = c.loop-next.invariant in
    let comma = c.in-Some-comma.ensures in
    let text = c.args.text.now in
    let deep = c.args.deep in
    let k = shape_view c.args.of.now in
    let item : ReadsValue deep k (tree_view c.in-Some-3.item) text c.in-Some-comma.next c.in-Some-3.end =
    subst (λ o. IfSome o (λ r. ReadsValue deep k (tree_view r.0) text c.in-Some-comma.next r.1)) c.in-Some-3.is c.in_ok-item.ensures in
    let xs = c.loop-next.list.items in
    let more = c.in_ok-push-2.ensures.items in
    let views = ap (map tree_view) more ∙ map-append tree_view xs (c.in-Some-3.item ∷ []) in
    let olds = map tree_view xs in
    let commas = comma-some olds text c.loop-next.i c.in-Some-comma.next (omega (arith, v.some, length-map xs tree_view)) comma in
    record {
      some = omega (arith, ap length more, length-append xs (c.in-Some-3.item ∷ []));
      within = item.stands.within;
      past = omega (arith, v.past, comma.some, item.stands.some);
      stands = subst (λ vs. OpenStands vs text c.args.at c.in-Some-3.end) (sym views)
          (open-next text c.args.at c.loop-next.i c.in-Some-comma.next c.in-Some-3.end olds (tree_view c.in-Some-3.item) v.stands commas
          item.stands);
      good = subst (AllGood deep k) (sym views) (all-next deep k olds (tree_view c.in-Some-3.item) v.good item.good);
    }

pub items-loop-next-init : goal.items-loop-next-init
items-loop-next-init t c =
    let text = c.args.text.now in
    let at = c.args.at in
    let deep = c.args.deep in
    let k = shape_view c.args.of.now in
    let first = c.in-Some-2.first in
    let i = c.in-Some-2.i in
    let item : ReadsValue deep k (tree_view first) text at i =
    subst (λ o. IfSome o (λ r. ReadsValue deep k (tree_view r.0) text at r.1)) c.in-Some-2.is c.in_ok-first.ensures in
    let more = c.in_ok-push.ensures.items ∙ ap (λ (l : List Tree). l ++ first ∷ []) c.in_ok-list.ensures.items in
    let views = ap (map tree_view) more in
    record {
      some = omega (arith, ap length more);
      within = item.stands.within;
      past = item.stands.some;
      stands = subst (λ vs. OpenStands vs text at i) (sym views) (open-next text at at at i [] (tree_view first) refl refl item.stands);
      good = subst (AllGood deep k) (sym views) (item.good, tt);
    }

pub items-returns-in-Some-clause-stands : goal.items-returns-in-Some-clause-stands
items-returns-in-Some-clause-stands t c =
    subst (λ (vs : List Tree). ItemsStand (jsons_of (trees_of (map tree_view vs))) c.args.text.now c.args.at c.in-Some.end)
    (sym c.new.ensures.items) (open-end c.args.text.now c.args.at c.args.at c.in-Some.end [] (omega arith) refl c.in-Some.ensures)

pub items-returns-in-Some-after-clause-stands : goal.items-returns-in-Some-after-clause-stands
items-returns-in-Some-after-clause-stands t c =
    let v = c.loop-next.invariant in
    open-end c.args.text.now c.args.at c.loop-next.i c.in-Some-after.end (map tree_view c.loop-next.list.items) (omega (arith, v.past))
    v.stands c.in-Some-after.ensures

pub each-loop-shape-preserved : goal.each-loop-shape-preserved
each-loop-shape-preserved t c =
    let v = c.loop-shape.invariant in
    let text = c.args.text.now in
    let deep = c.args.deep in
    let shape = c.shape-item.result in
    let next = c.in-Some.next in
    let end = c.in-Some-2.end in
    let w = tree_view c.in-Some-2.tree in
    let item : ReadsValue deep (shape_view shape) w text next end =
    subst (λ o. IfSome o (λ r. ReadsValue deep (shape_view shape) (tree_view r.0) text next r.1)) c.in-Some-2.is c.in_ok-tree.ensures in
    let xs = c.loop-shape.list.items in
    let olds = map tree_view xs in
    let views = ap (map tree_view) c.in_ok-push.ensures.items ∙ map-append tree_view xs (c.in-Some-2.tree ∷ []) in
    let same : length xs ≡ vec_len c.loop-shape.list = search rules in
    let stands : not c.is_empty.result ≡ are_some olds = ap not (c.is_empty.ensures ∙ ap (λ n. n == 0) (sym same)) ∙ sym (some_views xs) in
    let comma : MayStand (are_some olds) text c.loop-shape.i next =
    subst (λ b. MayStand b text c.loop-shape.i next) stands c.in-Some.ensures in
    let ks = take c.loop-shape.shape-index (map shape_view c.args.shapes.now) in
    record {
      within = item.stands.within;
      past = omega (arith, v.past, may-past (are_some olds) text c.loop-shape.i next comma, item.stands.some);
      stands = subst (λ vs. OpenStands vs text c.args.at end) (sym views)
          (open-next text c.args.at c.loop-shape.i next end olds w v.stands comma item.stands);
      good = subst (EachGood deep (take (c.loop-shape.shape-index + 1) (map shape_view c.args.shapes.now))) (sym views)
          (subst (λ l. EachGood deep l (olds ++ w ∷ []))
          (sym (next-shapes c.args.shapes.now c.loop-shape.shape-index shape (omega (arith, c.loop-shape-test.true)) c.shape-item.is))
          (each-next deep ks (shape_view shape) olds w v.good item.good));
    }

pub each-returns-in-Some-after-clause-stands : goal.each-returns-in-Some-after-clause-stands
each-returns-in-Some-after-clause-stands t c =
    let v = c.loop-shape.invariant in
    open-end c.args.text.now c.args.at c.loop-shape.i c.in-Some-after.end (map tree_view c.loop-shape.list.items) v.past v.stands
    c.in-Some-after.ensures

pub each_member-loop-member-preserved : goal.each_member-loop-member-preserved
each_member-loop-member-preserved t c =
    let v = c.loop-member.invariant in
    let text = c.args.text.now in
    let deep = c.args.deep in
    let member = c.member-item.result in
    let next = c.in-Some.next in
    let end = c.in-Some-2.end in
    let w = tree_view c.in-Some-2.tree in
    let item : ReadsValue deep (shape_view member.of) w text next end =
    subst (λ o. IfSome o (λ r. ReadsValue deep (shape_view member.of) (tree_view r.0) text next r.1)) c.in-Some-2.is c.in_ok-tree.ensures in
    let xs = c.loop-member.list.items in
    let olds = map tree_view xs in
    let views = ap (map tree_view) c.in_ok-push.ensures.items ∙ map-append tree_view xs (c.in-Some-2.tree ∷ []) in
    let same : length xs ≡ vec_len c.loop-member.list = search rules in
    let stands : not c.is_empty.result ≡ are_some olds = ap not (c.is_empty.ensures ∙ ap (λ n. n == 0) (sym same)) ∙ sym (some_views xs) in
    let comma : MayStand (are_some olds) text c.loop-member.i next =
    subst (λ b. MayStand b text c.loop-member.i next) stands c.in-Some.ensures in
    let i = c.loop-member.member-index in
    let ks = kinds_in (map member_view c.args.members.now) in
    record {
      within = item.stands.within;
      past = omega (arith, v.past, may-past (are_some olds) text c.loop-member.i next comma, item.stands.some);
      stands = subst (λ vs. OpenStands vs text c.args.at end) (sym views)
          (open-next text c.args.at c.loop-member.i next end olds w v.stands comma item.stands);
      good = subst (EachGood deep (take (i + 1) ks)) (sym views)
          (subst (λ l. EachGood deep l (olds ++ w ∷ []))
          (sym (next-members c.args.members.now i member (omega (arith, c.loop-member-test.true)) c.member-item.is))
          (each-next deep (take i ks) (shape_view member.of) olds w v.good item.good));
    }

pub each_member-returns-in-Some-after-clause-stands : goal.each_member-returns-in-Some-after-clause-stands
each_member-returns-in-Some-after-clause-stands t c =
    let v = c.loop-member.invariant in
    open-end c.args.text.now c.args.at c.loop-member.i c.in-Some-after.end (map tree_view c.loop-member.list.items) v.past v.stands
    c.in-Some-after.ensures

pub each_member-returns-in-Some-after-clause-good : goal.each_member-returns-in-Some-after-clause-good
each_member-returns-in-Some-after-clause-good t c =
    let i = c.loop-member.member-index in
    let ks = kinds_in (map member_view c.args.members.now) in
    subst (λ l. EachGood c.args.deep l (map tree_view c.loop-member.list.items))
    (take_all i ks (omega (arith, c.loop-member-test.false, length-kinds_in c.args.members.now))) c.loop-member.invariant.good

pub value-returns-in-Some-2 : goal.value-returns-in-Some-2
value-returns-in-Some-2 t c =
    let e = c.in_ok-list-in-List.ensures in
    let text = c.args.text.now in
    let vs = c.in-Some-2.list in
    let end = c.in-Some-2.end in
    let k = c.in-List.of in
    let deep = c.in-Some.inside in
    let so = subst (λ o. IfSome o (λ r. ItemsStand (jsons_of (trees_of (map tree_view r.0.items))) text c.in-Some.first r.1))
    c.in-Some-2.is e.stands in
    let good : AllGood deep (shape_view k.value) (map tree_view vs.items) = search (rules, e.good, c.in-Some-2.is, c.deref.ensures) in
    let read = reads-list deep (shape_view k.value) (map tree_view vs.items) text c.args.at c.in-Some.first end c.in-Some.ensures.bracket
    so good in
    seen-as c.args.deep (deep + 1) (shape_view c.args.shape.now) (kinds.list (shape_view k.value))
    (tree_view (trees.Items (record { list = vs }))) _ text c.args.at end c.in-Some.ensures.deep
    (ap shape_view c.in-List.is ∙ view-List k) (view-Items vs) read

pub value-returns-in-Some-3 : goal.value-returns-in-Some-3
value-returns-in-Some-3 t c =
    let e = c.in_ok-list-in-Rec.ensures in
    let text = c.args.text.now in
    let vs = c.in-Some-3.list in
    let end = c.in-Some-3.end in
    let ms = c.in-Rec.members in
    let deep = c.in-Some-open.inside in
    let so = subst (λ o. IfSome o (λ r. ItemsStand (jsons_of (trees_of (map tree_view r.0.items))) text c.in-Some-open.first r.1))
    c.in-Some-3.is e.stands in
    let good : EachGood deep (kinds_in (members_view ms)) (map tree_view vs.items) =
    search (rules, shape_lemmas, e.good, c.in-Some-3.is, c.deref-in-Rec.ensures.value) in
    let read = reads-record deep (members_view ms) (map tree_view vs.items) text c.args.at c.in-Some-open.first end
    c.in-Some-open.ensures.bracket so good in
    seen-as c.args.deep (deep + 1) (shape_view c.args.shape.now) (kinds.fields (parts_of (members_view ms)))
    (tree_view (trees.Parts (record { list = vs }))) _ text c.args.at end c.in-Some-open.ensures.deep
    (ap shape_view c.in-Rec.is ∙ view-Rec ms) (view-Parts vs) read

pub value-returns-in-Some-4 : goal.value-returns-in-Some-4
value-returns-in-Some-4 t c =
    let e = c.in_ok-list-in-Tuple.ensures in
    let text = c.args.text.now in
    let vs = c.in-Some-4.list in
    let end = c.in-Some-4.end in
    let ks = c.in-Tuple.shapes in
    let deep = c.in-Some-open-2.inside in
    let so = subst (λ o. IfSome o (λ r. ItemsStand (jsons_of (trees_of (map tree_view r.0.items))) text c.in-Some-open-2.first r.1))
    c.in-Some-4.is e.stands in
    let good : EachGood deep (map shape_view ks.list.items) (map tree_view vs.items) =
    search (rules, e.good, c.in-Some-4.is, c.deref-in-Tuple.ensures.value) in
    let read = reads-tuple deep (map shape_view ks.list.items) (map tree_view vs.items) text c.args.at c.in-Some-open-2.first end
    c.in-Some-open-2.ensures.bracket so good in
    seen-as c.args.deep (deep + 1) (shape_view c.args.shape.now) (kinds.tuple (kinds_of (map shape_view ks.list.items)))
    (tree_view (trees.Parts (record { list = vs }))) _ text c.args.at end c.in-Some-open-2.ensures.deep
    (ap shape_view c.in-Tuple.is ∙ view-Tuple ks) (view-Parts vs) read

pub value-returns-in-Some-null : goal.value-returns-in-Some-null
value-returns-in-Some-null t c =
    let end = c.in-Some-null.end in
    let ks = kinds_of (map shape_view c.in-Choice.shapes.list.items) in
    let r : ReadsValue c.args.deep (kinds.choice ks) nothing c.args.text.now c.args.at end =
    reads-null c.args.deep ks c.args.text.now c.args.at end c.in-Some-null.ensures in
    search (rules, shape_lemmas, tree_lemmas, r, c.in-Choice.is)

pub value-returns-in-Some-null-2 : goal.value-returns-in-Some-null-2
value-returns-in-Some-null-2 t c =
    let end = c.in-Some-null-2.end in
    let k = shape_view c.in-Maybe.of.value in
    let r : ReadsValue c.args.deep (kinds.maybe k) nothing c.args.text.now c.args.at end =
    reads-no_value c.args.deep k c.args.text.now c.args.at end c.in-Some-null-2.ensures in
    search (rules, shape_lemmas, tree_lemmas, r, c.in-Maybe.is)

pub picked-returns : goal.picked-returns
picked-returns t c =
    let text = c.args.text.now in
    let of = c.index-shapes-tag.result in
    let deep = c.in-Some.inside in
    let first = c.in-Some.first in
    let next = c.in-Some-comma.next in
    let last = c.in-Some-2.last in
    let end = c.in-Some-after.end in
    let tag = c.in-Some-number.tag in
    let number : StandsFrom (decimal tag) text first c.in-Some-number.i = c.in-Some-number.ensures in
    let value : ReadsValue deep (shape_view of) (tree_view c.in-Some-2.tree) text next last =
    subst (λ o. IfSome o (λ r. ReadsValue deep (shape_view of) (tree_view r.0) text next r.1)) c.in-Some-2.is c.in_ok-tree.ensures in
    let i = tag - 1 in
    let small : tag < 2 ^ 32 = omega (arith, c.if-tag.false) in
    let some = c.if-tag-eq0.false in
    let lt : i < length c.args.shapes.now = omega (arith, some, c.if-tag-shapes.false) in
    let nth : of ≡ get_or c.args.shapes.now i of = c.index-shapes-tag.is in
    let ks = map shape_view c.args.shapes.now in
    let read = reads-pick deep ks tag i (shape_view of) (tree_view c.in-Some-2.tree) text c.args.at first c.in-Some-number.i next last end
    (omega (arith, some)) (omega (arith, lt, length-map c.args.shapes.now shape_view)) (nth-shape c.args.shapes.now i of lt nth) small
    c.in-Some.ensures.bracket number c.in-Some-comma.ensures value c.in-Some-after.ensures in
    seen-as c.args.deep (deep + 1) (kinds.choice (kinds_of ks)) (kinds.choice (kinds_of ks))
    (tree_view (trees.Pick tag c.in_ok-new.field-0)) _ text c.args.at end c.in-Some.ensures.deep refl
    (view-Pick tag c.in_ok-new.field-0 ∙ ap (λ (u : Tree). pick tag (tree_view u)) c.in_ok-new.ensures.ok) read
