use Rattle.std.proofs.Common.{rules, ◌≡◌, ◌+◌, ◌-◌, ◌<◌, ℕ, [], ◌∷◌, length, drop, sym, ap, subst, ◌∙◌, refl, arith}
use Rattle.std.proofs.lemmas.List.{drop_more, length-drop}
use Rattle.nt_types.specs.TreeData.{flag, num, text, items, pick, nothing}
use Rattle.nt_types.specs.TreeViews.{tree_view}
use Rattle.nt_column.specs.Bits.{bit_of}
use Rattle.nt_column.specs.Elements.{plain}
use Rattle.nt_plans.specs.Plan.{bool, number, list, maybe, choice, plans_of}
use Rattle.nt_plans.specs.Plan as plans
use Rattle.nt_plans.specs.PlanViews.{plan_view}
use Rattle.nt_plans.specs.declared.plan.Plan.{the_lemmas as plan_lemmas}
use Rattle.nt_plans.proofs.PlanViews.{view-Bool, view-Number, view-Text, view-List, view-Maybe}
use Rattle.nt_trees.specs.Columns.{last_end, add_to}
use Rattle.nt_trees.specs.Integers.{twos_complement}
use Rattle.nt_trees.specs.Put.{how_many_trees, put_tree}
use Rattle.nt_trees.specs.Sound.{Sound}
use Rattle.nt_trees.specs.Views.{cols_of, plans_in, trees_in}
use Rattle.nt_shred.specs.Frame.{set_frame, FitsIn}
use Rattle.nt_shred.proofs.Left.{LeftAll, LeftEach, all-first, all-next, each-first, each-next, tree-left}
use Rattle.nt_shred.proofs.Arms.{ready-is, gains-is, old-room, list-all, list-sound, list-room, list-end, list-done, text-bytes, text-end}
use Rattle.nt_shred.proofs.Arms.{text-ends_below, text-last, text-done}
use Rattle.nt_shred.proofs.Alternatives.{nth-takes, nth-sound, nth-at, pick-some, pick-among, pick-ready, pick-room, pick-done}
use Rattle.nt_shred.proofs.Optionals.{how_many_in, some-ready, some-gains, none-gains, maybe-some, maybe-sound, maybe-now, maybe-end}
use Rattle.nt_shred.proofs.Optionals.{maybe-done}
use Rattle.nt_shred.proofs.PlanLists.{view-alternatives}
use Rattle.nt_shred.proofs.putting.+put.Goals as goal

-- ---- leaves

pub put_tree-push-requires-clause-room : goal.put_tree-push-requires-clause-room
put_tree-push-requires-clause-room t c =
    let plan_is = ap plan_view c.in-Bool.is ∙ view-Bool c.in-Bool.column in
    let r = ready-is _ (bool c.in-Bool.column) _ (flag c.flag_in.result) c.args.out.now plan_is c.flag_in.ensures c.requires in
    let same : bit_of c.flag_in.result ≡ c.from.result = search rules in
    subst (λ (n : ℕ). FitsIn c.args.out.now (add_to c.in-Bool.column (plain n ∷ []) (cols_of c.args.out.now))) same r.room

pub put_tree-push-requires-in-Number-clause-room : goal.put_tree-push-requires-in-Number-clause-room
put_tree-push-requires-in-Number-clause-room t c =
    let plan_is = ap plan_view c.in-Number.is ∙ view-Number c.in-Number.column c.in-Number.bits c.in-Number.signed in
    let r = ready-is _ (number c.in-Number.column c.in-Number.bits c.in-Number.signed) _ (num c.number_in.result) c.args.out.now
    plan_is c.number_in.ensures c.requires in
    let same : twos_complement c.in-Number.bits c.number_in.result ≡ c.element.result = search (rules, c.element.ensures.element) in
    subst (λ (n : ℕ). FitsIn c.args.out.now (add_to c.in-Number.column (plain n ∷ []) (cols_of c.args.out.now))) same r.room

-- ---- texts

pub put_tree-push_bytes-requires-clause-room : goal.put_tree-push_bytes-requires-clause-room
put_tree-push_bytes-requires-clause-room t c =
    let plan_is = ap plan_view c.in-Text.is ∙ view-Text c.in-Text.ends c.in-Text.bytes in
    let r = ready-is _ (plans.text c.in-Text.ends c.in-Text.bytes) _ (text c.text_in.result.now) c.args.out.now plan_is
    c.text_in.ensures c.requires in
    text-bytes c.in-Text.ends c.in-Text.bytes c.text_in.result.now c.args.out.now r

pub put_tree-push_end-requires-clause-end : goal.put_tree-push_end-requires-clause-end
put_tree-push_end-requires-clause-end t c =
    let plan_is = ap plan_view c.in-Text.is ∙ view-Text c.in-Text.ends c.in-Text.bytes in
    let r = ready-is _ (plans.text c.in-Text.ends c.in-Text.bytes) _ (text c.text_in.result.now) c.args.out.now plan_is
    c.text_in.ensures c.requires in
    omega (
      arith,
      c.len-end.ensures,
      text-ends_below c.in-Text.ends c.in-Text.bytes c.text_in.result.now c.args.out.now
          c.push_bytes.new.out r c.push_bytes.ensures,
    )

pub put_tree-push_end-requires-clause-room : goal.put_tree-push_end-requires-clause-room
put_tree-push_end-requires-clause-room t c =
    let plan_is = ap plan_view c.in-Text.is ∙ view-Text c.in-Text.ends c.in-Text.bytes in
    let r = ready-is _ (plans.text c.in-Text.ends c.in-Text.bytes) _ (text c.text_in.result.now) c.args.out.now plan_is
    c.text_in.ensures c.requires in
    let end = c.len-end.ensures ∙ text-end c.in-Text.ends c.in-Text.bytes c.text_in.result.now c.args.out.now c.push_bytes.new.out r
    c.push_bytes.ensures in
    text-last c.in-Text.ends c.in-Text.bytes c.text_in.result.now c.args.out.now c.push_bytes.new.out r c.push_bytes.ensures
    c.len-end.result end

pub put_tree-returns-in-Text : goal.put_tree-returns-in-Text
put_tree-returns-in-Text t c =
    let plan_is = ap plan_view c.in-Text.is ∙ view-Text c.in-Text.ends c.in-Text.bytes in
    let r = ready-is _ (plans.text c.in-Text.ends c.in-Text.bytes) _ (text c.text_in.result.now) c.args.out.now plan_is
    c.text_in.ensures c.requires in
    let end = c.len-end.ensures ∙ text-end c.in-Text.ends c.in-Text.bytes c.text_in.result.now c.args.out.now c.push_bytes.new.out r
    c.push_bytes.ensures in
    gains-is _ _ _ _ c.args.out.now c.push_end.new.out plan_is c.text_in.ensures
    (text-done c.in-Text.ends c.in-Text.bytes c.text_in.result.now c.args.out.now c.push_bytes.new.out r c.push_bytes.ensures
    c.push_end.new.out c.len-end.result c.push_end.ensures end)

-- ---- lists

pub put_tree-put_each-requires : goal.put_tree-put_each-requires
put_tree-put_each-requires t c =
    let plan_is = ap plan_view c.in-List.is ∙ (view-List c.in-List.ends c.in-List.of ∙ ap (λ p. list c.in-List.ends (plan_view p))
    (sym c.deref.ensures)) in
    let r = ready-is _ (list c.in-List.ends (plan_view c.deref.result.now)) _ (items (trees_in c.items_in.result.now))
    c.args.out.now plan_is c.items_in.ensures c.requires in (
      search (rules, plan_lemmas, c.decreases, c.deref.ensures, c.in-List.is),
      list-all c.in-List.ends (plan_view c.deref.result.now)
          (trees_in c.items_in.result.now) c.args.out.now r,
    )

pub put_tree-count-last-requires-clause-room : goal.put_tree-count-last-requires-clause-room
put_tree-count-last-requires-clause-room t c =
    let plan_is = ap plan_view c.in-List.is ∙ (view-List c.in-List.ends c.in-List.of ∙ ap (λ p. list c.in-List.ends (plan_view p))
    (sym c.deref.ensures)) in
    let r = ready-is _ (list c.in-List.ends (plan_view c.deref.result.now)) _ (items (trees_in c.items_in.result.now))
    c.args.out.now plan_is c.items_in.ensures c.requires in
    list-room c.in-List.ends (plan_view c.deref.result.now) (trees_in c.items_in.result.now) c.args.out.now c.put_each.new.out r
    c.put_each.ensures

pub put_tree-push_end-requires-in-List-clause-room : goal.put_tree-push_end-requires-in-List-clause-room
put_tree-push_end-requires-in-List-clause-room t c =
    let plan_is = ap plan_view c.in-List.is ∙ (view-List c.in-List.ends c.in-List.of ∙ ap (λ p. list c.in-List.ends (plan_view p))
    (sym c.deref.ensures)) in
    let r = ready-is _ (list c.in-List.ends (plan_view c.deref.result.now)) _ (items (trees_in c.items_in.result.now))
    c.args.out.now plan_is c.items_in.ensures c.requires in
    let sound = list-sound c.in-List.ends (plan_view c.deref.result.now) (trees_in c.items_in.result.now) c.args.out.now
    c.put_each.new.out r c.put_each.ensures in
    let size = last_end (cols_of c.args.out.now c.in-List.ends) + how_many_trees (trees_in c.items_in.result.now) in
    let there = subst (λ p. Sound (plan_view p) (cols_of c.put_each.new.out) size) (c.deref.ensures ∙ sym c.deref-in-List.ensures) sound in
    list-end c.in-List.ends (plan_view c.deref.result.now) (trees_in c.items_in.result.now) c.args.out.now c.put_each.new.out r
    c.put_each.ensures c.count-last.result (c.count-last.ensures.size size there)

pub put_tree-returns-in-List : goal.put_tree-returns-in-List
put_tree-returns-in-List t c =
    let plan_is = ap plan_view c.in-List.is ∙ (view-List c.in-List.ends c.in-List.of ∙ ap (λ p. list c.in-List.ends (plan_view p))
    (sym c.deref.ensures)) in
    let r = ready-is _ (list c.in-List.ends (plan_view c.deref.result.now)) _ (items (trees_in c.items_in.result.now))
    c.args.out.now plan_is c.items_in.ensures c.requires in
    let sound = list-sound c.in-List.ends (plan_view c.deref.result.now) (trees_in c.items_in.result.now) c.args.out.now
    c.put_each.new.out r c.put_each.ensures in
    let size = last_end (cols_of c.args.out.now c.in-List.ends) + how_many_trees (trees_in c.items_in.result.now) in
    let there = subst (λ p. Sound (plan_view p) (cols_of c.put_each.new.out) size) (c.deref.ensures ∙ sym c.deref-in-List.ensures) sound in
    gains-is _ _ _ _ c.args.out.now c.push_end-in-List.new.out plan_is c.items_in.ensures
    (list-done c.in-List.ends (plan_view c.deref.result.now) (trees_in c.items_in.result.now) c.args.out.now c.put_each.new.out r
    c.put_each.ensures c.push_end-in-List.new.out c.count-last.result c.push_end-in-List.ensures (c.count-last.ensures.size size there))

-- ---- optionals

pub put_some-put_tree-requires : goal.put_some-put_tree-requires
put_some-put_tree-requires t c = (
  search (rules, c.decreases),
  some-ready (plan_view c.args.of.now) (tree_view c.args.tree.now) c.args.out.now
      (sym c.is_nothing.ensures ∙ c.if-not-is_nothing.true) c.requires,
)

pub put_some-returns-then-not-is_nothing : goal.put_some-returns-then-not-is_nothing
put_some-returns-then-not-is_nothing t c =
    some-gains (put_tree (plan_view c.args.of.now)) (tree_view c.args.tree.now) c.args.out.now c.put_tree.new.out
    (sym c.is_nothing.ensures ∙ c.if-not-is_nothing.true) c.put_tree.ensures

pub put_some-returns-else-not-is_nothing : goal.put_some-returns-else-not-is_nothing
put_some-returns-else-not-is_nothing t c =
    none-gains (put_tree (plan_view c.args.of.now)) (tree_view c.args.tree.now) c.args.out.now
    (sym c.is_nothing.ensures ∙ c.if-not-is_nothing.false)

pub put_tree-put_some-requires : goal.put_tree-put_some-requires
put_tree-put_some-requires t c =
    let plan_is = ap plan_view c.in-Maybe.is ∙ (view-Maybe c.in-Maybe.ends c.in-Maybe.of ∙ ap (λ p. maybe c.in-Maybe.ends (plan_view p))
    (sym c.deref-in-Maybe.ensures)) in
    let r = ready-is _ (maybe c.in-Maybe.ends (plan_view c.deref-in-Maybe.result.now)) _ (tree_view c.args.tree.now) c.args.out.now
    plan_is refl c.requires in (
      search (rules, plan_lemmas, c.decreases, c.deref-in-Maybe.ensures, c.in-Maybe.is),
      maybe-some c.in-Maybe.ends (plan_view c.deref-in-Maybe.result.now) (tree_view c.args.tree.now) c.args.out.now r,
    )

pub put_tree-count-total-requires-clause-room : goal.put_tree-count-total-requires-clause-room
put_tree-count-total-requires-clause-room t c =
    let plan_is = ap plan_view c.in-Maybe.is ∙ (view-Maybe c.in-Maybe.ends c.in-Maybe.of ∙ ap (λ p. maybe c.in-Maybe.ends (plan_view p))
    (sym c.deref-in-Maybe.ensures)) in
    let r = ready-is _ (maybe c.in-Maybe.ends (plan_view c.deref-in-Maybe.result.now)) _ (tree_view c.args.tree.now) c.args.out.now
    plan_is refl c.requires in
    maybe-now c.in-Maybe.ends (plan_view c.deref-in-Maybe.result.now) (tree_view c.args.tree.now) c.args.out.now c.put_some.new.out r
    c.put_some.ensures

pub put_tree-push_end-requires-in-Maybe-clause-room : goal.put_tree-push_end-requires-in-Maybe-clause-room
put_tree-push_end-requires-in-Maybe-clause-room t c =
    let plan_is = ap plan_view c.in-Maybe.is ∙ (view-Maybe c.in-Maybe.ends c.in-Maybe.of ∙ ap (λ p. maybe c.in-Maybe.ends (plan_view p))
    (sym c.deref-in-Maybe.ensures)) in
    let v = tree_view c.args.tree.now in
    let p = plan_view c.deref-in-Maybe.result.now in
    let r = ready-is _ (maybe c.in-Maybe.ends p) _ v c.args.out.now plan_is refl c.requires in
    let sound = maybe-sound c.in-Maybe.ends p v c.args.out.now c.put_some.new.out r c.put_some.ensures in
    let size = last_end (cols_of c.args.out.now c.in-Maybe.ends) + how_many_in v in
    let there = subst (λ p. Sound (plan_view p) (cols_of c.put_some.new.out) size)
    (c.deref-in-Maybe.ensures ∙ sym c.deref-in-Maybe-2.ensures) sound in
    maybe-end c.in-Maybe.ends p v c.args.out.now c.put_some.new.out r c.put_some.ensures c.count-total.result
    (c.count-total.ensures.size size there)

pub put_tree-returns-in-Maybe : goal.put_tree-returns-in-Maybe
put_tree-returns-in-Maybe t c =
    let plan_is = ap plan_view c.in-Maybe.is ∙ (view-Maybe c.in-Maybe.ends c.in-Maybe.of ∙ ap (λ p. maybe c.in-Maybe.ends (plan_view p))
    (sym c.deref-in-Maybe.ensures)) in
    let v = tree_view c.args.tree.now in
    let p = plan_view c.deref-in-Maybe.result.now in
    let r = ready-is _ (maybe c.in-Maybe.ends p) _ v c.args.out.now plan_is refl c.requires in
    let sound = maybe-sound c.in-Maybe.ends p v c.args.out.now c.put_some.new.out r c.put_some.ensures in
    let size = last_end (cols_of c.args.out.now c.in-Maybe.ends) + how_many_in v in
    let there = subst (λ p. Sound (plan_view p) (cols_of c.put_some.new.out) size)
    (c.deref-in-Maybe.ensures ∙ sym c.deref-in-Maybe-2.ensures) sound in
    gains-is _ _ _ _ c.args.out.now c.push_end-in-Maybe.new.out plan_is refl
    (maybe-done c.in-Maybe.ends p v c.args.out.now c.put_some.new.out r c.put_some.ensures c.push_end-in-Maybe.new.out
    c.count-total.result c.push_end-in-Maybe.ensures (c.count-total.ensures.size size there))

-- ---- choices

pub put_tree-push_tag-requires-clause-room : goal.put_tree-push_tag-requires-clause-room
put_tree-push_tag-requires-clause-room t c =
    let plan_is = ap plan_view c.in-Choice.is ∙ view-alternatives c.in-Choice.tags c.in-Choice.of in
    (ready-is _ (choice c.in-Choice.tags (plans_in c.in-Choice.of.list.items)) _ nothing c.args.out.now plan_is
    c.in-None.ensures c.requires).room

pub put_tree-overflow_sub-tag : goal.put_tree-overflow_sub-tag
put_tree-overflow_sub-tag t c =
    let plan_is = ap plan_view c.in-Choice.is ∙ view-alternatives c.in-Choice.tags c.in-Choice.of in
    let of = c.in-Choice.of.list.items in
    let p = c.in-Some.field-0 in
    let r = ready-is _ (choice c.in-Choice.tags (plans_in of)) _ (pick p.tag (tree_view p.tree.now)) c.args.out.now plan_is
    c.in-Some.ensures c.requires in
    pick-some (plans_in of) p.tag (tree_view p.tree.now) r.fitting

pub put_tree-index-chosen-requires : goal.put_tree-index-chosen-requires
put_tree-index-chosen-requires t c =
    let plan_is = ap plan_view c.in-Choice.is ∙ view-alternatives c.in-Choice.tags c.in-Choice.of in
    let of = c.in-Choice.of.list.items in
    let p = c.in-Some.field-0 in
    let r = ready-is _ (choice c.in-Choice.tags (plans_in of)) _ (pick p.tag (tree_view p.tree.now)) c.args.out.now plan_is
    c.in-Some.ensures c.requires in
    let some = pick-some (plans_in of) p.tag (tree_view p.tree.now) r.fitting in
    let among = pick-among of p.tag (tree_view p.tree.now) r.fitting in
    omega (arith, some, among, c.in-Choice.of.list.ok)

pub put_tree-count-index-requires-clause-takes : goal.put_tree-count-index-requires-clause-takes
put_tree-count-index-requires-clause-takes t c =
    let plan_is = ap plan_view c.in-Choice.is ∙ view-alternatives c.in-Choice.tags c.in-Choice.of in
    let of = c.in-Choice.of.list.items in
    let p = c.in-Some.field-0 in
    let r = ready-is _ (choice c.in-Choice.tags (plans_in of)) _ (pick p.tag (tree_view p.tree.now)) c.args.out.now plan_is
    c.in-Some.ensures c.requires in
    let n = nth-at of p.tag c.index-chosen.result.now (tree_view p.tree.now) r.fitting c.index-chosen.ensures in
    nth-takes (plans_in of) p.tag (plan_view c.index-chosen.result.now) (set_frame c.args.out.now) n r.takes.1

pub put_tree-count-index-requires-clause-room : goal.put_tree-count-index-requires-clause-room
put_tree-count-index-requires-clause-room t c = old-room (plan_view c.args.plan.now) _ c.args.out.now c.requires

pub put_tree-put_tree-requires : goal.put_tree-put_tree-requires
put_tree-put_tree-requires t c =
    let plan_is = ap plan_view c.in-Choice.is ∙ view-alternatives c.in-Choice.tags c.in-Choice.of in
    let of = c.in-Choice.of.list.items in
    let p = c.in-Some.field-0 in
    let r = ready-is _ (choice c.in-Choice.tags (plans_in of)) _ (pick p.tag (tree_view p.tree.now)) c.args.out.now plan_is
    c.in-Some.ensures c.requires in
    let n = nth-at of p.tag c.index-chosen.result.now (tree_view p.tree.now) r.fitting c.index-chosen.ensures in
    let some = pick-some (plans_in of) p.tag (tree_view p.tree.now) r.fitting in
    let among = pick-among of p.tag (tree_view p.tree.now) r.fitting in
    let within : p.tag - 1 < length of = omega arith in (
      search (rules, plan_lemmas, c.decreases, c.index-chosen.ensures, c.in-Choice.is),
      pick-ready c.in-Choice.tags (plans_in of)
          p.tag (plan_view c.index-chosen.result.now) (tree_view p.tree.now) n c.args.out.now r,
    )

pub put_tree-push_tag-requires-in-Some-clause-room : goal.put_tree-push_tag-requires-in-Some-clause-room
put_tree-push_tag-requires-in-Some-clause-room t c =
    let plan_is = ap plan_view c.in-Choice.is ∙ view-alternatives c.in-Choice.tags c.in-Choice.of in
    let of = c.in-Choice.of.list.items in
    let p = c.in-Some.field-0 in
    let r = ready-is _ (choice c.in-Choice.tags (plans_in of)) _ (pick p.tag (tree_view p.tree.now)) c.args.out.now plan_is
    c.in-Some.ensures c.requires in
    let n = nth-at of p.tag c.index-chosen.result.now (tree_view p.tree.now) r.fitting c.index-chosen.ensures in
    let index = c.count-index.ensures.size _ (nth-sound (plans_in of) 0 p.tag p.tag (plan_view c.index-chosen.result.now)
    (cols_of c.args.out.now c.in-Choice.tags) (cols_of c.args.out.now) (omega arith) n r.sound.3) in
    pick-room c.in-Choice.tags (plans_in of) p.tag (plan_view c.index-chosen.result.now) (tree_view p.tree.now) n c.args.out.now
    c.put_tree.new.out c.put_tree.ensures c.count-index.result index r

pub put_tree-returns-in-Some : goal.put_tree-returns-in-Some
put_tree-returns-in-Some t c =
    let plan_is = ap plan_view c.in-Choice.is ∙ view-alternatives c.in-Choice.tags c.in-Choice.of in
    let of = c.in-Choice.of.list.items in
    let p = c.in-Some.field-0 in
    let r = ready-is _ (choice c.in-Choice.tags (plans_in of)) _ (pick p.tag (tree_view p.tree.now)) c.args.out.now plan_is
    c.in-Some.ensures c.requires in
    let n = nth-at of p.tag c.index-chosen.result.now (tree_view p.tree.now) r.fitting c.index-chosen.ensures in
    let index = c.count-index.ensures.size _ (nth-sound (plans_in of) 0 p.tag p.tag (plan_view c.index-chosen.result.now)
    (cols_of c.args.out.now c.in-Choice.tags) (cols_of c.args.out.now) (omega arith) n r.sound.3) in
    gains-is _ _ _ _ c.args.out.now c.push_tag-in-Some.new.out plan_is c.in-Some.ensures
    (pick-done c.in-Choice.tags (plans_in of) p.tag (plan_view c.index-chosen.result.now) (tree_view p.tree.now) n c.args.out.now
    c.put_tree.new.out c.put_tree.ensures c.count-index.result index c.push_tag-in-Some.new.out c.push_tag-in-Some.ensures)

-- ---- trees one after the other

pub put_each-put_tree-requires : goal.put_each-put_tree-requires
put_each-put_tree-requires t c =
    let first = c.item-item.result in
    let rest = drop (c.loop-item.item-index + 1) c.args.items.now in
    let next : drop c.loop-item.item-index c.args.items.now ≡ first ∷ rest =
    drop_more c.args.items.now c.loop-item.item-index first c.loop-item-test.true ∙ ap (λ p. p ∷ rest) (sym c.item-item.is) in
    let left = subst (λ ts. LeftAll (plan_view c.args.of.now) (trees_in c.args.items.now) (trees_in ts) c.args.out.now
    c.loop-item.out) next c.loop-item.invariant in (
      search (rules, plan_lemmas, c.decreases),
      all-first (plan_view c.args.of.now) (trees_in c.args.items.now) (trees_in rest)
          (tree_view first) c.args.out.now c.loop-item.out left,
    )

pub put_each-loop-item-preserved : goal.put_each-loop-item-preserved
put_each-loop-item-preserved t c =
    let first = c.item-item.result in
    let rest = drop (c.loop-item.item-index + 1) c.args.items.now in
    let next : drop c.loop-item.item-index c.args.items.now ≡ first ∷ rest =
    drop_more c.args.items.now c.loop-item.item-index first c.loop-item-test.true ∙ ap (λ p. p ∷ rest) (sym c.item-item.is) in
    let left = subst (λ ts. LeftAll (plan_view c.args.of.now) (trees_in c.args.items.now) (trees_in ts) c.args.out.now
    c.loop-item.out) next c.loop-item.invariant in
    all-next (plan_view c.args.of.now) (trees_in c.args.items.now) (trees_in rest) (tree_view first) c.args.out.now c.loop-item.out
    c.put_tree.new.out left c.put_tree.ensures

pub put_trees-put_tree-requires : goal.put_trees-put_tree-requires
put_trees-put_tree-requires t c =
    let first = c.index-plans-i.result in
    let rest = drop (c.loop-i.i + 1) c.args.plans.now in
    let next : drop c.loop-i.i c.args.plans.now ≡ first ∷ rest =
    drop_more c.args.plans.now c.loop-i.i first c.loop-i-test.true ∙ ap (λ p. p ∷ rest) (sym c.index-plans-i.is) in
    let some = subst (λ ps. LeftEach (plans_in c.args.plans.now) (trees_in c.args.trees.now) (plans_in ps)
    (trees_in (drop c.loop-i.i c.args.trees.now)) c.args.out.now c.loop-i.out) next c.loop-i.invariant in
    let here = tree-left (plans_in c.args.plans.now) (trees_in c.args.trees.now) (plan_view first) (plans_in rest)
    (drop c.loop-i.i c.args.trees.now) c.args.out.now c.loop-i.out some in
    let count = length-drop c.loop-i.i c.args.trees.now in
    let within : c.loop-i.i < length c.args.trees.now = omega arith in
    let tree = c.index-trees-i.result in
    let later = drop (c.loop-i.i + 1) c.args.trees.now in
    let next_tree : drop c.loop-i.i c.args.trees.now ≡ tree ∷ later =
    drop_more c.args.trees.now c.loop-i.i tree within ∙ ap (λ p. p ∷ later) (sym c.index-trees-i.is) in
    let left = subst (λ ts. LeftEach (plans_in c.args.plans.now) (trees_in c.args.trees.now) (plans_in (first ∷ rest)) (trees_in ts)
    c.args.out.now c.loop-i.out) next_tree some in (
      search (rules, plan_lemmas, c.loop-i-test.true, c.decreases, c.index-plans-i.is),
      each-first (plans_in c.args.plans.now)
          (trees_in c.args.trees.now) (plan_view first) (plans_in rest) (tree_view tree) (trees_in later) c.args.out.now c.loop-i.out left,
    )

pub put_trees-loop-i-preserved : goal.put_trees-loop-i-preserved
put_trees-loop-i-preserved t c =
    let first = c.index-plans-i.result in
    let rest = drop (c.loop-i.i + 1) c.args.plans.now in
    let next : drop c.loop-i.i c.args.plans.now ≡ first ∷ rest =
    drop_more c.args.plans.now c.loop-i.i first c.loop-i-test.true ∙ ap (λ p. p ∷ rest) (sym c.index-plans-i.is) in
    let some = subst (λ ps. LeftEach (plans_in c.args.plans.now) (trees_in c.args.trees.now) (plans_in ps)
    (trees_in (drop c.loop-i.i c.args.trees.now)) c.args.out.now c.loop-i.out) next c.loop-i.invariant in
    let here = tree-left (plans_in c.args.plans.now) (trees_in c.args.trees.now) (plan_view first) (plans_in rest)
    (drop c.loop-i.i c.args.trees.now) c.args.out.now c.loop-i.out some in
    let count = length-drop c.loop-i.i c.args.trees.now in
    let within : c.loop-i.i < length c.args.trees.now = omega arith in
    let tree = c.index-trees-i.result in
    let later = drop (c.loop-i.i + 1) c.args.trees.now in
    let next_tree : drop c.loop-i.i c.args.trees.now ≡ tree ∷ later =
    drop_more c.args.trees.now c.loop-i.i tree within ∙ ap (λ p. p ∷ later) (sym c.index-trees-i.is) in
    let left = subst (λ ts. LeftEach (plans_in c.args.plans.now) (trees_in c.args.trees.now) (plans_in (first ∷ rest)) (trees_in ts)
    c.args.out.now c.loop-i.out) next_tree some in
    each-next (plans_in c.args.plans.now) (trees_in c.args.trees.now) (plan_view first) (plans_in rest) (tree_view tree)
    (trees_in later) c.args.out.now c.loop-i.out c.put_tree.new.out left c.put_tree.ensures
