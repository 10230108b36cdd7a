use Rattle.std.proofs.Common.{rules, ◌≡◌, ◌∷◌, [], ◌++◌, List, ℕ, length, take, false, decimal, sym, ap, ◌∙◌, refl, subst, append-nil}
use Rattle.std.proofs.Common.{append_assoc}
use Rattle.serde_json.specs.Written.{compact_text, items_text}
use Rattle.nt_event.specs.Json.{data_of, datas_of}
use Rattle.nt_types.specs.TreeData.{TreeData}
use Rattle.nt_types.specs.TreeViews.{tree_view, trees_view}
use Rattle.nt_types.specs.TreeData.{trees_of}
use Rattle.nt_types.specs.declared.tree.Tree.{Tree, the_lemmas as tree_lemmas}
use Rattle.nt_types.proofs.TreeViews.{view-Items, view-Parts, view-Pick}
use Rattle.nt_event.proofs.Prints.{front-then, kept-on, two_put, three_put}
use Rattle.nt_event.proofs.printing.+print.Goals.{put_items-then-later+in_ok-push, put_items-else-later}
use Rattle.nt_event.proofs.printing.+print.Goals as goal

pub put_items-returns-in_err-put_tree-clause-kept : goal.put_items-returns-in_err-put_tree-clause-kept
put_items-returns-in_err-put_tree-clause-kept t c =
    let v = c.loop-item.invariant in
    let k = c.put_tree.ensures.kept in
    let a = c.args.out.now.items in
    let b = c.loop-item.out.items in
    let d = c.put_tree.new.out.items in
    elim c.if-later.branch [
      | put_items-then-later+in_ok-push w ↦
          front-then a b d (44 ∷ []) v.kept (subst (λ l. take (length l) d ≡ l) (ap (λ o. o.items) w.out-is ∙ w.in_ok-push.ensures.items) k)
      | put_items-else-later w ↦ front-then a b d [] v.kept
          (subst (λ l. take (length l) d ≡ l) (ap (λ o. o.items) w.out-is ∙ sym (append-nil b)) k)
    ]

pub put_tree-returns-in_err-put_tree-in-Pick-clause-kept : goal.put_tree-returns-in_err-put_tree-in-Pick-clause-kept
put_tree-returns-in_err-put_tree-in-Pick-clause-kept t c =
    let o = c.args.out.now.items in
    let s = c.as_bytes-in-Pick.result.now in
    let head = three_put o _ _ _ (91 ∷ []) s (44 ∷ []) (91 ∷ (s ++ 44 ∷ [])) c.in_ok-push-in-Pick.ensures.items
    c.in_ok-extend_from_slice-in-Pick.ensures.items c.in_ok-push-in-Pick-2.ensures.items refl in
    kept-on o _ _ _ head c.put_tree.ensures.kept

pub put_tree-returns-in_ok-put_items-in-Items-clause-ok : goal.put_tree-returns-in_ok-put_items-in-Items-clause-ok
put_tree-returns-in_ok-put_items-in-Items-clause-ok t c =
    let o = c.args.out.now.items in
    let vs = c.in-Items.trees in
    let inside = items_text false (datas_of (trees_of (trees_view vs))) in
    let body : c.put_items.new.out.items ≡ c.push.new.self.items ++ inside =
    search (rules, tree_lemmas, c.in_ok-put_items-in-Items.ensures.ok, c.deref.ensures.value) in
    two_put o _ _ (91 ∷ []) inside _ c.in_ok-push-in-Items.ensures.items body
    (ap (λ (v : TreeData). compact_text (data_of v)) (sym (view-Items vs))
    ∙ ap (λ (u : Tree). compact_text (data_of (tree_view u))) (sym c.in-Items.is))

pub put_tree-returns-in_ok-put_items-in-Parts-clause-ok : goal.put_tree-returns-in_ok-put_items-in-Parts-clause-ok
put_tree-returns-in_ok-put_items-in-Parts-clause-ok t c =
    let o = c.args.out.now.items in
    let vs = c.in-Parts.trees in
    let inside = items_text false (datas_of (trees_of (trees_view vs))) in
    let body : c.put_items-in-Parts.new.out.items ≡ c.push-in-Parts.new.self.items ++ inside =
    search (rules, tree_lemmas, c.in_ok-put_items-in-Parts.ensures.ok, c.deref-in-Parts.ensures.value) in
    two_put o _ _ (91 ∷ []) inside _ c.in_ok-push-in-Parts.ensures.items body
    (ap (λ (v : TreeData). compact_text (data_of v)) (sym (view-Parts vs))
    ∙ ap (λ (u : Tree). compact_text (data_of (tree_view u))) (sym c.in-Parts.is))

pub put_tree-returns-in_ok-push-in-Pick-3-clause-ok : goal.put_tree-returns-in_ok-push-in-Pick-3-clause-ok
put_tree-returns-in_ok-push-in-Pick-3-clause-ok t c =
    let o = c.args.out.now.items in
    let s = c.as_bytes-in-Pick.result.now in
    let tag = c.in-Pick.tag in
    let v = c.in-Pick.value in
    let w = compact_text (data_of (tree_view v.value)) in
    let head = three_put o _ _ _ (91 ∷ []) s (44 ∷ []) (91 ∷ (s ++ 44 ∷ [])) c.in_ok-push-in-Pick.ensures.items
    c.in_ok-extend_from_slice-in-Pick.ensures.items c.in_ok-push-in-Pick-2.ensures.items refl in
    let body : c.put_tree.new.out.items ≡ c.push-in-Pick-2.new.self.items ++ w =
    search (rules, c.in_ok-put_tree-in-Pick.ensures.ok, c.deref-in-Pick.ensures) in
    let number : s ≡ decimal tag = search (rules, c.as_bytes-in-Pick.ensures.value, c.format-in-Pick.ensures.text) in
    three_put o _ _ _ (91 ∷ (s ++ 44 ∷ [])) w (93 ∷ []) _ head body c.in_ok-push-in-Pick-3.ensures.items
    (ap (λ (l : List ℕ). 91 ∷ l) (append_assoc s (44 ∷ []) (w ++ 93 ∷ [])) ∙ ap (λ (l : List ℕ). 91 ∷ (l ++ 44 ∷ (w ++ 93 ∷ []))) number
    ∙ ap (λ (u : TreeData). compact_text (data_of u)) (sym (view-Pick tag v))
    ∙ ap (λ (u : Tree). compact_text (data_of (tree_view u))) (sym c.in-Pick.is))
