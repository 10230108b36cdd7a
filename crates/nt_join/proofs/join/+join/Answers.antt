use Rattle.std.proofs.Common.{rules, ◌≡◌, ◌<◌, ◌≤◌, ◌-◌, ◌+◌, ℕ, [], ◌∷◌, ◌++◌, map, length, drop, get_or, sym, ap, ◌∙◌, subst, arith, Box}
use Rattle.std.proofs.Common.{Global}
use Rattle.std.proofs.lemmas.List.{map-append, drop_more, drop_all, length-map}
use Rattle.nt_types.specs.TreeData.{pick, tree, trees_of}
use Rattle.nt_types.specs.TreeViews.{tree_view}
use Rattle.nt_types.proofs.TreeViews.{view-Nothing, view-Pick}
use Rattle.nt_plans.specs.Plan.{text, list, maybe, choice, plans_of}
use Rattle.nt_plans.specs.PlanViews.{plan_view}
use Rattle.nt_plans.specs.declared.plan.Plan.{Plan, List, Maybe, Choice, the_lemmas as plan_lemmas}
use Rattle.nt_plans.specs.declared.plan.Plans.{Plans}
use Rattle.nt_plans.proofs.plan.Plan.TheLaws.{the_size}
use Rattle.nt_plans.proofs.PlanViews.{view-Text, view-List, view-Maybe, view-Choice}
use Rattle.nt_trees.specs.TreeAt.{tree_at, each_at, trees_from}
use Rattle.nt_join.specs.Readable.{Readable, ReadableTo, ReadableEach}
use Rattle.nt_join.proofs.Plans.{plans_view-list}
use Rattle.nt_join.proofs.Joins.{trees_of-list_from, list_from-next, before_trees, before_trees-push}
use Rattle.nt_join.proofs.Joins.{before_trees-none, only-none, only-first}
use Rattle.nt_join.proofs.Reach.{of_tag-at, readable-is, text-within, items-readable, optional-readable}
use Rattle.nt_join.proofs.Reach.{tag-among, picked-readable, tree_at-picked}
use Rattle.nt_join.proofs.join.+join.Goals as goal

pub range-loop-i-preserved : goal.range-loop-i-preserved
range-loop-i-preserved g t c =
    let f = tree_at (plan_view c.args.of.now) (g.C.Columns.elements c.args.columns.now) in
    let next = list_from-next f c.args.from c.loop-i.i (omega (arith, c.loop-i.auto)) in
    ap (map tree_view) c.in_ok-push.ensures.items ∙ map-append tree_view c.loop-i.list.items (c.in_ok-tree.field-0 ∷ [])
    ∙ (λ k. c.loop-i.invariant k ++ c.in_ok-tree.ensures k ∷ []) ∙ sym next

pub range-returns : goal.range-returns
range-returns g t c =
    let f = tree_at (plan_view c.args.of.now) (g.C.Columns.elements c.args.columns.now) in
    let from = c.args.from in
    let whole : c.loop-i.i ≡ c.args.to = omega (arith, c.loop-i-test.false, c.requires.order, c.loop-i.auto) in
    ap trees_of c.from_vec.ensures ∙ ap trees_of c.loop-i.invariant ∙ trees_of-list_from f from (c.loop-i.i - from)
    ∙ ap (λ i. trees_from f from (i - from)) whole

pub each-loop-part-preserved : goal.each-loop-part-preserved
each-loop-part-preserved g t c =
    let v = c.loop-part.invariant in
    let cols = g.C.Columns.elements c.args.columns.now in
    let i = c.args.i in
    let first = c.part-item.result in
    let parts = c.args.parts.now in
    let rest = drop (c.loop-part.part-index + 1) parts in
    let next : drop c.loop-part.part-index parts ≡ first ∷ rest =
    drop_more parts c.loop-part.part-index first c.loop-part-test.true ∙ ap (λ p. p ∷ rest) (sym c.part-item.is) in
    let sound = subst (λ ps. ReadableEach (plans_of (map plan_view ps)) cols i) next v.readable in
    let done = map tree_view c.loop-part.list.items in
    let later = each_at (plans_of (map plan_view rest)) cols i in
    record {
      readable = record { size = sound.size; sound = sound.sound.1; within = sound.within };
      joined = ap (λ l. before_trees (map tree_view l) later) c.in_ok-push.ensures.items
          ∙ ap (λ l. before_trees l later) (map-append tree_view c.loop-part.list.items (c.in_ok-tree.field-0 ∷ []))
          ∙ before_trees-push done (tree_view c.in_ok-tree.field-0) later
          ∙ ap (λ w. before_trees done (tree w later)) c.in_ok-tree.ensures
          ∙ ap (λ ps. before_trees done (each_at (plans_of (map plan_view ps)) cols i)) (sym next) ∙ v.joined;
    }

pub each-returns : goal.each-returns
each-returns g t c =
    let v = c.loop-part.invariant in
    let cols = g.C.Columns.elements c.args.columns.now in
    let none = drop_all c.loop-part.part-index c.args.parts.now c.loop-part-test.false in
    let done = map tree_view c.loop-part.list.items in
    ap trees_of c.from_vec.ensures ∙ sym (before_trees-none done)
    ∙ sym (ap (λ ps. before_trees done (each_at (plans_of (map plan_view ps)) cols c.args.i)) none) ∙ v.joined

pub tree-text-requires-clause-within : goal.tree-text-requires-clause-within
tree-text-requires-clause-within g t c =
    let cols = g.C.Columns.elements c.args.columns.now in
    let e = c.in-Text.ends in
    let b = c.in-Text.bytes in
    let r = readable-is _ (text e b) cols c.args.i (ap plan_view c.in-Text.is ∙ view-Text e b) c.requires in
    omega (arith, c.number-to.ensures, text-within e b cols c.args.i r)

smaller : (e : ℕ) (p : Box Plan Global) → the_size p.value < the_size (List e p)
smaller e p = search (rules, plan_lemmas)

pub tree-range-requires : goal.tree-range-requires
tree-range-requires g t c κs within =
    let cols = g.C.Columns.elements c.args.columns.now in
    let k = c.in-List.ends in
    let of = plan_view c.deref.result.now in
    let is = ap plan_view c.in-List.is ∙ view-List k c.in-List.of ∙ ap (λ p. list k (plan_view p)) (sym c.deref.ensures) in
    let r = items-readable k of cols c.args.i (readable-is _ (list k of) cols c.args.i is c.requires) in
    let e = ap the_size c.in-List.is in
    let d = ap the_size c.deref.ensures in
    let order : c.begin-from-in-List.result ≤ c.number-to-in-List.result =
    omega (arith, r.1, c.begin-from-in-List.ensures, c.number-to-in-List.ensures) in (
      omega (arith, e, d, smaller k c.in-List.of),
      (search (rules, within), (search rules, (order, subst (ReadableTo of cols) (sym c.number-to-in-List.ensures) r.0))),
    )

-- ---- optionals

smaller_maybe : (e : ℕ) (p : Box Plan Global) → the_size p.value < the_size (Maybe e p)
smaller_maybe e p = search (rules, plan_lemmas)

pub tree-at_most_one-requires : goal.tree-at_most_one-requires
tree-at_most_one-requires g t c κs within =
    let cols = g.C.Columns.elements c.args.columns.now in
    let k = c.in-Maybe.ends in
    let of = plan_view c.deref-in-Maybe.result.now in
    let is = ap plan_view c.in-Maybe.is ∙ view-Maybe k c.in-Maybe.of ∙ ap (λ p. maybe k (plan_view p)) (sym c.deref-in-Maybe.ensures) in
    let r = optional-readable k of cols c.args.i (readable-is _ (maybe k of) cols c.args.i is c.requires) in
    let e = ap the_size c.in-Maybe.is in
    let d = ap the_size c.deref-in-Maybe.ensures in
    let order : c.begin-from-in-Maybe.result ≤ c.number-to-in-Maybe.result =
    omega (arith, r.1, c.begin-from-in-Maybe.ensures, c.number-to-in-Maybe.ensures) in (
      omega (arith, e, d, smaller_maybe k c.in-Maybe.of),
      (search (rules, within), (search rules, (order, subst (ReadableTo of cols) (sym c.number-to-in-Maybe.ensures) r.0))),
    )

pub at_most_one-returns-then-from-to : goal.at_most_one-returns-then-from-to
at_most_one-returns-then-from-to g t c =
    let f = tree_at (plan_view c.args.of.now) (g.C.Columns.elements c.args.columns.now) in
    view-Nothing ∙ sym (only-none f c.args.from c.args.to (omega (arith, c.if-from-to.true)))

pub at_most_one-returns : goal.at_most_one-returns
at_most_one-returns g t c =
    let f = tree_at (plan_view c.args.of.now) (g.C.Columns.elements c.args.columns.now) in
    search (rules, c.tree.ensures, only-first f c.args.from c.args.to (omega (arith, c.if-from-to.false, c.requires.order)))

choice-is : (p : Plan) (s : ℕ) (ps : Plans) → p ≡ Choice s ps → plan_view p ≡ choice s (plans_of (map plan_view ps.list.items))
choice-is p s ps is = ap plan_view is ∙ view-Choice s ps ∙ ap (λ l. choice s (plans_of l)) (plans_view-list ps)

pub tree-index-chosen-requires : goal.tree-index-chosen-requires
tree-index-chosen-requires g t c =
    let cols = g.C.Columns.elements c.args.columns.now in
    let s = c.in-Choice.tags in
    let ps = c.in-Choice.of in
    let r = readable-is _ _ cols c.args.i (choice-is c.args.plan.now s ps c.in-Choice.is) c.requires in
    omega (
      arith,
      c.tag-tag.ensures,
      c.if-tag-eq0.false,
      tag-among s (map plan_view ps.list.items) cols c.args.i r,
      length-map ps.list.items plan_view,
      ps.list.ok,
    )

smaller_part : (s : ℕ) (ps : Plans) (i : ℕ) (x : Plan) → i < length ps.list.items → x ≡ get_or ps.list.items i x
    → the_size x < the_size (Choice s ps)
smaller_part s ps i x h is = search (rules, plan_lemmas)

pub tree-tree-requires : goal.tree-tree-requires
tree-tree-requires g t c κs within =
    let cols = g.C.Columns.elements c.args.columns.now in
    let i = c.args.i in
    let s = c.in-Choice.tags in
    let ps = c.in-Choice.of in
    let l = ps.list.items in
    let r = readable-is _ _ cols i (choice-is c.args.plan.now s ps c.in-Choice.is) c.requires in
    let tag = c.tag-tag.result in
    let is = sym c.tag-tag.ensures in
    let some : 0 < tag = omega (arith, c.if-tag-eq0.false) in
    let among : tag ≤ length l = omega (arith, is, tag-among s (map plan_view l) cols i r, length-map l plan_view) in
    let x = c.index-chosen.result.now in
    let n = of_tag-at l tag x some among c.index-chosen.ensures in
    let e = ap the_size c.in-Choice.is in
    let f = smaller_part s ps (tag - 1) x (omega (arith, some, among)) c.index-chosen.ensures in (
      omega (arith, e, f),
      (
        search (rules, within),
        (
          search rules,
          subst (Readable (plan_view x) cols) (sym c.number-at.ensures)
              (picked-readable s (plans_of (map plan_view l)) tag (plan_view x) cols i n is some r),
        ),
      ),
    )

pub tree-returns-in_ok-new-in-Choice : goal.tree-returns-in_ok-new-in-Choice
tree-returns-in_ok-new-in-Choice g t c =
    let cols = g.C.Columns.elements c.args.columns.now in
    let i = c.args.i in
    let s = c.in-Choice.tags in
    let ps = c.in-Choice.of in
    let l = ps.list.items in
    let plan_is = choice-is c.args.plan.now s ps c.in-Choice.is in
    let r = readable-is _ _ cols i plan_is c.requires in
    let tag = c.tag-tag.result in
    let is = sym c.tag-tag.ensures in
    let some : 0 < tag = omega (arith, c.if-tag-eq0.false) in
    let among : tag ≤ length l = omega (arith, is, tag-among s (map plan_view l) cols i r, length-map l plan_view) in
    let x = c.index-chosen.result.now in
    let n = of_tag-at l tag x some among c.index-chosen.ensures in
    view-Pick tag c.in_ok-new-in-Choice.field-0
    ∙ ap (λ v. pick tag (tree_view v)) c.in_ok-new-in-Choice.ensures.ok
    ∙ ap (pick tag) (c.in_ok-value-in-Choice.ensures ∙ ap (tree_at (plan_view x) cols) c.number-at.ensures)
    ∙ sym (tree_at-picked s (plans_of (map plan_view l)) tag (plan_view x) cols i n is some)
    ∙ sym (ap (λ p. tree_at p cols i) plan_is)
