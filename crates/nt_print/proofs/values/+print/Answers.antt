use Rattle.std.proofs.Common.{rules, ◌==◌, ◌≡◌, ◌<◌, ◌≤◌, ◌-◌, ◌+◌, ℕ, ◌∷◌, ◌++◌, map, length, drop, get_or, sym, ap, ◌∙◌, subst}
use Rattle.std.proofs.Common.{arith, Box, Global, List, [], false, refl, append_assoc}
use Rattle.std.proofs.lemmas.List.{drop_more, drop_all, length-map}
use Rattle.std.specs.Prelude.{OnOk}
use Rattle.std.specs.List.{slice_range}
use Rattle.serde_json.specs.Written.{compact_text}
use Rattle.nt_types.specs.TreeData.{TreeData, TreesData, flag, text as text_tree, items, parts, pick}
use Rattle.nt_event.specs.Json.{data_of, line_of}
use Rattle.nt_event.proofs.Prints.{kept-on}
use Rattle.nt_plans.specs.Plan.{text, list, maybe, choice, plans_of}
use Rattle.nt_plans.specs.PlanViews.{plan_view, plans_view}
use Rattle.nt_plans.specs.declared.plan.Plan.{Plan, List as ListPlan, Maybe as MaybePlan, the_lemmas as plan_lemmas}
use Rattle.nt_plans.specs.declared.plan.Plans.{Plans}
use Rattle.nt_plans.proofs.plan.Plan.TheLaws.{the_size}
use Rattle.nt_plans.proofs.plan.Plans.TheLaws.{the_size as plans_size}
use Rattle.nt_plans.proofs.PlanViews.{view-Bool, view-Text, view-List, view-Maybe, view-Record, view-Choice}
use Rattle.nt_trees.specs.Columns.{Cols, begin_at}
use Rattle.nt_trees.specs.TreeAt.{tree_at, each_at, trees_from, text_from, only}
use Rattle.nt_join.specs.Readable.{Readable, ReadableTo, ReadableEach}
use Rattle.nt_join.proofs.Plans.{plans_view-list}
use Rattle.nt_join.proofs.Reach.{of_tag-at, readable-is, text-within, items-readable, optional-readable}
use Rattle.nt_join.proofs.Reach.{tag-among, picked-readable, tree_at-picked}
use Rattle.nt_print.proofs.Arrays.{IsBegun, pick-put, IsBegun-none, IsBegun-next, IsBegun-end, kept-kept, mark-put, trees_from-first}
use Rattle.nt_print.proofs.Arrays.{trees_from-none}
use Rattle.nt_print.proofs.LentEnds.{known-optionals}
use Rattle.nt_print.proofs.Places.{number-within, lent-trees}
use Rattle.nt_print.proofs.values.+print.Goals as goal

pub put_range-put_list-requires-clause-within : goal.put_range-put_list-requires-clause-within
put_range-put_list-requires-clause-within g t c κs within =
    let n = c.in-Some.integers in
    number-within (plan_view c.args.of.now) (g.C.Columns.elements c.args.columns.now) n.column n.bits n.signed c.args.part.1
    c.in-Some.ensures c.requires.readable

pub put_range-returns-in-Some-clause-ok : goal.put_range-returns-in-Some-clause-ok
put_range-returns-in-Some-clause-ok g t c =
    let cols = g.C.Columns.elements c.args.columns.now in
    let n = c.in-Some.integers in
    let from = c.args.part.0 in
    let to = c.args.part.1 in
    let is = c.in-Some.ensures in
    let within = number-within (plan_view c.args.of.now) cols n.column n.bits n.signed to is c.requires.readable in
    subst (λ (ts : TreesData). OnOk c.put_list.result (c.put_list.new.out.items ≡ c.args.out.now.items ++ c.args.mark ∷ line_of ts))
    (lent-trees (plan_view c.args.of.now) cols n.column n.bits n.signed (slice_range (cols n.column) from to) from to is refl
    c.requires.order within) c.put_list.ensures.ok

pub put_range-put_optionals-requires-clause-steps : goal.put_range-put_optionals-requires-clause-steps
put_range-put_optionals-requires-clause-steps g t c κs within =
    let cols = g.C.Columns.elements c.args.columns.now in
    let is = c.in-Some-optionals_of.ensures in
    (known-optionals (plan_view c.args.of.now) cols _ _ _ _ _ _ _ is c.requires.order c.requires.readable).steps

pub put_range-put_optionals-requires-clause-within : goal.put_range-put_optionals-requires-clause-within
put_range-put_optionals-requires-clause-within g t c κs within =
    let cols = g.C.Columns.elements c.args.columns.now in
    let is = c.in-Some-optionals_of.ensures in
    (known-optionals (plan_view c.args.of.now) cols _ _ _ _ _ _ _ is c.requires.order c.requires.readable).within

pub put_range-returns-in-Some-optionals_of-clause-ok : goal.put_range-returns-in-Some-optionals_of-clause-ok
put_range-returns-in-Some-optionals_of-clause-ok g t c =
    let cols = g.C.Columns.elements c.args.columns.now in
    let is = c.in-Some-optionals_of.ensures in
    let known = known-optionals (plan_view c.args.of.now) cols _ _ _ _ _ _ _ is c.requires.order c.requires.readable in
    let put = c.put_optionals in
    subst (λ (ts : TreesData). OnOk put.result (put.new.out.items ≡ c.args.out.now.items ++ c.args.mark ∷ line_of ts))
    known.trees put.ensures.ok

pub put_items-loop-i-init : goal.put_items-loop-i-init
put_items-loop-i-init g t c =
    let f = tree_at (plan_view c.args.of.now) (g.C.Columns.elements c.args.columns.now) in
    let old = c.args.out.now.items ++ c.args.mark ∷ [] in
    let all = trees_from f c.args.part.0 (c.args.part.1 - c.args.part.0) in
    subst (λ (o : List ℕ). IsBegun old o false all all) (sym c.in_ok-push.ensures.items) (IsBegun-none old all)

pub put_items-loop-i-preserved : goal.put_items-loop-i-preserved
put_items-loop-i-preserved g t c =
    let f = tree_at (plan_view c.args.of.now) (g.C.Columns.elements c.args.columns.now) in
    let i = c.loop-i.i in
    IsBegun-next _ c.loop-i.out.items c.put_value.new.out.items c.loop-i.later (f i) _ _ _
    (trees_from-first f i c.args.part.1 (omega (arith, c.loop-i-test.true))) c.loop-i.invariant
    (c.in_ok-put_value.ensures.ok ∙ ap (λ n. c.loop-i.out.items ++ n ∷ compact_text (data_of (f i))) c.mark_before.ensures)

pub put_items-returns-in_err-put_value-clause-kept : goal.put_items-returns-in_err-put_value-clause-kept
put_items-returns-in_err-put_value-clause-kept g t c =
    kept-on c.args.out.now.items _ c.put_value.new.out.items (c.args.mark ∷ []) refl
    (kept-kept _ c.loop-i.out.items c.put_value.new.out.items c.loop-i.invariant.kept c.put_value.ensures.kept)

pub put_items-returns-in_err-put_end-clause-kept : goal.put_items-returns-in_err-put_end-clause-kept
put_items-returns-in_err-put_end-clause-kept g t c =
    kept-on c.args.out.now.items _ c.put_end.new.out.items (c.args.mark ∷ []) refl
    (kept-kept _ c.loop-i.out.items c.put_end.new.out.items c.loop-i.invariant.kept c.put_end.ensures.kept)

pub put_items-returns-clause-ok : goal.put_items-returns-clause-ok
put_items-returns-clause-ok g t c =
    let f = tree_at (plan_view c.args.of.now) (g.C.Columns.elements c.args.columns.now) in
    IsBegun-end _ c.loop-i.out.items _ c.loop-i.later _ _ (trees_from-none f c.loop-i.i c.args.part.1 (omega (arith, c.loop-i-test.false)))
    c.loop-i.invariant c.in_ok-put_end.ensures.ok
    ∙ append_assoc c.args.out.now.items (c.args.mark ∷ []) _

pub put_each-loop-part-init : goal.put_each-loop-part-init
put_each-loop-part-init g t c = record { readable = c.requires; begun = IsBegun-none _ _ }

pub put_each-loop-part-preserved : goal.put_each-loop-part-preserved
put_each-loop-part-preserved g t c =
    let v = c.loop-part.invariant in
    let cols = g.C.Columns.elements c.args.columns.now in
    let i = c.args.i in
    let first = c.part-item.result in
    let parts = c.args.parts.now in
    let rest = drop (c.loop-part.part-index + 1) parts in
    let next : drop c.loop-part.part-index parts ≡ first ∷ rest =
    drop_more parts c.loop-part.part-index first c.loop-part-test.true ∙ ap (λ p. p ∷ rest) (sym c.part-item.is) in
    let sound = subst (λ ps. ReadableEach (plans_of (map plan_view ps)) cols i) next v.readable in
    record {
      readable = record { size = sound.size; sound = sound.sound.1; within = sound.within };
      begun = IsBegun-next _ c.loop-part.out.items c.put_value.new.out.items c.loop-part.later
          (tree_at (plan_view first) cols i) _ _ _ (ap (λ ps. each_at (plans_of (map plan_view ps)) cols i) next) v.begun
          (c.in_ok-put_value.ensures.ok
          ∙ ap (λ n. c.loop-part.out.items ++ n ∷ compact_text (data_of (tree_at (plan_view first) cols i))) c.mark_before.ensures);
    }

pub put_each-returns-in_err-put_value-clause-kept : goal.put_each-returns-in_err-put_value-clause-kept
put_each-returns-in_err-put_value-clause-kept g t c =
    kept-kept _ c.loop-part.out.items c.put_value.new.out.items c.loop-part.invariant.begun.kept c.put_value.ensures.kept

pub put_each-returns-in_err-put_end-clause-kept : goal.put_each-returns-in_err-put_end-clause-kept
put_each-returns-in_err-put_end-clause-kept g t c =
    kept-kept _ c.loop-part.out.items c.put_end.new.out.items c.loop-part.invariant.begun.kept c.put_end.ensures.kept

pub put_each-returns-clause-ok : goal.put_each-returns-clause-ok
put_each-returns-clause-ok g t c =
    let cols = g.C.Columns.elements c.args.columns.now in
    let none = drop_all c.loop-part.part-index c.args.parts.now c.loop-part-test.false in
    IsBegun-end _ c.loop-part.out.items _ c.loop-part.later _ _ (ap (λ ps. each_at (plans_of (map plan_view ps)) cols c.args.i) none)
    c.loop-part.invariant.begun c.in_ok-put_end.ensures.ok

pub put_value-put_part-requires-clause-within : goal.put_value-put_part-requires-clause-within
put_value-put_part-requires-clause-within g t c =
    let cols = g.C.Columns.elements c.args.columns.now in
    let e = c.in-Text.ends in
    let b = c.in-Text.bytes in
    let r = readable-is _ (text e b) cols c.args.i (ap plan_view c.in-Text.is ∙ view-Text e b) c.requires in
    omega (arith, c.span-text.ensures.end, text-within e b cols c.args.i r)

smaller : (e : ℕ) (p : Box Plan Global) → the_size p.value < the_size (ListPlan e p)
smaller e p = search (rules, plan_lemmas)

pub put_value-put_range-requires : goal.put_value-put_range-requires
put_value-put_range-requires g t c κs within =
    let cols = g.C.Columns.elements c.args.columns.now in
    let k = c.in-List.ends in
    let of = plan_view c.deref.result.now in
    let is = ap plan_view c.in-List.is ∙ view-List k c.in-List.of ∙ ap (λ p. list k (plan_view p)) (sym c.deref.ensures) in
    let r = items-readable k of cols c.args.i (readable-is _ (list k of) cols c.args.i is c.requires) in
    let e = ap the_size c.in-List.is in
    let d = ap the_size c.deref.ensures in
    let order : c.span-items.result.0 ≤ c.span-items.result.1 =
    omega (arith, r.1, c.span-items.ensures.begin, c.span-items.ensures.end) in (
      omega (arith, e, d, smaller k c.in-List.of),
      (search (rules, within), (search rules, (order, subst (ReadableTo of cols) (sym c.span-items.ensures.end) r.0))),
    )

smaller_maybe : (e : ℕ) (p : Box Plan Global) → the_size p.value < the_size (MaybePlan e p)
smaller_maybe e p = search (rules, plan_lemmas)

pub put_value-put_optional-requires : goal.put_value-put_optional-requires
put_value-put_optional-requires g t c κs within =
    let cols = g.C.Columns.elements c.args.columns.now in
    let k = c.in-Maybe.ends in
    let of = plan_view c.deref-in-Maybe.result.now in
    let is = ap plan_view c.in-Maybe.is ∙ view-Maybe k c.in-Maybe.of ∙ ap (λ p. maybe k (plan_view p)) (sym c.deref-in-Maybe.ensures) in
    let r = optional-readable k of cols c.args.i (readable-is _ (maybe k of) cols c.args.i is c.requires) in
    let e = ap the_size c.in-Maybe.is in
    let d = ap the_size c.deref-in-Maybe.ensures in
    let order : c.span-part.result.0 ≤ c.span-part.result.1 =
    omega (arith, r.1, c.span-part.ensures.begin, c.span-part.ensures.end) in (
      omega (arith, e, d, smaller_maybe k c.in-Maybe.of),
      (search (rules, within), (search rules, (order, subst (ReadableTo of cols) (sym c.span-part.ensures.end) r.0))),
    )

-- what is readable of a choice in the code
choice_readable : (s : ℕ) (ps : Plans) (cols : Cols) (i : ℕ) → Readable (choice s (plans_of (plans_view ps))) cols i
    → Readable (choice s (plans_of (map plan_view ps.list.items))) cols i
choice_readable s ps cols i r = readable-is _ _ cols i (ap (λ l. choice s (plans_of l)) (plans_view-list ps)) r

pub put_choice-index-chosen-requires : goal.put_choice-index-chosen-requires
put_choice-index-chosen-requires g t c =
    let cols = g.C.Columns.elements c.args.columns.now in
    let s = c.args.tags in
    let ps = c.args.of.now in
    omega (
      arith,
      c.tag-tag.ensures,
      c.if-tag-eq0.false,
      tag-among s (map plan_view ps.list.items) cols c.args.i (choice_readable s ps cols c.args.i c.requires),
      length-map ps.list.items plan_view,
      ps.list.ok,
    )

smaller_part : (ps : Plans) (i : ℕ) (x : Plan) → i < length ps.list.items → x ≡ get_or ps.list.items i x → the_size x < plans_size ps
smaller_part ps i x h is = search (rules, plan_lemmas)

pub put_choice-put_value-requires : goal.put_choice-put_value-requires
put_choice-put_value-requires g t c κs within =
    let cols = g.C.Columns.elements c.args.columns.now in
    let i = c.args.i in
    let s = c.args.tags in
    let ps = c.args.of.now in
    let l = ps.list.items in
    let r = choice_readable s ps cols i c.requires in
    let tag = c.tag-tag.result in
    let is = sym c.tag-tag.ensures in
    let some : 0 < tag = omega (arith, c.if-tag-eq0.false) in
    let among : tag ≤ length l = omega (arith, is, tag-among s (map plan_view l) cols i r, length-map l plan_view) in
    let x = c.index-chosen.result.now in
    let n = of_tag-at l tag x some among c.index-chosen.ensures in
    let f = smaller_part ps (tag - 1) x (omega (arith, some, among)) c.index-chosen.ensures in (
      omega (arith, c.decreases, f),
      (
        search (rules, within),
        (
          search rules,
          subst (Readable (plan_view x) cols) (sym c.number-at.ensures)
              (picked-readable s (plans_of (map plan_view l)) tag (plan_view x) cols i n is some r),
        ),
      ),
    )

pub put_choice-returns-in_err-put_value-clause-kept : goal.put_choice-returns-in_err-put_value-clause-kept
put_choice-returns-in_err-put_value-clause-kept g t c =
    kept-on c.args.out.now.items _ _ _ c.in_ok-put_tag.ensures.ok c.put_value.ensures.kept

pub put_choice-returns-clause-ok : goal.put_choice-returns-clause-ok
put_choice-returns-clause-ok g t c =
    let cols = g.C.Columns.elements c.args.columns.now in
    let i = c.args.i in
    let s = c.args.tags in
    let ps = c.args.of.now in
    let l = ps.list.items in
    let r = choice_readable s ps cols i c.requires in
    let tag = c.tag-tag.result in
    let is = sym c.tag-tag.ensures in
    let some : 0 < tag = omega (arith, c.if-tag-eq0.false) in
    let among : tag ≤ length l = omega (arith, is, tag-among s (map plan_view l) cols i r, length-map l plan_view) in
    let x = c.index-chosen.result.now in
    let n = of_tag-at l tag x some among c.index-chosen.ensures in
    let v = tree_at (plan_view x) cols c.number-at.result in
    pick-put c.args.out.now.items _ _ _ tag v c.in_ok-put_tag.ensures.ok c.in_ok-put_value.ensures.ok c.in_ok-push.ensures.items
    ∙ ap (λ (u : TreeData). c.args.out.now.items ++ compact_text (data_of u))
    (ap (λ j. pick tag (tree_at (plan_view x) cols j)) c.number-at.ensures
    ∙ sym (tree_at-picked s (plans_of (map plan_view l)) tag (plan_view x) cols i n is some)
    ∙ ap (λ ls. tree_at (choice s (plans_of ls)) cols i) (sym (plans_view-list ps)))

-- each value behind its mark
pub put_value-returns-in_ok-put_flag-in-Bool-clause-ok : goal.put_value-returns-in_ok-put_flag-in-Bool-clause-ok
put_value-returns-in_ok-put_flag-in-Bool-clause-ok g t c =
    let cols = g.C.Columns.elements c.args.columns.now in
    let i = c.args.i in
    let k = c.in-Bool.column in
    mark-put c.args.out.now.items _ _ c.args.mark (flag (c.number-in-Bool.result == 1)) _
    c.in_ok-push-in-Bool.ensures.items c.in_ok-put_flag-in-Bool.ensures.ok
    (ap (λ n. flag (n == 1)) c.number-in-Bool.ensures ∙ ap (λ p. tree_at p cols i) (sym (ap plan_view c.in-Bool.is ∙ view-Bool k)))

pub put_value-returns-in_ok-put_part-in-Text-clause-ok : goal.put_value-returns-in_ok-put_part-in-Text-clause-ok
put_value-returns-in_ok-put_part-in-Text-clause-ok g t c =
    let cols = g.C.Columns.elements c.args.columns.now in
    let i = c.args.i in
    let e = c.in-Text.ends in
    let b = c.in-Text.bytes in
    let to = c.span-text.result.1 in
    let begin = begin_at (cols e) i in
    c.in_ok-put_part-in-Text.ensures.ok
    ∙ ap (λ (u : TreeData). c.args.out.now.items ++ c.args.mark ∷ compact_text (data_of u))
    (ap (λ n. text_tree (text_from (cols b) n (to - n))) c.span-text.ensures.begin
    ∙ ap (λ n. text_tree (text_from (cols b) begin (n - begin))) c.span-text.ensures.end
    ∙ ap (λ p. tree_at p cols i) (sym (ap plan_view c.in-Text.is ∙ view-Text e b)))

pub put_value-returns-in_ok-put_range-in-List-clause-ok : goal.put_value-returns-in_ok-put_range-in-List-clause-ok
put_value-returns-in_ok-put_range-in-List-clause-ok g t c =
    let cols = g.C.Columns.elements c.args.columns.now in
    let i = c.args.i in
    let k = c.in-List.ends in
    let of = plan_view c.deref.result.now in
    let to = c.span-items.result.1 in
    let begin = begin_at (cols k) i in
    let is = ap plan_view c.in-List.is ∙ view-List k c.in-List.of ∙ ap (λ p. list k (plan_view p)) (sym c.deref.ensures) in
    c.in_ok-put_range-in-List.ensures.ok
    ∙ ap (λ (u : TreeData). c.args.out.now.items ++ c.args.mark ∷ compact_text (data_of u))
    (ap (λ n. items (trees_from (tree_at of cols) n (to - n))) c.span-items.ensures.begin
    ∙ ap (λ n. items (trees_from (tree_at of cols) begin (n - begin))) c.span-items.ensures.end
    ∙ ap (λ p. tree_at p cols i) (sym is))

pub put_value-returns-in_ok-put_optional-in-Maybe-clause-ok : goal.put_value-returns-in_ok-put_optional-in-Maybe-clause-ok
put_value-returns-in_ok-put_optional-in-Maybe-clause-ok g t c =
    let cols = g.C.Columns.elements c.args.columns.now in
    let i = c.args.i in
    let k = c.in-Maybe.ends in
    let of = plan_view c.deref-in-Maybe.result.now in
    let to = c.span-part.result.1 in
    let begin = begin_at (cols k) i in
    let is = ap plan_view c.in-Maybe.is ∙ view-Maybe k c.in-Maybe.of ∙ ap (λ p. maybe k (plan_view p)) (sym c.deref-in-Maybe.ensures) in
    c.in_ok-put_optional-in-Maybe.ensures.ok
    ∙ ap (λ (u : TreeData). c.args.out.now.items ++ c.args.mark ∷ compact_text (data_of u))
    (ap (λ n. only (trees_from (tree_at of cols) n (to - n))) c.span-part.ensures.begin
    ∙ ap (λ n. only (trees_from (tree_at of cols) begin (n - begin))) c.span-part.ensures.end
    ∙ ap (λ p. tree_at p cols i) (sym is))

pub put_value-returns-in_ok-put_each-in-Record-clause-ok : goal.put_value-returns-in_ok-put_each-in-Record-clause-ok
put_value-returns-in_ok-put_each-in-Record-clause-ok g t c =
    let cols = g.C.Columns.elements c.args.columns.now in
    let i = c.args.i in
    let ps = c.in-Record.parts in
    let same : map plan_view c.deref-in-Record.result.now ≡ plans_view ps =
    ap (map plan_view) c.deref-in-Record.ensures.value ∙ sym (plans_view-list ps) in
    mark-put c.args.out.now.items _ _ c.args.mark (parts (each_at (plans_of (map plan_view c.deref-in-Record.result.now)) cols i)) _
    c.in_ok-push-in-Record.ensures.items c.in_ok-put_each-in-Record.ensures.ok
    (ap (λ l. parts (each_at (plans_of l) cols i)) same ∙ ap (λ p. tree_at p cols i) (sym (ap plan_view c.in-Record.is ∙ view-Record ps)))

pub put_value-returns-in_ok-put_choice-in-Choice-clause-ok : goal.put_value-returns-in_ok-put_choice-in-Choice-clause-ok
put_value-returns-in_ok-put_choice-in-Choice-clause-ok g t c =
    let cols = g.C.Columns.elements c.args.columns.now in
    let i = c.args.i in
    let k = c.in-Choice.tags in
    let ps = c.in-Choice.of in
    mark-put c.args.out.now.items _ _ c.args.mark (tree_at (choice k (plans_of (plans_view ps))) cols i) _
    c.in_ok-push-in-Choice.ensures.items c.in_ok-put_choice-in-Choice.ensures.ok
    (ap (λ p. tree_at p cols i) (sym (ap plan_view c.in-Choice.is ∙ view-Choice k ps)))

pub put_value-returns-in_err-put_choice-in-Choice-clause-kept : goal.put_value-returns-in_err-put_choice-in-Choice-clause-kept
put_value-returns-in_err-put_choice-in-Choice-clause-kept g t c =
    kept-on c.args.out.now.items _ _ _
    c.in_ok-push-in-Choice.ensures.items c.put_choice.ensures.kept
