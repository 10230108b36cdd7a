use Rattle.std.proofs.Common.{rules, ◌+◌, ◌-◌, ◌<◌, length, ap, subst, ◌∙◌, refl, arith}
use Rattle.nt_plans.specs.PlanViews.{plan_view}
use Rattle.nt_plans.proofs.PlanViews.{view-Bool, view-Text}
use Rattle.nt_trees.specs.Columns.{last_end}
use Rattle.nt_trees.specs.Put.{how_many_trees}
use Rattle.nt_trees.specs.TreeAt.{tree_at, trees_from}
use Rattle.nt_trees.specs.Views.{cols_of, plans_in}
use Rattle.nt_shred.specs.Frame.{set_frame}
use Rattle.nt_shred.proofs.Left.{all-first, all-next, each-first, each-next}
use Rattle.nt_shred.proofs.Arms.{old-room, list-all, list-sound, list-end, list-done}
use Rattle.nt_shred.proofs.Alternatives.{nth-takes, nth-sound, nth-at, pick-some, pick-among, pick-ready, pick-room, pick-done}
use Rattle.nt_shred.proofs.Optionals.{how_many_in, maybe-some, maybe-sound, maybe-end, maybe-done}
use Rattle.nt_moving.specs.declared.level.Level.TheVariants.{Nothing, Flag, Text, List, Choice}
use Rattle.nt_moving.specs.Levels.{level_tree, CanBeRead}
use Rattle.nt_moving.proofs.Lists.{items-step, parts-step}
use Rattle.nt_moving.proofs.Ready.{ready-of, gains-of, is-List, is-Maybe, is-Choice, smaller-part}
use Rattle.nt_moving.proofs.Runs.{run-room, run-done}
use Rattle.nt_moving.proofs.moving.+moving.Goals as goal

-- ---- elements one after the other

pub move_each-move_tree-requires-clause-ready : goal.move_each-move_tree-requires-clause-ready
move_each-move_tree-requires-clause-ready g t c κs within =
    let f = tree_at (plan_view c.args.items.of.now) (g.C.Columns.elements c.args.columns.now) in
    all-first _ _ _ (f c.loop-i.i) c.args.out.now c.loop-i.out
    (items-step (plan_view c.args.to.now) _ f c.loop-i.i c.args.items.to c.args.out.now c.loop-i.out c.loop-i-test.true c.loop-i.invariant)

pub move_each-loop-i-preserved : goal.move_each-loop-i-preserved
move_each-loop-i-preserved g t c =
    let f = tree_at (plan_view c.args.items.of.now) (g.C.Columns.elements c.args.columns.now) in
    all-next _ _ _ (f c.loop-i.i) c.args.out.now c.loop-i.out c.move_tree.new.out
    (items-step (plan_view c.args.to.now) _ f c.loop-i.i c.args.items.to c.args.out.now c.loop-i.out c.loop-i-test.true c.loop-i.invariant)
    c.move_tree.ensures

-- ---- numbers as they lie

pub move_items-push_words-requires-clause-room : goal.move_items-push_words-requires-clause-room
move_items-push_words-requires-clause-room g t c =
    let s = c.args.items in
    let n = c.in-Some.numbers in
    run-room (plan_view c.args.to.now) (plan_view s.of.now) (g.C.Columns.elements c.args.columns.now) s.from s.to n.column n.words
    c.args.out.now c.in-Some.ensures c.requires.order c.requires.readable c.requires.ready

pub move_items-returns-in-Some : goal.move_items-returns-in-Some
move_items-returns-in-Some g t c =
    let s = c.args.items in
    let n = c.in-Some.numbers in
    run-done (plan_view c.args.to.now) (plan_view s.of.now) (g.C.Columns.elements c.args.columns.now) s.from s.to n.column n.words
    c.args.out.now c.in-Some.ensures c.requires.order c.requires.readable c.push_words.new.out c.push_words.ensures

-- ---- leaves

pub move_level-push_flag-requires : goal.move_level-push_flag-requires
move_level-push_flag-requires g t c =
    ready-of c.args.to.now _ c.args.level (Flag c.flag_in.result) (g.C.Columns.elements c.args.columns.now) c.args.out.now
    (ap plan_view c.in-Bool.is ∙ view-Bool c.in-Bool.column) c.flag_in.ensures c.requires.ready

pub move_level-move_text-requires-clause-ready : goal.move_level-move_text-requires-clause-ready
move_level-move_text-requires-clause-ready g t c κs within =
    ready-of c.args.to.now _ c.args.level (Text c.text_in.result) (g.C.Columns.elements c.args.columns.now) c.args.out.now
    (ap plan_view c.in-Text.is ∙ view-Text c.in-Text.ends c.in-Text.bytes) c.text_in.ensures c.requires.ready

-- ---- lists

pub move_level-move_items-requires-clause-ready : goal.move_level-move_items-requires-clause-ready
move_level-move_items-requires-clause-ready g t c κs within =
    let cols = g.C.Columns.elements c.args.columns.now in
    let e = c.in-List.ends in
    let x = c.deref-inside.result.now in
    let s = c.items_in.result in
    let ts = trees_from (tree_at (plan_view s.of.now) cols) s.from (s.to - s.from) in
    let plan_is = is-List c.args.to.now x e c.in-List.of c.in-List.is c.deref-inside.ensures in
    list-all e (plan_view x) ts c.args.out.now
    (ready-of c.args.to.now _ c.args.level (List s) cols c.args.out.now plan_is c.items_in.ensures c.requires.ready)

pub move_level-push_count-requires-clause-room : goal.move_level-push_count-requires-clause-room
move_level-push_count-requires-clause-room g t c =
    let cols = g.C.Columns.elements c.args.columns.now in
    let e = c.in-List.ends in
    let x = c.deref-inside.result.now in
    let s = c.items_in.result in
    let ts = trees_from (tree_at (plan_view s.of.now) cols) s.from (s.to - s.from) in
    let plan_is = is-List c.args.to.now x e c.in-List.of c.in-List.is c.deref-inside.ensures in
    let start = c.args.out.now in
    let r = ready-of c.args.to.now _ c.args.level (List s) cols start plan_is c.items_in.ensures c.requires.ready in
    let now = c.move_items.new.out in (
      last_end (cols_of start e) + how_many_trees ts,
      list-sound e (plan_view x) ts start now r c.move_items.ensures,
      list-end e (plan_view x) ts start now r c.move_items.ensures _ refl,
    )

pub move_level-returns-in-List : goal.move_level-returns-in-List
move_level-returns-in-List g t c =
    let cols = g.C.Columns.elements c.args.columns.now in
    let e = c.in-List.ends in
    let x = c.deref-inside.result.now in
    let s = c.items_in.result in
    let ts = trees_from (tree_at (plan_view s.of.now) cols) s.from (s.to - s.from) in
    let plan_is = is-List c.args.to.now x e c.in-List.of c.in-List.is c.deref-inside.ensures in
    let start = c.args.out.now in
    let r = ready-of c.args.to.now _ c.args.level (List s) cols start plan_is c.items_in.ensures c.requires.ready in
    let now = c.move_items.new.out in
    gains-of c.args.to.now _ c.args.level (List s) cols start c.push_count.new.out plan_is c.items_in.ensures
    (list-done e (plan_view x) ts start now r c.move_items.ensures c.push_count.new.out _
    (c.push_count.ensures _ (list-sound e (plan_view x) ts start now r c.move_items.ensures)) refl)

-- ---- optionals

pub move_level-move_some-requires-clause-ready : goal.move_level-move_some-requires-clause-ready
move_level-move_some-requires-clause-ready g t c κs within =
    let cols = g.C.Columns.elements c.args.columns.now in
    let e = c.in-Maybe.ends in
    let x = c.deref-inside-in-Maybe.result.now in
    let plan_is = is-Maybe c.args.to.now x e c.in-Maybe.of c.in-Maybe.is c.deref-inside-in-Maybe.ensures in
    maybe-some e (plan_view x) (level_tree c.args.level cols) c.args.out.now
    (ready-of c.args.to.now _ c.args.level c.args.level cols c.args.out.now plan_is refl c.requires.ready)

pub move_level-push_count-requires-in-Maybe-clause-room : goal.move_level-push_count-requires-in-Maybe-clause-room
move_level-push_count-requires-in-Maybe-clause-room g t c =
    let cols = g.C.Columns.elements c.args.columns.now in
    let v = level_tree c.args.level cols in
    let e = c.in-Maybe.ends in
    let x = c.deref-inside-in-Maybe.result.now in
    let plan_is = is-Maybe c.args.to.now x e c.in-Maybe.of c.in-Maybe.is c.deref-inside-in-Maybe.ensures in
    let start = c.args.out.now in
    let r = ready-of c.args.to.now _ c.args.level c.args.level cols start plan_is refl c.requires.ready in
    let now = c.move_some.new.out in (
      last_end (cols_of start e) + how_many_in v,
      maybe-sound e (plan_view x) v start now r c.move_some.ensures,
      maybe-end e (plan_view x) v start now r c.move_some.ensures _ refl,
    )

pub move_level-returns-in-Maybe : goal.move_level-returns-in-Maybe
move_level-returns-in-Maybe g t c =
    let cols = g.C.Columns.elements c.args.columns.now in
    let v = level_tree c.args.level cols in
    let e = c.in-Maybe.ends in
    let x = c.deref-inside-in-Maybe.result.now in
    let plan_is = is-Maybe c.args.to.now x e c.in-Maybe.of c.in-Maybe.is c.deref-inside-in-Maybe.ensures in
    let start = c.args.out.now in
    let r = ready-of c.args.to.now _ c.args.level c.args.level cols start plan_is refl c.requires.ready in
    let now = c.move_some.new.out in
    let new = c.push_count-in-Maybe.new.out in
    gains-of c.args.to.now _ c.args.level c.args.level cols start new plan_is refl
    (maybe-done e (plan_view x) v start now r c.move_some.ensures new _
    (c.push_count-in-Maybe.ensures _ (maybe-sound e (plan_view x) v start now r c.move_some.ensures)) refl)

-- ---- choices

pub move_level-push_tag-requires-clause-room : goal.move_level-push_tag-requires-clause-room
move_level-push_tag-requires-clause-room g t c =
    (ready-of c.args.to.now _ c.args.level Nothing (g.C.Columns.elements c.args.columns.now) c.args.out.now
    (is-Choice c.args.to.now c.in-Choice.tags c.in-Choice.of c.in-Choice.is) c.in-None.ensures c.requires.ready).room

pub move_level-overflow_sub-pick : goal.move_level-overflow_sub-pick
move_level-overflow_sub-pick g t c =
    let p = c.in-Some.pick in
    let r = ready-of c.args.to.now _ c.args.level (Choice p) (g.C.Columns.elements c.args.columns.now) c.args.out.now
    (is-Choice c.args.to.now c.in-Choice.tags c.in-Choice.of c.in-Choice.is) c.in-Some.ensures c.requires.ready in
    pick-some (plans_in c.in-Choice.of.list.items) p.tag _ r.fitting

pub move_level-index-chosen-requires : goal.move_level-index-chosen-requires
move_level-index-chosen-requires g t c =
    let of = c.in-Choice.of.list in
    let p = c.in-Some.pick in
    let r = ready-of c.args.to.now _ c.args.level (Choice p) (g.C.Columns.elements c.args.columns.now) c.args.out.now
    (is-Choice c.args.to.now c.in-Choice.tags c.in-Choice.of c.in-Choice.is) c.in-Some.ensures c.requires.ready in
    omega (arith, pick-some (plans_in of.items) p.tag _ r.fitting, pick-among of.items p.tag _ r.fitting, of.ok)

pub move_level-count-index-requires-clause-takes : goal.move_level-count-index-requires-clause-takes
move_level-count-index-requires-clause-takes g t c =
    let of = c.in-Choice.of.list.items in
    let p = c.in-Some.pick in
    let r = ready-of c.args.to.now _ c.args.level (Choice p) (g.C.Columns.elements c.args.columns.now) c.args.out.now
    (is-Choice c.args.to.now c.in-Choice.tags c.in-Choice.of c.in-Choice.is) c.in-Some.ensures c.requires.ready in
    let n = nth-at of p.tag c.index-chosen.result.now _ r.fitting c.index-chosen.ensures in
    nth-takes (plans_in of) p.tag (plan_view c.index-chosen.result.now) (set_frame c.args.out.now) n r.takes.1

pub move_level-count-index-requires-clause-room : goal.move_level-count-index-requires-clause-room
move_level-count-index-requires-clause-room g t c = old-room (plan_view c.args.to.now) _ c.args.out.now c.requires.ready

pub move_level-move_tree-requires : goal.move_level-move_tree-requires
move_level-move_tree-requires g t c κs within =
    let cols = g.C.Columns.elements c.args.columns.now in
    let s = c.in-Choice.tags in
    let of = c.in-Choice.of.list.items in
    let p = c.in-Some.pick in
    let r = ready-of c.args.to.now _ c.args.level (Choice p) cols c.args.out.now
    (is-Choice c.args.to.now s c.in-Choice.of c.in-Choice.is) c.in-Some.ensures c.requires.ready in
    let x = c.index-chosen.result.now in
    let n = nth-at of p.tag x _ r.fitting c.index-chosen.ensures in
    let inside : p.tag - 1 < length of = omega (arith, pick-some (plans_in of) p.tag _ r.fitting, pick-among of p.tag _ r.fitting) in
    let less = smaller-part c.args.to.now x s c.in-Choice.of (p.tag - 1) c.in-Choice.is inside c.index-chosen.ensures in
    let readable = subst (λ l. CanBeRead l cols) c.in-Some.ensures c.requires.inside in (
      omega (arith, less),
      (search (rules, within), (search rules, (readable, pick-ready s (plans_in of) p.tag (plan_view x) _ n c.args.out.now r))),
    )

pub move_level-push_tag-requires-in-Some-clause-room : goal.move_level-push_tag-requires-in-Some-clause-room
move_level-push_tag-requires-in-Some-clause-room g t c =
    let s = c.in-Choice.tags in
    let of = c.in-Choice.of.list.items in
    let p = c.in-Some.pick in
    let start = c.args.out.now in
    let r = ready-of c.args.to.now _ c.args.level (Choice p) (g.C.Columns.elements c.args.columns.now) start
    (is-Choice c.args.to.now s c.in-Choice.of c.in-Choice.is) c.in-Some.ensures c.requires.ready in
    let x = c.index-chosen.result.now in
    let n = nth-at of p.tag x _ r.fitting c.index-chosen.ensures in
    let index = c.count-index.ensures.size _
    (nth-sound (plans_in of) 0 p.tag p.tag (plan_view x) (cols_of start s) (cols_of start) (omega arith) n r.sound.3) in
    pick-room s (plans_in of) p.tag (plan_view x) _ n start c.move_tree.new.out c.move_tree.ensures c.count-index.result index r

pub move_level-returns-in-Some : goal.move_level-returns-in-Some
move_level-returns-in-Some g t c =
    let cols = g.C.Columns.elements c.args.columns.now in
    let s = c.in-Choice.tags in
    let of = c.in-Choice.of.list.items in
    let p = c.in-Some.pick in
    let start = c.args.out.now in
    let new = c.push_tag-in-Some.new.out in
    let plan_is = is-Choice c.args.to.now s c.in-Choice.of c.in-Choice.is in
    let r = ready-of c.args.to.now _ c.args.level (Choice p) cols start plan_is c.in-Some.ensures c.requires.ready in
    let x = c.index-chosen.result.now in
    let n = nth-at of p.tag x _ r.fitting c.index-chosen.ensures in
    let index = c.count-index.ensures.size _
    (nth-sound (plans_in of) 0 p.tag p.tag (plan_view x) (cols_of start s) (cols_of start) (omega arith) n r.sound.3) in
    gains-of c.args.to.now _ c.args.level (Choice p) cols start new plan_is c.in-Some.ensures
    (pick-done s (plans_in of) p.tag (plan_view x) _ n start c.move_tree.new.out c.move_tree.ensures c.count-index.result index
    new c.push_tag-in-Some.ensures)

-- ---- parts

pub move_parts-move_tree-requires-clause-ready : goal.move_parts-move_tree-requires-clause-ready
move_parts-move_tree-requires-clause-ready g t c κs within =
    let s = c.args.parts in
    let first = c.index-to-k.result in
    let step = parts-step c.args.to.now s.of.now (g.C.Columns.elements c.args.columns.now) s.i c.loop-k.k first c.index-parts-k.result _
    c.args.out.now c.loop-k.out c.loop-k-test.true c.index-to-k.is c.loop-k.invariant.readable c.loop-k.invariant.left in
    each-first _ _ (plan_view first) _ _ _ c.args.out.now c.loop-k.out step.left

pub move_parts-loop-k-preserved : goal.move_parts-loop-k-preserved
move_parts-loop-k-preserved g t c =
    let s = c.args.parts in
    let first = c.index-to-k.result in
    let step = parts-step c.args.to.now s.of.now (g.C.Columns.elements c.args.columns.now) s.i c.loop-k.k first c.index-parts-k.result _
    c.args.out.now c.loop-k.out c.loop-k-test.true c.index-to-k.is c.loop-k.invariant.readable c.loop-k.invariant.left in
    record {
      readable = step.later;
      left = each-next _ _ (plan_view first) _ _ _ c.args.out.now c.loop-k.out c.move_tree.new.out step.left c.move_tree.ensures;
    }
