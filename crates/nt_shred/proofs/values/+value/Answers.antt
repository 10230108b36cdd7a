use Rattle.std.proofs.Common.{rules, ◌≡◌, ◌∙◌, ◌+◌, ◌-◌, ◌<◌, ◌≤◌, ◌∷◌, [], nat_lt, true, false}
use Rattle.std.proofs.Common.{length, drop, sym, ap, subst, arith, refl}
use Rattle.std.proofs.lemmas.List.{drop_more, drop_all}
use Rattle.nt_types.specs.TreeData.{trees_of}
use Rattle.nt_event.specs.Standing.{StandsFrom}
use Rattle.nt_plans.specs.Plan.{record_of, choice}
use Rattle.nt_plans.specs.PlanViews.{plan_view}
use Rattle.nt_plans.specs.declared.plan.Plan.{the_lemmas as plan_lemmas}
use Rattle.nt_trees.specs.Columns.{last_end}
use Rattle.nt_trees.specs.Put.{how_many_trees}
use Rattle.nt_trees.specs.Views.{cols_of, plans_in}
use Rattle.nt_shred.proofs.Arms.{list-sound}
use Rattle.nt_shred.proofs.Alternatives.{nth-takes, nth-sound}
use Rattle.nt_shred.specs.Frame.{set_frame}
use Rattle.nt_shred.proofs.Optionals.{how_many_in, maybe-sound, maybe-now, maybe-end}
use Rattle.nt_shred.specs.Walk.{PutsAll, PutsSome, PutsEach, Puts}
use Rattle.nt_shred.proofs.LineGrowth.{grew-then, room-later, room-to-add}
use Rattle.nt_shred.proofs.Walks.{SoFarEach, puts-grew, all-none, all-more, all-done, so_far-grew, each-more, each-done}
use Rattle.nt_shred.proofs.LineArms.{nth-of, list-ready, list-put, nothing-put, pick-inside, pick-put}
use Rattle.nt_shred.proofs.OptionalSteps.{maybe-inside, none-put, some-leaves, maybe-ready, maybe-put}
use Rattle.nt_shred.proofs.Equal.{leaves-none, leaves-found, lt-next, record-leaves}
use Rattle.nt_shred.proofs.values.+value.Goals as goal

-- ---- values of plans

pub each-returns-in_err-i : goal.each-returns-in_err-i
each-returns-in_err-i t c =
    let v = c.loop-k.invariant in
    let new = c.value_in_place.new.out in
    leaves-none (λ end. PutsEach (plans_in c.args.plans.now) c.args.line.now c.args.at end c.args.out.now new) c.args.out.now new
    c.from_residual-in_err-i.result c.from_residual-in_err-i.ensures
    (grew-then c.args.out.now c.loop-k.out new (record { columns = v.extends; frame = v.frame }) c.in_err-i.ensures)

pub each-loop-k-preserved : goal.each-loop-k-preserved
each-loop-k-preserved t c =
    let plans = c.args.plans.now in
    let k = c.loop-k.k in
    let first = c.index-plans-k.result in
    let rest = drop (k + 1) plans in
    let line = c.args.line.now in
    let at = c.args.at in
    let start = c.args.out.now in
    let next : drop k plans ≡ first ∷ rest =
    drop_more plans k first c.loop-k-test.true ∙ ap (λ p. p ∷ rest) (sym c.index-plans-k.is) in
    let so_far = subst (λ qs. SoFarEach (plans_in plans) (plans_in qs) (nat_lt 0 k) line at c.loop-k.i start c.loop-k.out) next
    c.loop-k.invariant in
    subst (λ b. SoFarEach (plans_in plans) (plans_in rest) b line at c.in_ok-i.i start c.value_in_place.new.out) (sym (lt-next k))
    (each-more (plans_in plans) (plan_view first) (plans_in rest) (nat_lt 0 k) line at c.loop-k.i c.in_ok-next.next c.in_ok-i.i start
    c.loop-k.out c.value_in_place.new.out so_far c.in_ok-next.ensures c.in_ok-i.ensures)

pub each-returns : goal.each-returns
each-returns t c =
    let plans = c.args.plans.now in
    let k = c.loop-k.k in
    let i = c.loop-k.i in
    let line = c.args.line.now in
    let at = c.args.at in
    let start = c.args.out.now in
    let now = c.loop-k.out in
    let v = c.loop-k.invariant in
    let none : drop k plans ≡ [] = drop_all k plans (omega (arith, c.loop-k-test.false)) in
    let so_far = subst (λ qs. SoFarEach (plans_in plans) (plans_in qs) (nat_lt 0 k) line at i start now) none v in
    leaves-found (λ end. PutsEach (plans_in plans) line at end start now) (λ end. StandsFrom (93 ∷ []) line i end) start now c.after.result
    c.after.ensures (λ end close. each-done (plans_in plans) (nat_lt 0 k) line at i end start now so_far close)
    (record { columns = v.extends; frame = v.frame })

-- ---- items

pub items-returns-in-Some-after : goal.items-returns-in-Some-after
items-returns-in-Some-after t c =
    let p = plan_view c.args.of.now in
    let line = c.args.line.now in
    let at = c.args.at in
    let bs = c.args.out.now in
    all-done p false line at at c.in-Some-after.end bs bs (all-none p line at bs c.requires.within c.requires.can) c.in-Some-after.ensures

pub items-loop-next-init : goal.items-loop-next-init
items-loop-next-init t c =
    let p = plan_view c.args.of.now in
    let line = c.args.line.now in
    let at = c.args.at in
    let bs = c.args.out.now in
    all-more p false line at at at c.in_ok-i.i bs bs c.value.new.out (all-none p line at bs c.requires.within c.requires.can) refl
    c.in_ok-i.ensures

pub items-returns-in_err-i-2 : goal.items-returns-in_err-i-2
items-returns-in_err-i-2 t c =
    let p = plan_view c.args.of.now in
    let line = c.args.line.now in
    let at = c.args.at in
    let start = c.args.out.now in
    let new = c.value-in-Some-comma.new.out in
    leaves-none (λ end. PutsAll p line at end start new) start new c.from_residual-in_err-i-2.result c.from_residual-in_err-i-2.ensures
    (grew-then start c.loop-next.out new (so_far-grew p true line at c.loop-next.i start c.loop-next.out c.loop-next.invariant)
    c.in_err-i-2.ensures)

pub items-loop-next-preserved : goal.items-loop-next-preserved
items-loop-next-preserved t c =
    all-more (plan_view c.args.of.now) true c.args.line.now c.args.at c.loop-next.i c.in-Some-comma.next c.in_ok-i-2.i c.args.out.now
    c.loop-next.out c.value-in-Some-comma.new.out c.loop-next.invariant c.in-Some-comma.ensures c.in_ok-i-2.ensures

pub items-returns : goal.items-returns
items-returns t c =
    let p = plan_view c.args.of.now in
    let line = c.args.line.now in
    let at = c.args.at in
    let i = c.loop-next.i in
    let start = c.args.out.now in
    let now = c.loop-next.out in
    leaves-found (λ end. PutsAll p line at end start now) (λ end. StandsFrom (93 ∷ []) line i end) start now c.after-2.result
    c.after-2.ensures (λ end close. all-done p true line at i end start now c.loop-next.invariant close)
    (so_far-grew p true line at i start now c.loop-next.invariant)

-- ---- alternatives

pub picked-returns-in-Some : goal.picked-returns-in-Some
picked-returns-in-Some t c =
    nothing-put c.args.tags (plans_in c.args.of.now) c.args.line.now c.args.at c.in-Some.end c.args.out.now c.push_tag.new.out
    c.in-Some.ensures c.push_tag.ensures

pub picked-count-index-requires-clause-takes : goal.picked-count-index-requires-clause-takes
picked-count-index-requires-clause-takes t c =
    let of = c.args.of.now in
    let tag = c.in_ok-tag.tag in
    let x = c.index-of-tag.result in
    let n = nth-of of tag x c.if-tag-eq0.false c.if-tag-of.false c.index-of-tag.is in
    nth-takes (plans_in of) tag (plan_view x) (set_frame c.args.out.now) n c.requires.can.takes.1

pub picked-value-requires : goal.picked-value-requires
picked-value-requires t c =
    let of = c.args.of.now in
    let tag = c.in_ok-tag.tag in
    let x = c.index-of-tag.result in
    let n = nth-of of tag x c.if-tag-eq0.false c.if-tag-of.false c.index-of-tag.is in
    let comma = c.in_ok-next.ensures in
    let within : tag - 1 < length of = omega (arith, c.if-tag-eq0.false, c.if-tag-of.false) in
    let past : c.args.at ≤ c.in_ok-next.next = omega (arith, c.in_ok-first.ensures.some, c.in_ok-tag.ensures.some, comma.some) in (
      search (rules, plan_lemmas, within, c.decreases, c.index-of-tag.is),
      (
        comma.within,
        pick-inside c.args.tags (plans_in of) tag (plan_view x) c.args.line.now c.args.at c.in_ok-next.next c.args.out.now n past
            c.requires.can,
      ),
    )

pub picked-returns-in_err-end : goal.picked-returns-in_err-end
picked-returns-in_err-end t c =
    let line = c.args.line.now in
    let old = c.args.out.now in
    let new = c.value.new.out in
    leaves-none (λ end. Puts (choice c.args.tags (plans_in c.args.of.now)) line c.args.at end old new) old new
    c.from_residual-in_err-end.result c.from_residual-in_err-end.ensures
    (puts-grew (plan_view c.index-of-tag.result) line c.in_ok-next.next c.in_ok-last.last old new c.in_ok-last.ensures)

pub picked-push_tag-requires-2-clause-room : goal.picked-push_tag-requires-2-clause-room
picked-push_tag-requires-2-clause-room t c =
    let line = c.args.line.now in
    let next = c.in_ok-next.next in
    let last = c.in_ok-last.last in
    let h : Puts (plan_view c.index-of-tag.result) line next last c.args.out.now c.value.new.out = c.in_ok-last.ensures in
    let fits : 1 + (last - next) ≤ length line - c.args.at = omega (
      arith,
      c.in_ok-first.ensures.some,
      c.in_ok-tag.ensures.some,
      c.in_ok-next.ensures.some,
      h.stands.some,
      h.stands.within,
    ) in
    room-to-add c.value.new.out 1 c.args.tags ((c.count-index.result, c.in_ok-tag.tag) ∷ [])
    (room-later c.args.out.now c.value.new.out (length line - c.args.at) (last - next) 1 h.gains.frame h.gains.room h.few fits
    c.requires.can.room) (omega arith)

pub picked-returns : goal.picked-returns
picked-returns t c =
    let of = c.args.of.now in
    let tag = c.in_ok-tag.tag in
    let x = c.index-of-tag.result in
    let n = nth-of of tag x c.if-tag-eq0.false c.if-tag-of.false c.index-of-tag.is in
    let old = c.args.out.now in
    let index = c.count-index.ensures.size _ (nth-sound (plans_in of) 0 tag tag (plan_view x) (cols_of old c.args.tags) (cols_of old)
    (omega arith) n c.requires.can.sound.3) in
    pick-put c.args.tags (plans_in of) tag (plan_view x) c.args.line.now c.args.at c.in_ok-first.first c.in_ok-tag.i c.in_ok-next.next
    c.in_ok-last.last c.in_ok-end.end c.count-index.result old c.value.new.out c.push_tag-2.new.out n (omega (arith, c.if-tag.false))
    c.in_ok-first.ensures c.in_ok-tag.ensures c.in_ok-next.ensures c.in_ok-last.ensures c.in_ok-end.ensures index c.push_tag-2.ensures

-- ---- optionals

pub value_or_null-returns-in-Some : goal.value_or_null-returns-in-Some
value_or_null-returns-in-Some t c =
    none-put (plan_view c.args.of.now) c.args.line.now c.args.at c.in-Some.end c.args.out.now c.in-Some.ensures

pub value_or_null-returns : goal.value_or_null-returns
value_or_null-returns t c =
    some-leaves (plan_view c.args.of.now) c.args.line.now c.args.at c.args.out.now c.value.new.out c.value.result
    (sym c.takes_null.ensures ∙ c.if-takes_null.false) c.value.ensures

pub optional-value_or_null-requires : goal.optional-value_or_null-requires
optional-value_or_null-requires t c = (
  omega (arith, c.decreases),
  (
    c.requires.within,
    maybe-inside c.args.ends (plan_view c.args.of.now) (length c.args.line.now - c.args.at) c.args.out.now c.requires.can,
  ),
)

pub optional-count-total-requires-clause-room : goal.optional-count-total-requires-clause-room
optional-count-total-requires-clause-room t c =
    let ends = c.args.ends in
    let p = plan_view c.args.of.now in
    let line = c.args.line.now in
    let at = c.args.at in
    let end = c.in_ok-end.end in
    let old = c.args.out.now in
    let now = c.value_or_null.new.out in
    let h : PutsSome p line at end old now = c.in_ok-end.ensures in
    maybe-now ends p h.found old now (maybe-ready ends p line at end old now c.requires.can h) h.gains

pub optional-push_end-requires-clause-room : goal.optional-push_end-requires-clause-room
optional-push_end-requires-clause-room t c =
    let ends = c.args.ends in
    let p = plan_view c.args.of.now in
    let line = c.args.line.now in
    let at = c.args.at in
    let end = c.in_ok-end.end in
    let old = c.args.out.now in
    let now = c.value_or_null.new.out in
    let h : PutsSome p line at end old now = c.in_ok-end.ensures in
    let ready = maybe-ready ends p line at end old now c.requires.can h in
    let size = last_end (cols_of old ends) + how_many_in h.found in
    maybe-end ends p h.found old now ready h.gains c.count-total.result
    (c.count-total.ensures.size size (maybe-sound ends p h.found old now ready h.gains))

pub optional-returns : goal.optional-returns
optional-returns t c =
    let ends = c.args.ends in
    let p = plan_view c.args.of.now in
    let line = c.args.line.now in
    let at = c.args.at in
    let end = c.in_ok-end.end in
    let old = c.args.out.now in
    let now = c.value_or_null.new.out in
    let h : PutsSome p line at end old now = c.in_ok-end.ensures in
    let ready = maybe-ready ends p line at end old now c.requires.can h in
    let size = last_end (cols_of old ends) + how_many_in h.found in
    maybe-put ends p line at end old now c.requires.can h c.push_end.new.out c.count-total.result c.push_end.ensures
    (c.count-total.ensures.size size (maybe-sound ends p h.found old now ready h.gains))

-- ---- lists and records

pub list-returns : goal.list-returns
list-returns t c =
    let ends = c.args.ends in
    let p = plan_view c.args.of.now in
    let line = c.args.line.now in
    let at = c.args.at in
    let first = c.in_ok-first.first in
    let end = c.in_ok-end.end in
    let old = c.args.out.now in
    let now = c.items.new.out in
    let begin : StandsFrom (91 ∷ []) line at first = c.in_ok-first.ensures in
    let can = c.requires.can in
    let h : PutsAll p line first end old now = c.in_ok-end.ensures in
    let size = last_end (cols_of old ends) + how_many_trees (trees_of h.found) in
    let sound = list-sound ends p (trees_of h.found) old now (list-ready ends p line at first end old now begin can h) h.gains in
    list-put ends p line at first end old now begin can h c.push_end.new.out c.count-last.result c.push_end.ensures
    (c.count-last.ensures.size size sound)

pub record-returns : goal.record-returns
record-returns t c =
    let ps = plans_in c.args.plans.now in
    record-leaves (record_of ps) ps c.args.line.now c.args.at c.in_ok-first.first c.args.out.now c.each.new.out c.each.result refl
    c.in_ok-first.ensures c.each.ensures
