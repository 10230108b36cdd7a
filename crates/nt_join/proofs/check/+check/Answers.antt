use Rattle.std.proofs.Common.{◌≡◌, ◌≤◌, ◌+◌, ◌*◌, ◌-◌, ◌∙◌, ◌==◌, nat_lt, if◌then◌else◌, Some, None, suc, ◌∷◌, length, map, drop}
use Rattle.std.proofs.Common.{option_map, subst, sym, ap, arith}
use Rattle.std.proofs.lemmas.List.{length-map, drop_all}
use Rattle.nt_plans.specs.Plan.{plans_of}
use Rattle.nt_plans.specs.PlanViews.{plan_view, plans_view}
use Rattle.nt_trees.specs.Faults.{tagged, lower, column_fault, fault_in, fault_under}
use Rattle.nt_trees.specs.Columns.{count_tag}
use Rattle.nt_trees.proofs.NoFault.{lower-none}
use Rattle.nt_join.specs.Spots.{spot_of}
use Rattle.nt_join.specs.Sweeps.{IsFirstOfTags}
use Rattle.nt_join.proofs.Unmet.{column_fault-first}
use Rattle.nt_join.proofs.Plans.{plans_view-list, drop-plan}
use Rattle.nt_join.proofs.Blocks.{IsFirstUpTo, IsFirstUpTo-next, fault_under-next, IsFirstUnmet-up_to, how_many-plans_of}
use Rattle.nt_join.proofs.check.+check.Goals as goal

pub choice_fault-loop-block-preserved : goal.choice_fault-loop-block-preserved
choice_fault-loop-block-preserved g t c =
    let cols = g.C.Columns.elements c.args.columns.now in
    let es = cols c.args.tags in
    let ps = plans_view c.args.of.now in
    let low = c.loop-block.block * 128 in
    let v = c.loop-block.invariant in
    let odd = c.block_fault-odd.result.0 in
    let same = ap (map plan_view) c.deref.ensures.value ∙ sym (plans_view-list c.args.of.now) in
    let most : length c.deref.result.now ≡ length ps = sym (length-map c.deref.result.now plan_view) ∙ ap length same in
    let high : low + 128 ≡ (c.loop-block.block + 1) * 128 = omega arith in
    let this = subst (λ n. IsFirstOfTags n low (low + 128) es odd) most c.block_fault-odd.ensures.first in
    let own = option_map spot_of c.block_fault-odd.result.1 in
    let known = option_map spot_of c.loop-block.below in
    record {
      first = subst (λ k. IsFirstUpTo (length ps) k es c.min-first.result) high
          (IsFirstUpTo-next (length ps) low (low + 128) c.loop-block.first odd c.min-first.result es v.first this
          (λ l. omega (arith, l, c.min-first.ensures)) (λ l. omega (arith, l, c.min-first.ensures)));
      below = ap (λ k. lower own (fault_under k (plans_of (drop k ps)) es cols)) (sym high)
          ∙ subst (λ l. lower own (fault_under (low + 128) (plans_of (drop (low + 128) l)) es cols)
          ≡ lower known (fault_under low (plans_of (drop low l)) es cols))
          same c.block_fault-odd.ensures.below
          ∙ v.below;
    }

pub choice_fault-returns : goal.choice_fault-returns
choice_fault-returns g t c =
    let cols = g.C.Columns.elements c.args.columns.now in
    let k = c.args.tags in
    let es = cols k in
    let ps = plans_view c.args.of.now in
    let high = c.loop-block.block * 128 in
    let v = c.loop-block.invariant in
    let first = c.loop-block.first in
    let known = option_map spot_of c.loop-block.below in
    let items = c.args.of.now.list.items in
    let most : length ps ≡ c.len.result =
    ap length (plans_view-list c.args.of.now) ∙ length-map items plan_view ∙ omega (arith, c.len.ensures, c.args.of.now.list.ok) in
    let all : length ps ≤ high = omega (arith, most, c.saturating_sub.ensures, c.loop-block-test.false) in
    let own = c.first_in.ensures
    ∙ ap (λ n. if n == c.args.needed then (if nat_lt first n then Some (k, first) else None) else Some (k, n)) c.len-len.ensures
    ∙ column_fault-first (tagged (length ps)) cols k c.args.needed first
    (IsFirstUnmet-up_to (length ps) high es first all (omega (arith, c.loop-block-test.false)) v.first)
    ∙ ap (λ m. column_fault (tagged m) cols k c.args.needed) (sym (how_many-plans_of ps)) in
    let below = sym (lower-none known)
    ∙ sym (ap (λ l. lower known (fault_under high (plans_of l) es cols)) (drop_all high ps all)) ∙ v.below in
    c.lower.ensures ∙ ap (λ o. lower o known) own ∙ ap (lower _) below

pub block_fault-loop-j-preserved : goal.block_fault-loop-j-preserved
block_fault-loop-j-preserved g t c =
    let cols = g.C.Columns.elements c.args.columns.now in
    let es = cols c.args.tags in
    let ps = map plan_view c.args.of.now in
    let low = c.args.low in
    let j = c.loop-j.j in
    let known = option_map spot_of c.loop-j.fault in
    let own = option_map spot_of c.plan_fault.result in
    let left = drop-plan c.args.of.now j c.index-of-j.result (omega (arith, c.loop-j-test.true, c.min-j-end.ensures)) c.index-of-j.is in
    let next : j + 1 ≡ suc j = omega arith in
    let tag : low + suc (j - low) ≡ j + 1 = omega (arith, c.loop-j.auto) in
    let count = c.count_tags-odd.ensures.counts (j - low)
    (omega (arith, c.count_tags-odd.auto.counts, c.loop-j-test.true, c.min-j-end.ensures, c.loop-j.auto))
    ∙ ap (λ k. count_tag k es) tag in
    ap (λ o. lower o (fault_under (j + 1) (plans_of (drop (j + 1) ps)) es cols)) c.lower-fault.ensures
    ∙ fault_under-next known own (plan_view c.index-of-j.result) (drop j ps) (drop (j + 1) ps) es cols j (j + 1)
    (left ∙ ap (λ k. plan_view c.index-of-j.result ∷ drop k ps) (sym next)) next
    (c.plan_fault.ensures ∙ ap (fault_in (plan_view c.index-of-j.result) cols) count)
    ∙ c.loop-j.invariant
