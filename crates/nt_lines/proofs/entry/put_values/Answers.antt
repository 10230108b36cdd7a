use Rattle.std.proofs.Common.{◌≡◌, ◌<◌, ◌≤◌, ◌+◌, ℕ, List, [], ◌∷◌, ◌++◌, ltb, length, map, drop, refl, sym, ap, subst, ◌∙◌, arith}
use Rattle.std.proofs.Common.{append_assoc}
use Rattle.std.proofs.lemmas.List.{drop_more}
use Rattle.serde_json.specs.Written.{compact_text}
use Rattle.nt_event.specs.Json.{data_of}
use Rattle.nt_plans.specs.Plan.{PlanData, plans_of}
use Rattle.nt_plans.specs.PlanViews.{plan_view}
use Rattle.nt_trees.specs.TreeAt.{tree_at}
use Rattle.nt_join.specs.Readable.{ReadableEach}
use Rattle.nt_lines.specs.declared.lent.LentPlan.{LentPlan}
use Rattle.nt_print.proofs.Arrays.{kept-self, kept-kept}
use Rattle.nt_print.specs.Marks.{end_of}
use Rattle.nt_lines.specs.Lines.{rest_behind}
use Rattle.nt_lines.proofs.Written.{readable-behind, rest-next, rest-end, piece-behind}
use Rattle.nt_lines.proofs.entry.put_values.Goals as goal

pub loop-k-init : goal.loop-k-init
loop-k-init g c = record {
  high = c.requires.count;
  readable = readable-behind c.args.count c.args.lines.now.plans.items (g.C.Columns.elements c.args.lines.now.columns.now) c.args.i
      c.requires.can.readable;
  text = refl;
  kept = kept-self c.args.out.now.items;
}

pub loop-k-preserved : goal.loop-k-preserved
loop-k-preserved g c =
    let v = c.loop-k.invariant in
    let cols = g.C.Columns.elements c.args.lines.now.columns.now in
    let i = c.args.i in
    let view : LentPlan → PlanData = λ (p : LentPlan). plan_view p.plan.now in
    let k = c.loop-k.k in
    let first = c.index.result.now in
    let plans = c.args.lines.now.plans.items in
    let old = c.loop-k.out.items in
    let less : k < length plans = omega (arith, c.loop-k-test.true, c.len-k-end.ensures, c.args.lines.now.plans.ok) in
    let next : drop k plans ≡ first ∷ drop (k + 1) plans =
    drop_more plans k first less ∙ ap (λ (p : LentPlan). p ∷ drop (k + 1) plans) (sym c.index.ensures) in
    let sound = subst (λ (ps : List LentPlan). ReadableEach (plans_of (map view ps)) cols i) next v.readable in
    let text = c.in_ok-put_value.ensures.ok
    ∙ ap (λ (n : ℕ). old ++ n ∷ compact_text (data_of (tree_at (view first) cols i))) c.mark_before.ensures in
    record {
      high = omega (arith, less);
      readable = record { size = sound.size; sound = sound.sound.1; within = sound.within };
      text = piece-behind old c.put_value.new.out.items _ _ _ _ text (rest-next k plans first cols i next) v.text;
      kept = kept-kept c.args.out.now.items old c.put_value.new.out.items v.kept c.put_value.ensures.kept;
    }

pub returns-clause-ok : goal.returns-clause-ok
returns-clause-ok g c =
    let v = c.loop-k.invariant in
    let cols = g.C.Columns.elements c.args.lines.now.columns.now in
    let plans = c.args.lines.now.plans.items in
    let k = c.loop-k.k in
    let o = c.loop-k.out.items in
    let all : length plans ≤ k = omega (arith, c.loop-k-test.false, c.len-k-end.ensures, c.args.lines.now.plans.ok) in
    let same : c.len.result ≡ k = omega (arith, v.high, all, c.len.ensures, c.args.lines.now.plans.ok) in
    let ended = c.in_ok-put_end.ensures.ok ∙ ap (λ (n : ℕ). o ++ end_of (ltb 0 n)) same
    ∙ ap (λ (l : List ℕ). o ++ l) (rest-end k plans cols c.args.i all) ∙ v.text in
    c.in_ok-push.ensures.items ∙ ap (λ (l : List ℕ). l ++ 10 ∷ []) ended
    ∙ append_assoc c.args.out.now.items (rest_behind c.args.count plans cols c.args.i) (10 ∷ [])
