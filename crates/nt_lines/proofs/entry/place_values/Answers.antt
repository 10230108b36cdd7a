use Rattle.std.proofs.Common.{◌≡◌, ◌<◌, ◌+◌, ℕ, List, ◌∷◌, ◌++◌, map, take, drop, sym, ap, subst, ◌∙◌, arith}
use Rattle.std.proofs.lemmas.List.{drop_more}
use Rattle.serde_json.specs.Written.{compact_text}
use Rattle.nt_event.specs.Json.{data_of}
use Rattle.nt_plans.specs.Plan.{PlanData, plans_of}
use Rattle.nt_plans.specs.PlanViews.{plan_view}
use Rattle.nt_trees.specs.TreeAt.{tree_at}
use Rattle.nt_join.specs.Readable.{ReadableEach}
use Rattle.nt_lines.specs.declared.lent.LentPlan.{LentPlan}
use Rattle.nt_lines.proofs.Placed.{end-placed, kept-below}
use Rattle.nt_lines.specs.Lines.{rest_behind, IsMadeOrNone}
use Rattle.nt_lines.proofs.Written.{rest-next, made-next, piece-behind}
use Rattle.nt_lines.proofs.entry.place_values.Goals as goal

pub returns-in_err-end-clause-kept : goal.returns-in_err-end-clause-kept
returns-in_err-end-clause-kept g c =
    kept-below c.args.from c.loop-k.at c.loop-k.room c.place_value.new.room c.loop-k.invariant.low c.place_value.ensures.kept
    ∙ c.loop-k.invariant.kept

pub returns-then-end-eq0-clause-kept : goal.returns-then-end-eq0-clause-kept
returns-then-end-eq0-clause-kept g c =
    kept-below c.args.from c.loop-k.at c.loop-k.room c.place_value.new.room c.loop-k.invariant.low c.place_value.ensures.kept
    ∙ c.loop-k.invariant.kept

pub returns-then-end-eq0-clause-written : goal.returns-then-end-eq0-clause-written
returns-then-end-eq0-clause-written g c =
    let cols = g.C.Columns.elements c.args.lines.now.columns.now in
    record {
      few = omega (arith, c.loop-k-test.true, c.len-k-end.ensures, c.args.lines.now.plans.ok);
      text = ap (λ (l : List ℕ). l ++ rest_behind c.loop-k.k c.args.lines.now.plans.items cols c.args.i) c.place_value.ensures.kept
          ∙ c.loop-k.invariant.text;
    }

pub returns-then-end-eq0-clause-next : goal.returns-then-end-eq0-clause-next
returns-then-end-eq0-clause-next g c = λ less.
    let cols = g.C.Columns.elements c.args.lines.now.columns.now in
    let plans = c.args.lines.now.plans.items in
    let k = c.loop-k.k in
    let first = c.index.result.now in
    let next : drop k plans ≡ first ∷ drop (k + 1) plans =
    drop_more plans k first less ∙ ap (λ (p : LentPlan). p ∷ drop (k + 1) plans) (sym c.index.ensures) in
    made-next k plans first cols c.args.i c.place_value.new.made.items less next
    (subst (λ (n : ℕ). IsMadeOrNone c.place_value.new.made.items
    (n ∷ compact_text (data_of (tree_at (plan_view first.plan.now) cols c.args.i)))) c.mark_before.ensures
    (c.in_ok-end.ensures.made c.if-end-eq0.true))

pub loop-k-preserved : goal.loop-k-preserved
loop-k-preserved g c =
    let v = c.loop-k.invariant in
    let cols = g.C.Columns.elements c.args.lines.now.columns.now in
    let i = c.args.i in
    let view : LentPlan → PlanData = λ (p : LentPlan). plan_view p.plan.now in
    let k = c.loop-k.k in
    let first = c.index.result.now in
    let old = c.loop-k.room in
    let new = c.place_value.new.room in
    let at = c.loop-k.at in
    let end = c.in_ok-end.end in
    let plans = c.args.lines.now.plans.items in
    let next : drop k plans ≡ first ∷ drop (k + 1) plans =
    drop_more plans k first (omega (arith, c.loop-k-test.true, c.len-k-end.ensures, c.args.lines.now.plans.ok))
    ∙ ap (λ (p : LentPlan). p ∷ drop (k + 1) plans) (sym c.index.ensures) in
    let sound = subst (λ (ps : List LentPlan). ReadableEach (plans_of (map view ps)) cols i) next v.readable in
    let some : 0 < end = omega (arith, c.if-end-eq0.false) in
    let text = c.in_ok-end.ensures.text some
    ∙ ap (λ (n : ℕ). take at old ++ n ∷ compact_text (data_of (tree_at (view first) cols i))) c.mark_before.ensures in
    record {
      low = omega (arith, v.low, end-placed at end old new _ v.within text);
      within = c.in_ok-end.ensures.room.0;
      same = c.in_ok-end.ensures.room.1 ∙ v.same;
      kept = kept-below c.args.from at old new v.low c.in_ok-end.ensures.kept ∙ v.kept;
      readable = record { size = sound.size; sound = sound.sound.1; within = sound.within };
      text = piece-behind (take at old) (take end new) _ _ _ _ text (rest-next k plans first cols i next) v.text;
    }
