use Rattle.std.proofs.Common.{ℕ, ◌≡◌, ◌≤◌, ◌<◌, ◌-◌, ◌∙◌, map, length, ap, sym, subst, arith}
use Rattle.std.proofs.lemmas.List.{take_rest}
use Rattle.std.specs.List.{slice_range}
use Rattle.nt_column.specs.Elements.{plain}
use Rattle.nt_column.specs.Words.{lent_elements}
use Rattle.nt_plans.specs.Plan.{PlanData, maybe, number}
use Rattle.nt_plans.specs.PlanViews.{plan_view}
use Rattle.nt_plans.proofs.PlanViews.{view-Maybe}
use Rattle.nt_join.specs.Readable.{ReadableTo}
use Rattle.nt_print.proofs.LentEnds.{first-lent, others-lent}
use Rattle.nt_print.proofs.optional.optionals_of.Goals as goal

pub returns : goal.returns
returns g c =
    let cols = g.C.Columns.elements c.args.columns.now in
    let e = c.in-Maybe.ends in
    let es = cols e in
    let from = c.args.part.0 in
    let to = c.args.part.1 in
    let of = c.in_ok-of.of in
    let list = c.in-Some-Words64.list.now in
    let is : plan_view c.args.plan.now ≡ maybe e (number of.column of.bits of.signed) =
    ap plan_view c.in-Maybe.is ∙ (view-Maybe e c.in-Maybe.inside
    ∙ (ap (λ p. maybe e (plan_view p)) (sym c.deref.ensures) ∙ ap (maybe e) c.in_ok-of.ensures)) in
    let r = subst (λ (p : PlanData). ReadableTo p cols to) is c.requires.readable in
    let within : to ≤ length es = omega (arith, r.within, r.sound.0) in
    let some : 0 < from = omega (arith, c.if-from-eq0.false) in
    let back : c.saturating_sub-back.result ≡ from - 1 = c.saturating_sub-back.ensures in
    let lent : map plain list ≡ slice_range es (from - 1) to =
    sym (ap lent_elements c.in-Some-Words64.field-0-is) ∙ (c.in-Some-Words64.ensures.words ∙ ap (λ (j : ℕ). slice_range es j to) back) in
    record {
      ends_column = e;
      plan = is;
      begins = first-lent es list from to some c.requires.order within lent;
      lent = ap (map plain) (take_rest list 1) ∙ others-lent es list from to some c.requires.order within lent;
    }
