use Rattle.std.proofs.Common.{◌≡◌, ◌+◌, ◌-◌, ◌&&◌, ◌∙◌, nat_le, true, ℕ, suc, get_or, map, sym, ap, ap₂, subst, inl, inr}
use Rattle.std.proofs.Common.{eq-zero-or-pos, arith}
use Rattle.nt_column.specs.Elements.{plain}
use Rattle.nt_trees.specs.Columns.{begin_at, number_at}
use Rattle.nt_trees.specs.Faults.{stepping, is_met}
use Rattle.nt_join.proofs.Unmet.{number_at-plain}
use Rattle.nt_join.proofs.steps.first_leap_in.Goals as goal

pub loop-i-preserved : goal.loop-i-preserved
loop-i-preserved c =
    let ends = c.args.ends.now in
    let es = map plain ends in
    let i = c.loop-i.i in
    let end : number_at es i ≡ get_or ends i 0 = number_at-plain ends i in
    let next : suc i ≡ i + 1 = omega arith in
    let step : is_met stepping es i ≡ true = ap₂ (λ (a b : ℕ). nat_le a b && nat_le b (a + 1)) (sym c.loop-i.invariant.last) end
    ∙ (sym c.is_step.ensures ∙ c.if-not-is_step.false) in
    record {
      last = sym end ∙ ap (begin_at es) next;
      steps = λ j lt. elim (eq-zero-or-pos (i - j)) [
        | inl z ↦
            let here : i ≡ j = omega (arith, z, lt) in
            subst (λ k. is_met stepping es k ≡ true) here step
        | inr g ↦ c.loop-i.invariant.steps j (omega (arith, g))
      ];
    }
