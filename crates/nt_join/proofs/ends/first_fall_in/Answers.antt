use Rattle.std.proofs.Common.{◌≡◌, ◌≤◌, ◌+◌, ◌-◌, ◌∙◌, suc, get_or, map, sym, ap, subst, inl, inr, eq-zero-or-pos, arith}
use Rattle.nt_column.specs.Elements.{plain}
use Rattle.nt_trees.specs.Columns.{begin_at, number_at}
use Rattle.nt_join.proofs.Unmet.{number_at-plain}
use Rattle.nt_join.proofs.ends.first_fall_in.Goals as goal

pub loop-i-preserved : goal.loop-i-preserved
loop-i-preserved c =
    let ends = c.args.ends.now in
    let es = map plain ends in
    let i = c.loop-i.i in
    let end : number_at es i ≡ get_or ends i 0 = number_at-plain ends i in
    let next : suc i ≡ i + 1 = omega arith in
    record {
      last = sym end ∙ ap (begin_at es) next;
      rises = λ j lt. elim (eq-zero-or-pos (i - j)) [
        | inl z ↦
            let here : i ≡ j = omega (arith, z, lt) in
            subst (λ k. begin_at es k ≤ number_at es k) here (omega (arith, c.loop-i.invariant.last, end, c.if-end-last.false))
        | inr g ↦ c.loop-i.invariant.rises j (omega (arith, g))
      ];
    }
