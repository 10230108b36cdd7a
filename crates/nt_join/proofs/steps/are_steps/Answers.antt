use Rattle.std.proofs.Common.{◌≡◌, ◌<◌, ◌≤◌, ◌+◌, ◌-◌, ◌/◌, ◌%◌, ◌^◌, ◌&&◌, ◌∙◌, nat_le, true, List, ℕ, suc, get_or, bit_or}
use Rattle.std.proofs.Common.{map, sym, ap, ap₂, subst, inl, inr, eq-zero-or-pos, arith}
use Rattle.std.proofs.lemmas.Bool.{le-leb}
use Rattle.std.proofs.lemmas.Nat.{le_or_l, le_or_r}
use Rattle.nt_column.specs.Elements.{plain}
use Rattle.nt_trees.specs.Columns.{begin_at, number_at}
use Rattle.nt_trees.specs.Faults.{stepping, is_met}
use Rattle.nt_join.proofs.Unmet.{number_at-plain}
use Rattle.nt_join.proofs.steps.are_steps.Goals as goal

-- a difference of 0 or 1 within 64 bits, to an end that isn't the highest number
step-of : (last end i : ℕ) → last ≤ i → i < 2 ^ 63 → end < 2 ^ 64 → (end + (2 ^ 64 - last)) % 2 ^ 64 / 2 ≡ 0
    → (last ≤ end) × (end ≤ last + 1)
step-of last end i few within fits none = (omega arith, omega arith)

pub loop-end-preserved : goal.loop-end-preserved
loop-end-preserved c = record {
  last = sym end ∙ ap (begin_at es) next;
  few = λ none. let step = here none in
      let before = c.loop-end.invariant.few (odd_before none) in
      omega (arith, step.1, before);
  steps = λ none j lt. elim (eq-zero-or-pos (i - j)) [
    | inl z ↦
        let at : i ≡ j = omega (arith, z, lt) in
        subst (λ k. is_met stepping es k ≡ true) at (met none)
    | inr g ↦ c.loop-end.invariant.steps (odd_before none) j (omega (arith, g))
  ];
}
  where
    i : ℕ
    i = c.loop-end.end-index

    last : ℕ
    last = c.loop-end.last

    found : ℕ
    found = get_or c.args.ends.now i 0

    es : List (ℕ × ℕ)
    es = map plain c.args.ends.now

    end : number_at es i ≡ found
    end = number_at-plain c.args.ends.now i

    next : suc i ≡ i + 1
    next = omega arith

    odd_here : ℕ
    odd_here = (found + (2 ^ 64 - last)) % 2 ^ 64 / 2

    odd_before : bit_or c.loop-end.odd odd_here ≡ 0 → c.loop-end.odd ≡ 0
    odd_before none = omega (arith, none, le_or_l c.loop-end.odd odd_here)

    here : bit_or c.loop-end.odd odd_here ≡ 0 → (last ≤ found) × (found ≤ last + 1)
    here none = step-of last found i (c.loop-end.invariant.few (odd_before none)) (omega arith) (omega arith)
        (omega (arith, none, le_or_r c.loop-end.odd odd_here))

    met : bit_or c.loop-end.odd odd_here ≡ 0 → is_met stepping es i ≡ true
    met none =
        let step = here none in
        ap₂ (λ (a b : ℕ). nat_le a b && nat_le b (a + 1)) (sym c.loop-end.invariant.last) end
        ∙ ap₂ (λ (a b : _). a && b) (le-leb last found step.0) (le-leb found (last + 1) step.1)
