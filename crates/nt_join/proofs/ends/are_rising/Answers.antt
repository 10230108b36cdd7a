use Rattle.std.proofs.Common.{◌≡◌, ◌<◌, ◌≤◌, ◌+◌, ◌-◌, ◌%◌, ◌^◌, ◌∙◌, nat_le, true, List, ℕ, suc, get_or, bit_or}
use Rattle.std.proofs.Common.{map, sym, ap, ap₂, subst, inl, inr, eq-zero-or-pos, arith}
use Rattle.std.proofs.lemmas.Bool.{le-leb}
use Rattle.std.proofs.lemmas.Nat.{le_or_l, le_or_r}
use Rattle.nt_column.specs.Elements.{plain}
use Rattle.nt_trees.specs.Columns.{begin_at, number_at}
use Rattle.nt_trees.specs.Faults.{rising, is_met}
use Rattle.nt_join.proofs.Unmet.{number_at-plain}
use Rattle.nt_join.proofs.ends.are_rising.Goals as goal

-- a difference below 2^63 within 64 bits, between ends below 2^63
rise-of : (last end : ℕ) → last < 2 ^ 63 → end < 2 ^ 63 → (end + (2 ^ 64 - last)) % 2 ^ 64 < 2 ^ 63 → last ≤ end
rise-of last end low high less = omega arith

pub loop-end-preserved : goal.loop-end-preserved
loop-end-preserved c = record {
  last = sym end ∙ ap (begin_at es) next;
  few = λ none. found_low none;
  rises = λ none j lt. elim (eq-zero-or-pos (i - j)) [
    | inl z ↦
        let at : i ≡ j = omega (arith, z, lt) in
        subst (λ k. is_met rising es k ≡ true) at (met none)
    | inr g ↦ c.loop-end.invariant.rises (before none) j (omega (arith, g))
  ];
}
  where
    i : ℕ
    i = c.loop-end.end-index

    last : ℕ
    last = c.loop-end.last

    found : ℕ
    found = get_or c.args.ends.now i 0

    es : List (ℕ × ℕ)
    es = map plain c.args.ends.now

    end : number_at es i ≡ found
    end = number_at-plain c.args.ends.now i

    next : suc i ≡ i + 1
    next = omega arith

    more : ℕ
    more = (found + (2 ^ 64 - last)) % 2 ^ 64

    here : ℕ
    here = bit_or found more

    before : bit_or c.loop-end.seen here < 2 ^ 63 → c.loop-end.seen < 2 ^ 63
    before none = omega (arith, none, le_or_l c.loop-end.seen here)

    here_low : bit_or c.loop-end.seen here < 2 ^ 63 → here < 2 ^ 63
    here_low none = omega (arith, none, le_or_r c.loop-end.seen here)

    found_low : bit_or c.loop-end.seen here < 2 ^ 63 → found < 2 ^ 63
    found_low none = omega (arith, here_low none, le_or_l found more)

    met : bit_or c.loop-end.seen here < 2 ^ 63 → is_met rising es i ≡ true
    met none =
        let rise : last ≤ found = rise-of last found (c.loop-end.invariant.few (before none)) (found_low none)
        (omega (arith, here_low none, le_or_r found more)) in
        ap₂ nat_le (sym c.loop-end.invariant.last) end ∙ le-leb last found rise
