-- Pieces of lists of which other pieces change.
use Rattle.std.proofs.Common.{◌≡◌, ◌∙◌, ap, sym, refl, ℕ, zero, suc, ◌+◌, ◌-◌, ◌≤◌, List, [], ◌∷◌, ◌++◌, length, take, drop, arith, inl}
use Rattle.std.proofs.Common.{inr}
use Rattle.std.proofs.lemmas.List.{length-append, length-take, length-drop, drop-drop}
use Rattle.nt_lists.specs.Places.{put_at}
use Rattle.nt_lists.proofs.Places.{put_at-before, put_at-behind}
use Rattle.nt_logged.specs.Stands.{LieApart}

pub piece_front : {A : Type 0} (at n : ℕ) (xs ys : List A) → at + n ≤ length xs → take n (drop at (xs ++ ys)) ≡ take n (drop at xs)
piece_front zero zero xs ys le = refl
piece_front zero (suc n) [] ys le = absurd (omega (arith, le))
piece_front zero (suc n) (x ∷ xs) ys le = ap (λ (l : List _). x ∷ l) (piece_front zero n xs ys (omega (arith, le)))
piece_front (suc at) n [] ys le = absurd (omega (arith, le))
piece_front (suc at) n (x ∷ xs) ys le = piece_front at n xs ys (omega (arith, le))

piece_taken : {A : Type 0} (at n m : ℕ) (xs : List A) → at + n ≤ m → take n (drop at (take m xs)) ≡ take n (drop at xs)
piece_taken zero zero m xs le = refl
piece_taken zero (suc n) zero xs le = absurd (omega (arith, le))
piece_taken zero (suc n) (suc m) [] le = refl
piece_taken zero (suc n) (suc m) (x ∷ xs) le = ap (λ (l : List _). x ∷ l) (piece_taken zero n m xs (omega (arith, le)))
piece_taken (suc at) n zero xs le = absurd (omega (arith, le))
piece_taken (suc at) n (suc m) [] le = refl
piece_taken (suc at) n (suc m) (x ∷ xs) le = piece_taken at n m xs (omega (arith, le))

dropped_behind : {A : Type 0} (k at : ℕ) (xs : List A) → k ≤ at → drop at xs ≡ drop (at - k) (drop k xs)
dropped_behind k at xs le =
    let whole : k + (at - k) ≡ at = omega (arith, le) in
    sym (drop-drop (at - k) k xs ∙ ap (λ (m : ℕ). drop m xs) whole)

pub piece_beside : {A : Type 0} (at n start : ℕ) (xs items : List A) → start + length items ≤ length xs
    → LieApart at n start (length items) → take n (drop at (put_at xs start items)) ≡ take n (drop at xs)
piece_beside at n start xs items le (inl before) =
    sym (piece_taken at n start (put_at xs start items) before)
    ∙ (ap (λ (l : List _). take n (drop at l)) (put_at-before xs items start (omega (arith, le)))
    ∙ piece_taken at n start xs before)
piece_beside at n start xs items le (inr behind) =
    let k = start + length items in
    ap (λ (l : List _). take n l)
    (dropped_behind k at (put_at xs start items) behind
    ∙ (ap (λ (l : List _). drop (at - k) l) (put_at-behind xs items start (omega (arith, le))) ∙ sym (dropped_behind k at xs behind)))

pub length-put : {A : Type 0} (xs items : List A) (at : ℕ) → at + length items ≤ length xs → length (put_at xs at items) ≡ length xs
length-put xs items at le =
    omega (
      arith,
      le,
      length-append (take at xs ++ items) (drop (at + length items) xs),
      length-append (take at xs) items,
      length-take at xs,
      length-drop (at + length items) xs,
    )
