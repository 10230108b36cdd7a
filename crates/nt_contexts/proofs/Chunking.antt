-- A list in groups, group by group.
use Rattle.std.proofs.Common.{◌≡◌, ℕ, zero, suc, ◌+◌, ◌-◌, ◌*◌, ◌<◌, ◌≤◌, Bool, true, false, List, [], ◌∷◌, ◌++◌, length, map, take, drop}
use Rattle.std.proofs.Common.{Some, refl, ap, ◌∙◌, append_assoc, arith}
use Rattle.std.specs.Prelude.{slice_get, nat_lt}
use borrow.Author.Tests.{ltb-true, ltb-false}
use Rattle.std.specs.Int.{div_ceil}
use Rattle.std.specs.List.{range_with_len, flat_map, AllByRecursion}
use Rattle.std.proofs.lemmas.List.{length-append, take_all, take-append-le}
use Rattle.std.proofs.lemmas.Grind.{div_ceil_times}
use Rattle.std.proofs.Math.Nat.{mul-le-mul_right, add-mul}
use Rattle.std.proofs.Math.Seq.{drop-append-add}
use Rattle.nt_lists.specs.Chunks.{chunk, chunks}

-- one number of groups is enough, and no group is empty
one_count : (n a p q : ℕ) → 0 < n → a ≤ p * n → p * n < a + n → a ≤ q * n → q * n < a + n → p ≤ q
one_count n a p q some p_least p_most q_least q_most = at (nat_lt q p) refl
  where
    at : (b : Bool) → nat_lt q p ≡ b → p ≤ q
    at true e =
        let less : q + 1 ≤ p = omega (arith, ltb-true q p e) in
        let more : (q + 1) * n ≤ p * n = mul-le-mul_right n less in
        let parts : (q + 1) * n ≡ q * n + 1 * n = add-mul q 1 n in
        absurd (omega arith)
    at false e = ltb-false q p e

div_ceil-is : (n a q : ℕ) → 0 < n → a ≤ q * n → q * n < a + n → div_ceil a n ≡ q
div_ceil-is n a q some least most =
    let d = div_ceil_times a n some in
    let one : div_ceil a n ≤ q = one_count n a (div_ceil a n) q some d.0 d.1 least most in
    let two : q ≤ div_ceil a n = one_count n a q (div_ceil a n) some least most d.0 d.1 in
    omega arith

module _ {A : Type 0} (n : ℕ) (some : 0 < n) where
  map-shifted : (f g : ℕ → List A) (a m : ℕ) → ((k : ℕ) → f (k + 1) ≡ g k) → map f (range_with_len (a + 1) m) ≡ map g (range_with_len a m)
  map-shifted f g a zero same = refl
  map-shifted f g a (suc m) same =
      ap (λ (x : List A). x ∷ map f (range_with_len (a + 1 + 1) m)) (same a)
      ∙ ap (λ (l : List (List A)). g a ∷ l) (map-shifted f g (a + 1) m same)

  first_chunk : (c rest : List A) → length c ≡ n → chunk n (c ++ rest) 0 ≡ c
  first_chunk c rest long =
      let start : 0 * n ≡ 0 = omega arith in
      let size : n + 0 ≡ n = omega arith in
      ap (λ (k : ℕ). take (k + n - k) (drop k (c ++ rest))) start
      ∙ (ap (λ (k : ℕ). take k (c ++ rest)) (omega arith)
      ∙ (take-append-le n c rest (omega arith) ∙ take_all n c (omega arith)))

  later_chunk : (c rest : List A) → length c ≡ n → (k : ℕ) → chunk n (c ++ rest) (k + 1) ≡ chunk n rest k
  later_chunk c rest long k =
      let parts : (k + 1) * n ≡ k * n + 1 * n = add-mul k 1 n in
      let start : (k + 1) * n ≡ length c + k * n = omega arith in
      let size : (k + 1) * n + n - (k + 1) * n ≡ k * n + n - k * n = omega arith in
      ap (λ (m : ℕ). take m (drop ((k + 1) * n) (c ++ rest))) size
      ∙ (ap (λ (m : ℕ). take (k * n + n - k * n) (drop m (c ++ rest))) start
      ∙ ap (λ (l : List A). take (k * n + n - k * n) l) (drop-append-add c rest (k * n)))

  pub chunks-next : (c rest : List A) → length c ≡ n → chunks n (c ++ rest) ≡ c ∷ chunks n rest
  chunks-next c rest long =
      let m = div_ceil (length rest) n in
      let d = div_ceil_times (length rest) n some in
      let parts : (m + 1) * n ≡ m * n + 1 * n = add-mul m 1 n in
      let size = length-append c rest in
      let count : div_ceil (length (c ++ rest)) n ≡ suc m = div_ceil-is n (length (c ++ rest)) (m + 1) some (omega arith) (omega arith)
      ∙ omega arith in
      ap (λ (k : ℕ). map (chunk n (c ++ rest)) (range_with_len 0 k)) count
      ∙ (ap (λ (x : List A). x ∷ map (chunk n (c ++ rest)) (range_with_len (0 + 1) m)) (first_chunk c rest long)
      ∙ ap (λ (l : List (List A)). c ∷ l) (map-shifted (chunk n (c ++ rest)) (chunk n rest) 0 m (later_chunk c rest long)))

  pub chunks-none : (xs : List A) → length xs ≡ 0 → chunks n xs ≡ []
  chunks-none xs none = ap (λ (k : ℕ). map (chunk n xs) (range_with_len 0 k)) (div_ceil-is n (length xs) 0 some (omega arith) (omega arith))

  pub chunks-last : (g : List A) → 0 < length g → length g ≤ n → chunks n g ≡ g ∷ []
  chunks-last g any few =
      let count : div_ceil (length g) n ≡ 1 = div_ceil-is n (length g) 1 some (omega arith) (omega arith) in
      let start : 0 * n ≡ 0 = omega arith in
      ap (λ (k : ℕ). map (chunk n g) (range_with_len 0 k)) count
      ∙ ap (λ (x : List A). x ∷ [])
      (ap (λ (k : ℕ). take (k + n - k) (drop k g)) start ∙ take_all (0 + n - 0) g (omega arith))

  -- full groups, and then others
  pub chunks-full : (full : List (List A)) (rest : List A) → AllByRecursion (λ (c : List A). length c ≡ n) full
      → chunks n (flat_map (λ (c : List A). c) full ++ rest) ≡ full ++ chunks n rest
  chunks-full [] rest sizes = refl
  chunks-full (c ∷ full) rest sizes =
      ap (λ (l : List A). chunks n l) (append_assoc c (flat_map (λ (d : List A). d) full) rest)
      ∙ (chunks-next c (flat_map (λ (d : List A). d) full ++ rest) sizes.0
      ∙ ap (λ (l : List (List A)). c ∷ l) (chunks-full full rest sizes.1))

-- what stands behind a beginning
pub slice_get-seam : {A : Type 0} (front rest : List A) (x : A) → slice_get (front ++ x ∷ rest) (length front) ≡ Some x
slice_get-seam [] rest x = refl
slice_get-seam (y ∷ front) rest x = slice_get-seam front rest x
