-- Pages that vectors fill with words, sixteen at a time.
use Rattle.std.proofs.Common.{◌≡◌, ℕ, ◌+◌, ◌*◌, ◌-◌, ◌<◌, ◌≤◌, List, length, get_or}
use Rattle.std.proofs.Common.{refl, ◌∙◌, ap, subst, inl, inr, arith}
use Rattle.std.proofs.lemmas.Bool.{cases_lt}
use Rattle.std.proofs.lemmas.Simd.{length-put_chunk, get_or-put_chunk_below, get_or-put_chunk_at}
use lib.Lanes.{put_chunk}
use Rattle.nt_encode.specs.Split.{split_value}
use Rattle.nt_encode.proofs.Lists.{Filled}
use Rattle.nt_encode.proofs.Shuffles.{lanes, low_1, high_1, low_2, high_2, low_4, high_4, plane, picked, four_planes, planes, bytes_from}
use Rattle.nt_encode.proofs.Shuffles.{fours, fours_at, bytes_fours, PickFours, fours_0, fours_4, fours_8, fours_12}
use Rattle.nt_encode.proofs.Shuffles.{eights, eights_at, bytes_eights, PickEights}
use Rattle.nt_encode.proofs.Shuffles.{eights_0, eights_2, eights_4, eights_6, eights_8, eights_10, eights_12, eights_14}

-- a vector is written behind the elements that are filled
filled_chunk : (xs ys : List ℕ) (m n to : ℕ) (f : ℕ → ℕ) → Filled xs m f → length ys ≡ n → m + n ≡ to → to ≤ length xs
    → ((j : ℕ) → j < n → get_or ys j 0 ≡ f (m + j)) → Filled (put_chunk m xs ys) to f
filled_chunk xs ys m n to f filled len is within same p h =
    elim (cases_lt p m) [
      | inl low ↦ get_or-put_chunk_below m xs ys p 0 low ∙ filled p low
      | inr high ↦ at (p - m) (omega arith) (omega arith)
    ]
  where
    at : (j : ℕ) → j < n → m + j ≡ p → get_or (put_chunk m xs ys) p 0 ≡ f p
    at j small place =
        subst (λ (q : ℕ). get_or (put_chunk m xs ys) q 0 ≡ f q) place
        (get_or-put_chunk_at m xs ys j 0 (omega (arith, len)) (omega (arith, len)) ∙ same j small)

-- four words more
filled_fours : (n i : ℕ) (bytes out xs ks ls : List ℕ) (m from to : ℕ) → ((k : ℕ) → get_or bytes k 0 < 256)
    → xs ≡ four_planes ks ls (bytes_from n i bytes)
    → PickFours ks ls m → from ≡ i + m → from + 4 ≡ to → to ≤ length out → Filled out from (split_value 4 n bytes)
    → Filled (put_chunk from out (fours xs)) to (split_value 4 n bytes)
filled_fours n i bytes out xs ks ls m from to fits xs_is are start end within filled =
    filled_chunk out (fours xs) from 4 to (split_value 4 n bytes) filled refl end within at
  where
    at : (r : ℕ) → r < 4 → get_or (fours xs) r 0 ≡ split_value 4 n bytes (from + r)
    at r h =
        let f : ℕ → ℕ → ℕ = bytes_from n i bytes in
        let place : i + (m + r) ≡ from + r = omega (arith, start) in
        ap (λ (x : List ℕ). get_or (fours x) r 0) xs_is
        ∙ (fours_at (four_planes ks ls f) f m (bytes_fours f ks ls (λ j k. fits (j * n + (i + k)))) (are f) r h
        ∙ ap (λ (p : ℕ). split_value 4 n bytes p) place)

picked_same : (ks ls a b c d t u v w : List ℕ) → a ≡ t → b ≡ u → c ≡ v → d ≡ w → picked ks ls a b c d ≡ picked ks ls t u v w
picked_same ks ls a b c d t u v w a_is b_is c_is d_is =
    ap (λ (x : List ℕ). picked ks ls x b c d) a_is
    ∙ (ap (λ (x : List ℕ). picked ks ls t x c d) b_is
    ∙ (ap (λ (x : List ℕ). picked ks ls t u x d) c_is ∙ ap (λ (x : List ℕ). picked ks ls t u v x) d_is))

-- sixteen words of four bytes more
pub filled_16_fours : (n i : ℕ) (bytes out a b c d : List ℕ) → ((k : ℕ) → get_or bytes k 0 < 256)
    → a ≡ plane (bytes_from n i bytes) 0 → b ≡ plane (bytes_from n i bytes) 1
    → c ≡ plane (bytes_from n i bytes) 2 → d ≡ plane (bytes_from n i bytes) 3
    → i + 16 ≤ length out → Filled out i (split_value 4 n bytes)
    → Filled (put_chunk (i + 12) (put_chunk (i + 8) (put_chunk (i + 4) (put_chunk i out (fours (picked low_1 low_2 a b c d)))
    (fours (picked low_1 high_2 a b c d))) (fours (picked high_1 low_2 a b c d))) (fours (picked high_1 high_2 a b c d)))
    (i + 16) (split_value 4 n bytes)
filled_16_fours n i bytes out a b c d fits a_is b_is c_is d_is within filled =
    let one : List ℕ = put_chunk i out (fours (picked low_1 low_2 a b c d)) in
    let two : List ℕ = put_chunk (i + 4) one (fours (picked low_1 high_2 a b c d)) in
    let three : List ℕ = put_chunk (i + 8) two (fours (picked high_1 low_2 a b c d)) in
    let long_1 : length one ≡ length out = length-put_chunk i out (fours (picked low_1 low_2 a b c d)) in
    let long_2 : length two ≡ length one = length-put_chunk (i + 4) one (fours (picked low_1 high_2 a b c d)) in
    let long_3 : length three ≡ length two = length-put_chunk (i + 8) two (fours (picked high_1 low_2 a b c d)) in
    filled_fours n i bytes three (picked high_1 high_2 a b c d) high_1 high_2 12 (i + 12) (i + 16) fits
    (picked_same high_1 high_2 a b c d _ _ _ _ a_is b_is c_is d_is) fours_12 refl (omega arith)
    (omega (arith, within, long_1, long_2, long_3))
    (filled_fours n i bytes two (picked high_1 low_2 a b c d) high_1 low_2 8 (i + 8) (i + 12) fits
    (picked_same high_1 low_2 a b c d _ _ _ _ a_is b_is c_is d_is) fours_8 refl (omega arith)
    (omega (arith, within, long_1, long_2))
    (filled_fours n i bytes one (picked low_1 high_2 a b c d) low_1 high_2 4 (i + 4) (i + 8) fits
    (picked_same low_1 high_2 a b c d _ _ _ _ a_is b_is c_is d_is) fours_4 refl (omega arith)
    (omega (arith, within, long_1))
    (filled_fours n i bytes out (picked low_1 low_2 a b c d) low_1 low_2 0 i (i + 4) fits
    (picked_same low_1 low_2 a b c d _ _ _ _ a_is b_is c_is d_is) fours_0 (omega arith) (omega arith) (omega (arith, within)) filled)))

-- two words more
filled_eights : (n i : ℕ) (bytes out xs ks ls ms : List ℕ) (m from to : ℕ) → ((k : ℕ) → get_or bytes k 0 < 256)
    → xs ≡ planes ks ls ms (bytes_from n i bytes)
    → PickEights ks ls ms m → from ≡ i + m → from + 2 ≡ to → to ≤ length out → Filled out from (split_value 8 n bytes)
    → Filled (put_chunk from out (eights xs)) to (split_value 8 n bytes)
filled_eights n i bytes out xs ks ls ms m from to fits xs_is are start end within filled =
    filled_chunk out (eights xs) from 2 to (split_value 8 n bytes) filled refl end within at
  where
    at : (r : ℕ) → r < 2 → get_or (eights xs) r 0 ≡ split_value 8 n bytes (from + r)
    at r h =
        let f : ℕ → ℕ → ℕ = bytes_from n i bytes in
        let place : i + (m + r) ≡ from + r = omega (arith, start) in
        ap (λ (x : List ℕ). get_or (eights x) r 0) xs_is
        ∙ (eights_at (planes ks ls ms f) f m (bytes_eights f ks ls ms (λ j k. fits (j * n + (i + k)))) (are f) r h
        ∙ ap (λ (p : ℕ). split_value 8 n bytes p) place)

-- eight vectors are the planes of the words from word i on
pub record ArePlanes (n i : ℕ) (bytes a b c d e f g h : List ℕ) : Type 0 where
  pub a_is : a ≡ plane (bytes_from n i bytes) 0
  pub b_is : b ≡ plane (bytes_from n i bytes) 1
  pub c_is : c ≡ plane (bytes_from n i bytes) 2
  pub d_is : d ≡ plane (bytes_from n i bytes) 3
  pub e_is : e ≡ plane (bytes_from n i bytes) 4
  pub f_is : f ≡ plane (bytes_from n i bytes) 5
  pub g_is : g ≡ plane (bytes_from n i bytes) 6
  pub h_is : h ≡ plane (bytes_from n i bytes) 7

planes_same : (n i : ℕ) (bytes a b c d e f g h ks ls ms : List ℕ) → ArePlanes n i bytes a b c d e f g h
    → lanes ms (picked ks ls a b c d) (picked ks ls e f g h) ≡ planes ks ls ms (bytes_from n i bytes)
planes_same n i bytes a b c d e f g h ks ls ms are =
    ap (λ (x : List ℕ). lanes ms x (picked ks ls e f g h)) (picked_same ks ls a b c d _ _ _ _ are.a_is are.b_is are.c_is are.d_is)
    ∙ ap (λ (x : List ℕ). lanes ms (four_planes ks ls (bytes_from n i bytes)) x)
    (picked_same ks ls e f g h _ _ _ _ are.e_is are.f_is are.g_is are.h_is)

-- two words of eight vectors
abbrev eight_of : List ℕ → List ℕ → List ℕ → List ℕ → List ℕ → List ℕ → List ℕ → List ℕ → List ℕ → List ℕ → List ℕ → List ℕ
eight_of a b c d e f g h ks ls ms = lanes ms (picked ks ls a b c d) (picked ks ls e f g h)

-- sixteen words of eight bytes more
pub filled_16_eights : (n i : ℕ) (bytes out a b c d e f g h : List ℕ) → ((k : ℕ) → get_or bytes k 0 < 256)
    → ArePlanes n i bytes a b c d e f g h → i + 16 ≤ length out → Filled out i (split_value 8 n bytes)
    → Filled (put_chunk (i + 14) (put_chunk (i + 12) (put_chunk (i + 10) (put_chunk (i + 8)
    (put_chunk (i + 6) (put_chunk (i + 4) (put_chunk (i + 2) (put_chunk i out
    (eights (eight_of a b c d e f g h low_1 low_2 low_4))) (eights (eight_of a b c d e f g h low_1 low_2 high_4)))
    (eights (eight_of a b c d e f g h low_1 high_2 low_4))) (eights (eight_of a b c d e f g h low_1 high_2 high_4)))
    (eights (eight_of a b c d e f g h high_1 low_2 low_4))) (eights (eight_of a b c d e f g h high_1 low_2 high_4)))
    (eights (eight_of a b c d e f g h high_1 high_2 low_4))) (eights (eight_of a b c d e f g h high_1 high_2 high_4)))
    (i + 16) (split_value 8 n bytes)
filled_16_eights n i bytes out a b c d e f g h fits are within filled =
    let words_0 : List ℕ = eights (eight_of a b c d e f g h low_1 low_2 low_4) in
    let out_2 : List ℕ = put_chunk i out words_0 in
    let long_2 : length out_2 ≡ length out = length-put_chunk i out words_0 in
    let words_2 : List ℕ = eights (eight_of a b c d e f g h low_1 low_2 high_4) in
    let out_4 : List ℕ = put_chunk (i + 2) out_2 words_2 in
    let long_4 : length out_4 ≡ length out_2 = length-put_chunk (i + 2) out_2 words_2 in
    let words_4 : List ℕ = eights (eight_of a b c d e f g h low_1 high_2 low_4) in
    let out_6 : List ℕ = put_chunk (i + 4) out_4 words_4 in
    let long_6 : length out_6 ≡ length out_4 = length-put_chunk (i + 4) out_4 words_4 in
    let words_6 : List ℕ = eights (eight_of a b c d e f g h low_1 high_2 high_4) in
    let out_8 : List ℕ = put_chunk (i + 6) out_6 words_6 in
    let long_8 : length out_8 ≡ length out_6 = length-put_chunk (i + 6) out_6 words_6 in
    let words_8 : List ℕ = eights (eight_of a b c d e f g h high_1 low_2 low_4) in
    let out_10 : List ℕ = put_chunk (i + 8) out_8 words_8 in
    let long_10 : length out_10 ≡ length out_8 = length-put_chunk (i + 8) out_8 words_8 in
    let words_10 : List ℕ = eights (eight_of a b c d e f g h high_1 low_2 high_4) in
    let out_12 : List ℕ = put_chunk (i + 10) out_10 words_10 in
    let long_12 : length out_12 ≡ length out_10 = length-put_chunk (i + 10) out_10 words_10 in
    let words_12 : List ℕ = eights (eight_of a b c d e f g h high_1 high_2 low_4) in
    let out_14 : List ℕ = put_chunk (i + 12) out_12 words_12 in
    let long_14 : length out_14 ≡ length out_12 = length-put_chunk (i + 12) out_12 words_12 in
    filled_eights n i bytes out_14 (eight_of a b c d e f g h high_1 high_2 high_4) high_1 high_2 high_4 14 (i + 14) (i + 16) fits
    (planes_same n i bytes a b c d e f g h high_1 high_2 high_4 are) eights_14 refl (omega arith)
    (omega (arith, within, long_2, long_4, long_6, long_8, long_10, long_12, long_14))
    (filled_eights n i bytes out_12 (eight_of a b c d e f g h high_1 high_2 low_4) high_1 high_2 low_4 12 (i + 12) (i + 14) fits
    (planes_same n i bytes a b c d e f g h high_1 high_2 low_4 are) eights_12 refl (omega arith)
    (omega (arith, within, long_2, long_4, long_6, long_8, long_10, long_12))
    (filled_eights n i bytes out_10 (eight_of a b c d e f g h high_1 low_2 high_4) high_1 low_2 high_4 10 (i + 10) (i + 12) fits
    (planes_same n i bytes a b c d e f g h high_1 low_2 high_4 are) eights_10 refl (omega arith)
    (omega (arith, within, long_2, long_4, long_6, long_8, long_10))
    (filled_eights n i bytes out_8 (eight_of a b c d e f g h high_1 low_2 low_4) high_1 low_2 low_4 8 (i + 8) (i + 10) fits
    (planes_same n i bytes a b c d e f g h high_1 low_2 low_4 are) eights_8 refl (omega arith)
    (omega (arith, within, long_2, long_4, long_6, long_8))
    (filled_eights n i bytes out_6 (eight_of a b c d e f g h low_1 high_2 high_4) low_1 high_2 high_4 6 (i + 6) (i + 8) fits
    (planes_same n i bytes a b c d e f g h low_1 high_2 high_4 are) eights_6 refl (omega arith)
    (omega (arith, within, long_2, long_4, long_6))
    (filled_eights n i bytes out_4 (eight_of a b c d e f g h low_1 high_2 low_4) low_1 high_2 low_4 4 (i + 4) (i + 6) fits
    (planes_same n i bytes a b c d e f g h low_1 high_2 low_4 are) eights_4 refl (omega arith)
    (omega (arith, within, long_2, long_4))
    (filled_eights n i bytes out_2 (eight_of a b c d e f g h low_1 low_2 high_4) low_1 low_2 high_4 2 (i + 2) (i + 4) fits
    (planes_same n i bytes a b c d e f g h low_1 low_2 high_4 are) eights_2 refl (omega arith)
    (omega (arith, within, long_2))
    (filled_eights n i bytes out (eight_of a b c d e f g h low_1 low_2 low_4) low_1 low_2 low_4 0 i (i + 2) fits
    (planes_same n i bytes a b c d e f g h low_1 low_2 low_4 are) eights_0 (omega arith) (omega arith) (omega (arith, within)) filled)))))))
