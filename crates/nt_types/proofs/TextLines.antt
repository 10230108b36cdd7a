-- The first line of a text.
use Rattle.std.proofs.Common.{ℕ, List, [], ◌∷◌, ◌≡◌, ◌+◌, ◌-◌, ◌<◌, ◌≤◌, refl, sym, ◌∙◌, Bool, true, false, cond, length, take, drop, arith}
use Rattle.std.proofs.Common.{length-drop, add-one, zero, suc}
use Rattle.std.specs.Prelude.{◌==◌, not}
use Rattle.std.specs.List.{position_or_len, slice_split, onto_first}
use Rattle.std.proofs.lemmas.List.Splits.{slice_split_first}
use Rattle.std.proofs.lemmas.List.{take_all}
use Rattle.std.proofs.lemmas.Grind.{common_steps}

abbrev is_lf : ℕ → Bool
is_lf b = b == 10

split_last : (text : List ℕ) → position_or_len is_lf text ≡ length text → slice_split is_lf text ≡ text ∷ []
split_last [] e = refl
split_last (b ∷ bs) e = last (b == 10) (split_last bs) e
  where
    last : (c : Bool) → (position_or_len is_lf bs ≡ length bs → slice_split is_lf bs ≡ bs ∷ [])
        → cond (not c) (1 + position_or_len is_lf bs) 0 ≡ length (b ∷ bs)
        → cond c ([] ∷ slice_split is_lf bs) (onto_first b (slice_split is_lf bs)) ≡ (b ∷ bs) ∷ []
    last true h e = absurd (omega arith)
    last false h e = let e' : position_or_len is_lf bs ≡ length bs = omega arith in rw (h e') refl

pub cut_last : (text front back : List ℕ) (n : ℕ) → n ≡ position_or_len is_lf text → n ≤ length text → front ≡ take n text
    → back ≡ drop n text → length back < 1
    → slice_split is_lf text ≡ front ∷ []
cut_last text front back n at within f b none =
    let all : n ≡ length text = (let l : length back ≡ length text - n = rw (b, length-drop) refl in omega arith) in
    let whole : front ≡ text = rw (f, all) (grind (arith, common_steps)) in
    rw whole (split_last text (sym at ∙ all))

drop_one : (n : ℕ) (xs : List ℕ) → drop 1 (drop n xs) ≡ drop (suc n) xs
drop_one zero xs = refl
drop_one (suc n) [] = refl
drop_one (suc n) (x ∷ xs) = drop_one n xs

behind_first : (back : List ℕ) → take (length back - 1) (drop 1 back) ≡ drop 1 back
behind_first back = take_all (length back - 1) (drop 1 back) (rw length-drop (omega arith))

pub cut_first : (text front back : List ℕ) (n : ℕ) → n ≡ position_or_len is_lf text → n ≤ length text → front ≡ take n text
    → back ≡ drop n text → 1 ≤ length back
    → slice_split is_lf text ≡ front ∷ slice_split is_lf (take (length back - 1) (drop 1 back))
cut_first text front back n at within f b some =
    let inside : position_or_len is_lf text < length text =
    (let l : length back ≡ length text - n = rw (b, length-drop) refl in omega arith) in
    let rest : take (length back - 1) (drop 1 back) ≡ drop (n + 1) text = behind_first back ∙ rw (b, add-one) (drop_one n text) in
    rw (rest, f, at) (slice_split_first is_lf text 0 inside)
