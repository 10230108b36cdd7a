-- What is put at a place.
use Rattle.std.proofs.Common.{◌≡◌, ℕ, ◌+◌, ◌≤◌, List, ◌++◌, length, take, drop, sym, ◌∙◌, ap, append_assoc, arith}
use Rattle.std.proofs.lemmas.List.{length-take, drop-drop}
use Rattle.nt_lists.specs.Places.{put_at}
use Rattle.nt_lists.proofs.Fronts.{take_front, drop_front}

length-front : {A : Type 0} (xs : List A) (at : ℕ) → at ≤ length xs → length (take at xs) ≡ at
length-front xs at within = length-take at xs ∙ omega arith

put_at-is : {A : Type 0} (xs items : List A) (at : ℕ) → put_at xs at items ≡ take at xs ++ (items ++ drop (at + length items) xs)
put_at-is xs items at = append_assoc (take at xs) items (drop (at + length items) xs)

pub put_at-before : {A : Type 0} (xs items : List A) (at : ℕ) → at ≤ length xs → take at (put_at xs at items) ≡ take at xs
put_at-before xs items at within =
    let n : length (take at xs) ≡ at = length-front xs at within in
    ap (take at) (put_at-is xs items at) ∙ (ap (λ (k : ℕ). take k (take at xs ++ (items ++ drop (at + length items) xs))) (sym n)
    ∙ take_front (take at xs) (items ++ drop (at + length items) xs))

pub put_at-from : {A : Type 0} (xs items : List A) (at : ℕ) → at ≤ length xs
    → drop at (put_at xs at items) ≡ items ++ drop (at + length items) xs
put_at-from xs items at within =
    let n : length (take at xs) ≡ at = length-front xs at within in
    ap (drop at) (put_at-is xs items at) ∙ (ap (λ (k : ℕ). drop k (take at xs ++ (items ++ drop (at + length items) xs))) (sym n)
    ∙ drop_front (take at xs) (items ++ drop (at + length items) xs))

pub put_at-there : {A : Type 0} (xs items : List A) (at : ℕ) → at ≤ length xs → take (length items) (drop at (put_at xs at items)) ≡ items
put_at-there xs items at within =
    ap (take (length items)) (put_at-from xs items at within) ∙ take_front items (drop (at + length items) xs)

pub put_at-behind : {A : Type 0} (xs items : List A) (at : ℕ) → at ≤ length xs
    → drop (at + length items) (put_at xs at items) ≡ drop (at + length items) xs
put_at-behind xs items at within =
    sym (drop-drop (length items) at (put_at xs at items))
    ∙ (ap (drop (length items)) (put_at-from xs items at within) ∙ drop_front items (drop (at + length items) xs))
