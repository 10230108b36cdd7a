-- Items that are added behind others, with what stands beside them.
use Rattle.std.proofs.Common.{◌≡◌, ◌∙◌, ap, sym, refl, ℕ, zero, suc, ◌+◌, ◌≤◌, List, [], ◌∷◌, ◌++◌, length, take, drop}
use Rattle.std.proofs.Common.{append_assoc, arith}
use Rattle.std.proofs.lemmas.List.{length-drop}
use Rattle.nt_lists.specs.Beside.{Beside, with_beside, grouped}

take-more : {A : Type 0} (n : ℕ) (xs : List A) (x : A) → n ≤ length xs → take n (xs ++ x ∷ []) ≡ take n xs
take-more zero xs x le = refl
take-more (suc n) [] x le = absurd (omega (arith, le))
take-more (suc n) (y ∷ xs) x le = ap (λ (l : List _). y ∷ l) (take-more n xs x (omega (arith, le)))

drop-more : {A : Type 0} (n : ℕ) (xs : List A) (x : A) → n ≤ length xs → drop n (xs ++ x ∷ []) ≡ drop n xs ++ x ∷ []
drop-more zero xs x le = refl
drop-more (suc n) [] x le = absurd (omega (arith, le))
drop-more (suc n) (y ∷ xs) x le = drop-more n xs x (omega (arith, le))

pub range_added : {A : Type 0} (ls : List (Beside A)) (xs : List A) (x : A) → grouped ls ≤ length xs
    → with_beside ls (xs ++ x ∷ []) ≡ with_beside ls xs ++ x ∷ []
range_added [] xs x le = refl
range_added (l ∷ ls) xs x le =
    let n = l.count in
    ap (λ (f : List _). f ++ (l.item ∷ with_beside ls (drop n (xs ++ x ∷ [])))) (take-more n xs x (omega (arith, le)))
    ∙ (ap (λ (r : List _). take n xs ++ (l.item ∷ with_beside ls r)) (drop-more n xs x (omega (arith, le)))
    ∙ (ap (λ (r : List _). take n xs ++ (l.item ∷ r)) (range_added ls (drop n xs) x (omega (arith, le, length-drop n xs)))
    ∙ sym (append_assoc (take n xs) (l.item ∷ with_beside ls (drop n xs)) (x ∷ []))))

pub take-all : {A : Type 0} (n : ℕ) (xs : List A) → n ≡ length xs → take n xs ≡ xs
take-all zero [] is = refl
take-all zero (x ∷ xs) is = absurd (omega (arith, is))
take-all (suc n) [] is = absurd (omega (arith, is))
take-all (suc n) (x ∷ xs) is = ap (λ (l : List _). x ∷ l) (take-all n xs (omega (arith, is)))

pub drop-all : {A : Type 0} (n : ℕ) (xs : List A) → n ≡ length xs → drop n xs ≡ []
drop-all zero [] is = refl
drop-all zero (x ∷ xs) is = absurd (omega (arith, is))
drop-all (suc n) [] is = absurd (omega (arith, is))
drop-all (suc n) (x ∷ xs) is = drop-all n xs (omega (arith, is))

pub list_noted : {A : Type 0} (ls : List (Beside A)) (xs : List A) (l : Beside A) → grouped ls + l.count ≡ length xs
    → with_beside (ls ++ l ∷ []) xs ≡ with_beside ls xs ++ l.item ∷ []
list_noted [] xs l is =
    ap (λ (f : List _). f ++ (l.item ∷ drop l.count xs)) (take-all l.count xs (omega (arith, is)))
    ∙ ap (λ (r : List _). xs ++ (l.item ∷ r)) (drop-all l.count xs (omega (arith, is)))
list_noted (k ∷ ls) xs l is =
    let n = k.count in
    ap (λ (r : List _). take n xs ++ (k.item ∷ r)) (list_noted ls (drop n xs) l (omega (arith, is, length-drop n xs)))
    ∙ sym (append_assoc (take n xs) (k.item ∷ with_beside ls (drop n xs)) (l.item ∷ []))
