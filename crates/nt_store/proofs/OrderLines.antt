-- The line of an order, number by number.
use Rattle.std.proofs.Common.{◌≡◌, ◌∙◌, ap, sym, ℕ, zero, suc, ◌+◌, ◌<◌, List, [], ◌∷◌, ◌++◌, length, drop, get_or, append_assoc, arith}
use Rattle.std.specs.List.{flat_map}
use Rattle.nt_store.specs.Orders.{number_text}

next : (i : ℕ) → suc (i + 1) ≡ suc i + 1
next i = omega arith

numbers_at : (order : List ℕ) (i x : ℕ) → i < length order → x ≡ get_or order i x
    → flat_map number_text (drop i order) ≡ number_text x ++ flat_map number_text (drop (i + 1) order)
numbers_at [] i x below is = absurd (omega arith)
numbers_at (y ∷ order) zero x below is = ap (λ (n : ℕ). number_text n ++ flat_map number_text order) (sym is)
numbers_at (y ∷ order) (suc i) x below is =
    numbers_at order i x (omega arith) is ∙ ap (λ (k : ℕ). number_text x ++ flat_map number_text (drop k (y ∷ order))) (next i)

-- one number more
pub number_more : (all line : List ℕ) (order : List ℕ) (i x : ℕ) → i < length order → x ≡ get_or order i x
    → all ≡ line ++ flat_map number_text (drop i order) → all ≡ (line ++ number_text x) ++ flat_map number_text (drop (i + 1) order)
number_more all line order i x below is so-far =
    so-far ∙ ap (λ (l : List ℕ). line ++ l) (numbers_at order i x below is)
    ∙ sym (append_assoc line (number_text x) (flat_map number_text (drop (i + 1) order)))
