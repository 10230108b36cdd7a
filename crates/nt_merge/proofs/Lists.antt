-- Lists read item by item.
use Rattle.std.proofs.Common.{◌≡◌, ◌∙◌, ap, sym, refl, ℕ, zero, suc, ◌+◌, ◌<◌, List, [], ◌∷◌, ◌++◌, length, drop, arith, append_assoc}
use Rattle.std.specs.Prelude.{slice_index_or, Result, Ok, Err}
use Rattle.nt_lists.specs.Chaining.{◌>>=◌}

drop-at : {A : Type 0} (xs : List A) (n : ℕ) (d : A) → n < length xs → drop n xs ≡ slice_index_or xs n d ∷ drop (suc n) xs
drop-at [] n d less = absurd (omega (arith, less))
drop-at (x ∷ xs) zero d less = refl
drop-at (x ∷ xs) (suc n) d less = drop-at xs n d (omega (arith, less))

-- what is left begins with the next item
pub drop-next : {A : Type 0} (xs : List A) (n : ℕ) (d : A) → n < length xs → drop n xs ≡ slice_index_or xs n d ∷ drop (n + 1) xs
drop-next xs n d less =
    let next : suc n ≡ n + 1 = omega arith in
    drop-at xs n d less ∙ ap (λ (m : ℕ). slice_index_or xs n d ∷ drop m xs) next

-- one item behind those found
pub found-more : {A E : Type 0} (found : List A) (x : A) (r : Result (List A) E)
    → ((r >>= λ others. Ok (x ∷ others)) >>= λ others. Ok (found ++ others)) ≡ (r >>= λ others. Ok ((found ++ x ∷ []) ++ others))
found-more found x (Ok others) = ap (λ (l : List _). Ok l) (sym (append_assoc found (x ∷ []) others))
found-more found x (Err e) = refl
