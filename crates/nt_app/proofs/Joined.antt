-- What any command and the message after it have in common.
use Rattle.std.proofs.Common.{◌≡◌, ◌⊎◌, inl, inr, refl, subst, ℕ, ◌≤◌, List, [], ◌∷◌, length, map, Option, Some, None}
use Rattle.std.specs.Prelude.{IsSome}
use Rattle.nt_outside.specs.Faults.{Rose}
use Rattle.nt_outside.specs.World.{HostState}
use Rattle.nt_store.specs.Worlds.{IsThereWith}

pub either_after : (old mid new : HostState) (n : ℕ) (message : List ℕ) → mid.err_faults ≡ old.err_faults
    → (length message ≤ n) ⊎ Rose mid.err_faults new.err_faults → (length message ≤ n) ⊎ Rose old.err_faults new.err_faults
either_after old mid new n message same either =
    elim either [ inl whole ↦ inl whole | inr rose ↦ inr (subst (λ (m : ℕ). Rose m new.err_faults) same rose) ]

-- a text can't have a form and not have it
pub not_there_both : (P Q : List ℕ → Type 0) (found : Option (List ℕ)) → ((text : List ℕ) → P text → Q text → ⊥)
    → IsThereWith P found → IsThereWith Q found → ⊥
not_there_both P Q None differ one other = one
not_there_both P Q (Some text) differ one other = differ text one other

-- an option that has something has this
pub there_is : (found : Option (List ℕ)) → IsSome found → (text : List ℕ) × (found ≡ Some text)
there_is None some = absurd (cc some)
there_is (Some text) some = (text, refl)

-- texts that are told are of one list
first_is : (x y : List ℕ) (xs ys : List (Option (List ℕ))) → ◌≡◌ {A = List (Option (List ℕ))} (Some x ∷ xs) (Some y ∷ ys)
    → (x ≡ y) × (xs ≡ ys)
first_is x y xs ys e = (cc, cc)

pub texts_are : (xs ys : List (List ℕ)) → map (λ (text : List ℕ). Some text) xs ≡ map (λ (text : List ℕ). Some text) ys → xs ≡ ys
texts_are [] [] same = refl
texts_are [] (y ∷ ys) same = absurd (cc)
texts_are (x ∷ xs) [] same = absurd (cc)
texts_are (x ∷ xs) (y ∷ ys) same =
    let both = first_is x y _ _ same in
    let rest = texts_are xs ys both.1 in
    let head = both.0 in
    cc
