-- Texts that are opened one after the other.
use Rattle.std.proofs.Common.{◌≡◌, ◌⊎◌, ◌∙◌, inl, inr, ap, sym, subst, refl, ℕ, zero, suc, ◌+◌, ◌<◌, List, [], ◌∷◌, ◌++◌, map, take, length}
use Rattle.std.proofs.Common.{get_or, Bor, Option, append_assoc, arith}
use Rattle.std.specs.List.{AllZip}
use Rattle.std.specs.Prelude.{IsErrOf, Err}
use Rattle.nt_outside.specs.declared.fault.Refused.{Refused}
use Rattle.nt_outside.specs.declared.fault.Refused.TheVariants as refused
use Rattle.nt_outside.specs.Source.{SourceState}
use Rattle.nt_outside.specs.World.{World, Asked, Text, IsOpenText}
use Rattle.nt_store.specs.Worlds.{AreOpenTexts}

next : (i : ℕ) → suc (i + 1) ≡ suc i + 1
next i = omega arith

-- the names up to the next
pub names_taken : (names : List (Bor (List ℕ))) (i : ℕ) (d : Bor (List ℕ)) → i < length names
    → take (i + 1) (map (λ name. name.now) names) ≡ take i (map (λ name. name.now) names) ++ (get_or names i d).now ∷ []
names_taken [] i d below = absurd (omega arith)
names_taken (y ∷ names) zero d below = refl
names_taken (y ∷ names) (suc i) d below =
    subst (λ (k : ℕ). take k (y.now ∷ map (λ name. name.now) names) ≡ take (suc i) (y.now ∷ map (λ name. name.now) names) ++ (get_or
    names i d).now ∷ []) (next i)
    (ap (λ (l : List (List ℕ)). y.now ∷ l) (names_taken names i d (omega arith)))

-- and what was asked for with them
pub asked_taken : (names : List (Bor (List ℕ))) (i : ℕ) (d : Bor (List ℕ)) → i < length names
    → take (i + 1) (map Text (map (λ name. name.now) names)) ≡ take i (map Text (map (λ name. name.now) names)) ++ Text (get_or names i
    d).now ∷ []
asked_taken [] i d below = absurd (omega arith)
asked_taken (y ∷ names) zero d below = refl
asked_taken (y ∷ names) (suc i) d below =
    subst (λ (k : ℕ). take k (Text y.now ∷ map Text (map (λ name. name.now) names)) ≡ take (suc i) (Text y.now ∷ map Text (map (λ name.
    name.now) names)) ++ Text (get_or names i d).now ∷ []) (next i)
    (ap (λ (l : List Asked). Text y.now ∷ l) (asked_taken names i d (omega arith)))

-- one pair more
pub zip_push : {A B : Type 0} (R : A → B → Type 0) (xs : List A) (ys : List B) (x : A) (y : B) → AllZip R xs ys → R x y
    → AllZip R (xs ++ x ∷ []) (ys ++ y ∷ [])
zip_push R [] [] x y all one = (one, tt)
zip_push R [] (b ∷ ys) x y all one = absurd all
zip_push R (a ∷ xs) [] x y all one = absurd all
zip_push R (a ∷ xs) (b ∷ ys) x y all one = (all.0, zip_push R xs ys x y all.1 one)

-- a list of what was made of some, and of one more
pub map_push : {A B : Type 0} (f : A → B) (xs zs : List A) (x : A) → zs ≡ xs ++ x ∷ [] → map f zs ≡ map f xs ++ f x ∷ []
map_push f [] zs x is = ap (map f) is
map_push f (a ∷ xs) zs x is = ap (map f) is ∙ ap (λ l. f a ∷ l) (map_push f xs (xs ++ x ∷ []) x refl)

-- one object more was asked for
pub asked_more : (old mid new objects objects' : List Asked) (a : Asked) → mid ≡ old ++ objects → new ≡ mid ++ a ∷ []
    → objects' ≡ objects ++ a ∷ [] → new ≡ old ++ objects'
asked_more old mid new objects objects' a before more are =
    more ∙ ap (λ (l : List Asked). l ++ a ∷ []) before ∙ append_assoc old objects (a ∷ []) ∙ ap (λ (l : List Asked). old ++ l) (sym are)

-- the next object was refused: it was asked for, or memory was wanting for its name
pub asked_refused : (T : Type 0) (r : Refused) (names : List (Bor (List ℕ))) (i : ℕ) (d : Bor (List ℕ)) (old mid after new : List Asked)
    → i < length names → mid ≡ old ++ take i (map Text (map (λ name. name.now) names))
    → (IsErrOf {T = T} (Err r) refused.Failed → after ≡ mid ++ Text (get_or names i d).now ∷ [])
    → (IsErrOf {T = T} (Err r) refused.Memory → (after ≡ mid) ⊎ (after ≡ mid ++ Text (get_or names i d).now ∷ [])) → new ≡ after
    → (n : ℕ) × (new ≡ old ++ take n (map Text (map (λ name. name.now) names)))
asked_refused T refused.Failed names i d old mid after new below before failed memory same =
    (i + 1, same ∙ asked_more old mid after _ _ _ before (failed refl) (asked_taken names i d below))
asked_refused T refused.Memory names i d old mid after new below before failed memory same = elim (memory refl) [
  | inl stays ↦ (i, same ∙ stays ∙ before)
  | inr asked ↦ (i + 1, same ∙ asked_more old mid after _ _ _ before asked (asked_taken names i d below))
]

-- as many as they are made of
pub map_length : {A B : Type 0} (f : A → B) (xs : List A) → length (map f xs) ≡ length xs
map_length f [] = refl
map_length f (x ∷ xs) = ap suc (map_length f xs)

-- one text more is open
pub are_more : (names : List (Bor (List ℕ))) (i : ℕ) (d : Bor (List ℕ)) (world mid : Option World) (texts : List SourceState) (t :
    SourceState) → i < length names → AreOpenTexts world (take i (map (λ name. name.now) names)) texts → mid ≡ world
    → IsOpenText mid (get_or names i d).now t → AreOpenTexts world (take (i + 1) (map (λ name. name.now) names)) (texts ++ t ∷ [])
are_more names i d world mid texts t below are same is =
    subst (λ (l : List (List ℕ)). AllZip (IsOpenText world) l (texts ++ t ∷ [])) (sym (names_taken names i d below))
    (zip_push (IsOpenText world) (take i (map (λ name. name.now) names)) texts (get_or names i d).now t are (subst (λ (v : Option World).
    IsOpenText v (get_or names i d).now t) same is))
