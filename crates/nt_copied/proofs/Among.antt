-- What is there: items of lists, and answers that are something.
use Rattle.std.proofs.Common.{◌≡◌, ℕ, zero, suc, ◌<◌, Bool, true, false, cond, List, [], ◌∷◌, ◌++◌, map, length}
use Rattle.std.proofs.Common.{Option, Some, None, refl, sym, ap, ◌∙◌, ◌⊎◌, inl, inr, arith}
use Rattle.std.specs.Prelude.{slice_get, option_map, option_and_then, is_some}
use Rattle.std.proofs.lemmas.Option.{none-some}
use Rattle.nt_grammar.specs.Open.{all_some}

pub passed-if : {A : Type 0} (b : Bool) (x : Option A) (k : A) → cond b x None ≡ Some k → (b ≡ true) × (x ≡ Some k)
passed-if true x k e = (refl, e)
passed-if false x k e = absurd (none-some k e)

pub then-some : {A B : Type 0} (f : A → Option B) (o : Option A) (k : B) → option_and_then f o ≡ Some k
    → (x : A) × (o ≡ Some x) × (f x ≡ Some k)
then-some f None k e = absurd (none-some k e)
then-some f (Some x) k e = (x, refl, e)

pub map-some : {A B : Type 0} (f : A → B) (o : Option A) (k : B) → option_map f o ≡ Some k → (x : A) × (o ≡ Some x)
map-some f None k e = absurd (none-some k e)
map-some f (Some x) k e = (x, refl)

pub is-some : {A : Type 0} (o : Option A) → is_some o ≡ true → (x : A) × (o ≡ Some x)
is-some None e = absurd cc
is-some (Some x) e = (x, refl)

abbrev pub Has : List ℕ → ℕ → Type 0
Has [] j = ⊥
Has (x ∷ xs) j = (x ≡ j) ⊎ Has xs j

pub has-behind : (xs ys : List ℕ) (j : ℕ) → Has ys j → Has (xs ++ ys) j
has-behind [] ys j h = h
has-behind (x ∷ xs) ys j h = inr (has-behind xs ys j h)

pub all_some-each : {A : Type 0} (f : ℕ → Option A) (js : List ℕ) (ms : List A) → all_some (map f js) ≡ Some ms → (j : ℕ) → Has js j
    → (m : A) × (f j ≡ Some m)
all_some-each f [] ms e j h = absurd h
all_some-each {A} f (x ∷ js) ms e j h = by (f x) refl e (λ rest e' h'. all_some-each f js rest e' j h') h
  where
    by : (o : Option A) → f x ≡ o → all_some (o ∷ map f js) ≡ Some ms
        → ((rest : List A) → all_some (map f js) ≡ Some rest → Has js j → (m : A) × (f j ≡ Some m))
        → (x ≡ j) ⊎ Has js j → (m : A) × (f j ≡ Some m)
    by None is e more h = absurd (none-some ms e)
    by (Some m) is e more (inl same) = (m, ap f (sym same) ∙ is)
    by (Some m) is e more (inr h) =
        let rest = map-some (λ (xs : List A). m ∷ xs) (all_some (map f js)) ms e in
        more rest.0 rest.1 h

pub get-some : {A : Type 0} (xs : List A) (k : ℕ) → k < length xs → (x : A) × (slice_get xs k ≡ Some x)
get-some [] k less = absurd (omega (arith, less))
get-some (x ∷ xs) zero less = (x, refl)
get-some (x ∷ xs) (suc k) less = get-some xs k (omega (arith, less))

pub get-less : {A : Type 0} (xs : List A) (k : ℕ) (x : A) → slice_get xs k ≡ Some x → k < length xs
get-less [] k x e = absurd (none-some x e)
get-less (y ∷ xs) zero x e = omega arith
get-less (y ∷ xs) (suc k) x e = omega (arith, get-less xs k x e)
