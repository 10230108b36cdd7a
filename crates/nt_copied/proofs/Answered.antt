-- Answers that others keep.
use Rattle.std.proofs.Common.{◌≡◌, ℕ, Bool, true, false, cond, List, [], ◌∷◌, map, Option, Some, None, refl, ap, ◌∙◌}
use Rattle.std.specs.Prelude.{option_map, option_and_then}
use Rattle.std.proofs.lemmas.Option.{none-some}
use Rattle.nt_grammar.specs.Open.{all_some}

pub kept-if : {A : Type 0} (b c : Bool) (x y : Option A) (k : A) → (b ≡ true → c ≡ true) → (x ≡ Some k → y ≡ Some k)
    → cond b x None ≡ Some k → cond c y None ≡ Some k
kept-if true c x y k h i e = ap (λ (d : Bool). cond d y None) (h refl) ∙ i e
kept-if false c x y k h i e = absurd (none-some k e)

pub kept-then : {A B : Type 0} (f : A → Option B) (o p : Option A) (k : B) → ((x : A) → o ≡ Some x → p ≡ Some x)
    → option_and_then f o ≡ Some k → option_and_then f p ≡ Some k
kept-then f None p k h e = absurd (none-some k e)
kept-then f (Some x) p k h e = ap (option_and_then f) (h x refl) ∙ e

pub kept-by : {A B : Type 0} (f g : A → Option B) (o : Option A) (k : B) → ((x : A) → f x ≡ Some k → g x ≡ Some k)
    → option_and_then f o ≡ Some k → option_and_then g o ≡ Some k
kept-by f g None k h e = absurd (none-some k e)
kept-by f g (Some x) k h e = h x e

pub kept-map : {A B : Type 0} (f : A → B) (o p : Option A) (k : B) → ((x : A) → o ≡ Some x → p ≡ Some x)
    → option_map f o ≡ Some k → option_map f p ≡ Some k
kept-map f None p k h e = absurd (none-some k e)
kept-map f (Some x) p k h e = ap (option_map f) (h x refl) ∙ e

pub kept-all : {A : Type 0} (f g : ℕ → Option A) (js : List ℕ) (ms : List A) → ((j : ℕ) (m : A) → f j ≡ Some m → g j ≡ Some m)
    → all_some (map f js) ≡ Some ms → all_some (map g js) ≡ Some ms
kept-all f g [] ms h e = e
kept-all {A} f g (j ∷ js) ms h e = by (f j) refl e (λ rest. kept-all f g js rest h)
  where
    by : (o : Option A) → f j ≡ o → all_some (o ∷ map f js) ≡ Some ms
        → ((rest : List A) → all_some (map f js) ≡ Some rest → all_some (map g js) ≡ Some rest)
        → all_some (g j ∷ map g js) ≡ Some ms
    by None is e more = absurd (none-some ms e)
    by (Some m) is e more =
        ap (λ (o : Option A). all_some (o ∷ map g js)) (h j m is)
        ∙ kept-map (λ (xs : List A). m ∷ xs) (all_some (map f js)) (all_some (map g js)) ms more e

pub kept-four : {A : Type 0} (b1 b2 b3 b4 : Bool) (w x y z w' x' y' z' : Option A) (k : A) → (w ≡ Some k → w' ≡ Some k)
    → (x ≡ Some k → x' ≡ Some k)
    → (y ≡ Some k → y' ≡ Some k) → (z ≡ Some k → z' ≡ Some k)
    → cond b1 w (cond b2 x (cond b3 y (cond b4 z None))) ≡ Some k → cond b1 w' (cond b2 x' (cond b3 y' (cond b4 z' None))) ≡ Some k
kept-four true b2 b3 b4 w x y z w' x' y' z' k f g h i e = f e
kept-four false true b3 b4 w x y z w' x' y' z' k f g h i e = g e
kept-four false false true b4 w x y z w' x' y' z' k f g h i e = h e
kept-four false false false true w x y z w' x' y' z' k f g h i e = i e
kept-four false false false false w x y z w' x' y' z' k f g h i e = absurd (none-some k e)
