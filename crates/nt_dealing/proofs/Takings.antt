-- Lists of contexts of which the first element of one is taken out, one after the other.
use Rattle.std.proofs.Common.{◌≡◌, ◌∙◌, ap, sym, refl, subst, ℕ, zero, suc, ◌+◌, ◌≤◌, ◌==◌, Bool, true, false, cond, List, [], ◌∷◌, ◌++◌}
use Rattle.std.proofs.Common.{length, take, drop, Some, append_assoc, arith}
use Rattle.std.specs.Prelude.{IsPermutation, filter, slice_get, slice_index_or}
use Rattle.std.specs.List.{Contains, flat_map}
use Rattle.std.proofs.lemmas.Bool.{eq-eqb, eqb-true, eqb-false}
use Rattle.std.proofs.lemmas.List.Elements.{Contains-append_right}
use Rattle.std.proofs.lemmas.List.Sorted.{IsPermutation-sym, IsPermutation-middle}
use Rattle.nt_machine.specs.Deal.{times}
use Rattle.nt_machine.proofs.Histories.{not-eqb}

-- what holds at one number and at all others
pub by_number : (P : ℕ → Type 0) (i : ℕ) → P i → ((k : ℕ) → (k ≡ i → ⊥) → P k) → (k : ℕ) → P k
by_number P i here there k = at (k == i) refl
  where
    at : (b : Bool) → k == i ≡ b → P k
    at true e = subst P (sym (eqb-true k i e)) here
    at false e = there k (λ same. eqb-false k i e same)

pub times-here : (i : ℕ) (rest : List ℕ) → times i (i ∷ rest) ≡ suc (times i rest)
times-here i rest = ap (λ (b : Bool). length (cond b (i ∷ filter (λ j. j == i) rest) (filter (λ j. j == i) rest))) (eq-eqb i i refl)

pub times-other : (i j : ℕ) (rest : List ℕ) → (j ≡ i → ⊥) → times i (j ∷ rest) ≡ times i rest
times-other i j rest differ =
    ap (λ (b : Bool). length (cond b (j ∷ filter (λ k. k == i) rest) (filter (λ k. k == i) rest))) (not-eqb j i differ)

module _ {C : Type 0} where
  -- the lists, one behind the other
  abbrev pub all_of : List (List C) → List C
  all_of xss = flat_map (λ (xs : List C). xs) xss

  -- the lists without the first element of one of them
  abbrev pub without : ℕ → List (List C) → List (List C)
  without zero [] = []
  without zero (xs ∷ xss) = drop 1 xs ∷ xss
  without (suc i) [] = []
  without (suc i) (xs ∷ xss) = xs ∷ without i xss

  pub without-here : (i : ℕ) (xss : List (List C)) → slice_index_or (without i xss) i [] ≡ drop 1 (slice_index_or xss i [])
  without-here zero [] = refl
  without-here zero (xs ∷ xss) = refl
  without-here (suc i) [] = refl
  without-here (suc i) (xs ∷ xss) = without-here i xss

  pub without-other : (i k : ℕ) (xss : List (List C)) → (k ≡ i → ⊥) → slice_index_or (without i xss) k [] ≡ slice_index_or xss k []
  without-other zero zero xss differ = absurd (differ refl)
  without-other zero (suc k) [] differ = refl
  without-other zero (suc k) (xs ∷ xss) differ = refl
  without-other (suc i) k [] differ = refl
  without-other (suc i) zero (xs ∷ xss) differ = refl
  without-other (suc i) (suc k) (xs ∷ xss) differ = without-other i k xss (λ same. differ (ap suc same))

  pub length-without : (i : ℕ) (xss : List (List C)) → length (without i xss) ≡ length xss
  length-without zero [] = refl
  length-without zero (xs ∷ xss) = refl
  length-without (suc i) [] = refl
  length-without (suc i) (xs ∷ xss) = ap suc (length-without i xss)

  -- where the first element of a list stands among all
  pub record Seam (xss : List (List C)) (i : ℕ) (x : C) : Type 0 where
    pub front : List C
    pub back : List C
    pub whole : all_of xss ≡ front ++ x ∷ back
    pub left : all_of (without i xss) ≡ front ++ back

  pub seam : (i : ℕ) (xss : List (List C)) (x : C) (xs : List C) → slice_index_or xss i [] ≡ x ∷ xs → Seam xss i x
  seam zero [] x xs e = cc
  seam zero (ys ∷ xss) x xs e = record {
    front = [];
    back = xs ++ all_of xss;
    whole = ap (λ (l : List C). l ++ all_of xss) e;
    left = ap (λ (l : List C). drop 1 l ++ all_of xss) e;
  }
  seam (suc i) [] x xs e = cc
  seam (suc i) (ys ∷ xss) x xs e =
      let s = seam i xss x xs e in
      record {
        front = ys ++ s.front;
        back = s.back;
        whole = ap (λ (l : List C). ys ++ l) s.whole ∙ sym (append_assoc ys s.front (x ∷ s.back));
        left = ap (λ (l : List C). ys ++ l) s.left ∙ sym (append_assoc ys s.front s.back);
      }

  pub seam_permuted : (xss : List (List C)) (i : ℕ) (x : C) → Seam xss i x → IsPermutation (x ∷ all_of (without i xss)) (all_of xss)
  seam_permuted xss i x s =
      subst (λ (l : List C). IsPermutation (x ∷ all_of (without i xss)) l) (sym s.whole)
      (subst (λ (l : List C). IsPermutation (x ∷ l) (s.front ++ x ∷ s.back)) (sym s.left)
      (IsPermutation-sym (s.front ++ x ∷ s.back) (x ∷ (s.front ++ s.back)) (IsPermutation-middle s.front x s.back)))

  -- where an element stands
  pub record Place (xs : List C) (x : C) : Type 0 where
    pub front : List C
    pub back : List C
    pub whole : xs ≡ front ++ x ∷ back

  place_in : (k : ℕ) (xs : List C) (x : C) → slice_get xs k ≡ Some x → Place xs x
  place_in k [] x at = cc
  place_in zero (y ∷ xs) x at = let same : y ≡ x = cc in record { front = []; back = xs; whole = ap (λ (z : C). z ∷ xs) same }
  place_in (suc k) (y ∷ xs) x at =
      let p = place_in k xs x at in
      record { front = y ∷ p.front; back = p.back; whole = ap (λ (l : List C). y ∷ l) p.whole }

  -- an element of one list stands among all
  pub place_of_all : (i k : ℕ) (xss : List (List C)) (x : C) → slice_get (slice_index_or xss i []) k ≡ Some x → Place (all_of xss) x
  place_of_all i k [] x at = cc
  place_of_all zero k (ys ∷ xss) x at =
      let p = place_in k ys x at in
      record {
        front = p.front;
        back = p.back ++ all_of xss;
        whole = ap (λ (l : List C). l ++ all_of xss) p.whole ∙ append_assoc p.front (x ∷ p.back) (all_of xss);
      }
  place_of_all (suc i) k (ys ∷ xss) x at =
      let p = place_of_all i k xss x at in
      record {
        front = ys ++ p.front;
        back = p.back;
        whole = ap (λ (l : List C). ys ++ l) p.whole ∙ sym (append_assoc ys p.front (x ∷ p.back));
      }

  pub contained : (xs : List C) (x : C) → Place xs x → Contains xs x
  contained xs x p =
      subst (λ (l : List C). Contains l x) (sym p.whole) (Contains-append_right p.front (x ∷ p.back) x (0, omega arith, refl))

  -- a list past the last one
  pub past : (i : ℕ) (xss : List (List C)) → length xss ≤ i → slice_index_or xss i [] ≡ []
  past i [] few = refl
  past zero (xs ∷ xss) few = absurd (omega arith)
  past (suc i) (xs ∷ xss) few = past i xss (omega arith)

  pub all_empty : (xss : List (List C)) → ((i : ℕ) → length (slice_index_or xss i []) ≡ 0) → all_of xss ≡ []
  all_empty [] none = refl
  all_empty (xs ∷ xss) none = at xs (none 0) (all_empty xss (λ i. none (suc i)))
    where
      at : (ys : List C) → length ys ≡ 0 → all_of xss ≡ [] → ys ++ all_of xss ≡ []
      at [] e rest = rest
      at (y ∷ ys) e rest = absurd (omega (arith, e))

  pub get-drop : (n m : ℕ) (xs : List C) → slice_get (drop n xs) m ≡ slice_get xs (n + m)
  get-drop zero m xs = ap (λ (k : ℕ). slice_get xs k) (omega arith)
  get-drop (suc n) m [] = refl
  get-drop (suc n) m (x ∷ xs) =
      let up : suc n + m ≡ suc (n + m) = omega arith in
      get-drop n m xs ∙ sym (ap (λ (k : ℕ). slice_get (x ∷ xs) k) up)

  pub take-less : (n m : ℕ) (xs : List C) → n ≤ m → take n (take m xs) ≡ take n xs
  take-less zero m xs less = refl
  take-less (suc n) zero xs less = absurd (omega arith)
  take-less (suc n) (suc m) [] less = refl
  take-less (suc n) (suc m) (x ∷ xs) less = ap (λ (l : List C). x ∷ l) (take-less n m xs (omega arith))
