-- Contexts get their numbers, and keep their seats: what was done of them was done of their seats.
use Rattle.std.proofs.Common.{◌≡◌, ℕ, zero, suc, ◌<◌, List, [], ◌∷◌, ◌++◌, length, sym, refl, ap, ◌∙◌, subst, arith, append_assoc}
use Rattle.std.proofs.Common.{⊎_elim, inl, inr, ◌⊎◌, map}
use Rattle.std.proofs.lemmas.List.{length-map}
use Rattle.std.specs.Prelude.{slice_index_or}
use Rattle.std.specs.List.{AllByRecursion}
use mathlib.Core.Option.{some, some-ne-none, some-injective}
use lib.ListN.{get_elem?}
use Rattle.nt_pool.specs.Pool.{AreNumbered, AreDone}
use Rattle.nt_contexts.specs.declared.seats.Context.{Context}
use Rattle.nt_contexts.specs.declared.shared.Shared.{Shared}
use Rattle.nt_contexts.specs.Jobs.{seats_in, IsContextOf}

module _ {J : Type 0} where
  at-end : (l : List J) (a b : J) (j : ℕ) → get_elem? (l ++ a ∷ []) j ≡ some b
      → (get_elem? l j ≡ some b) ⊎ ((j ≡ length l) × (a ≡ b))
  at-end [] a b zero e = inr (refl, some-injective a b e)
  at-end [] a b (suc j) e = absurd (some-ne-none b (sym e))
  at-end (x ∷ xs) a b zero e = inl e
  at-end (x ∷ xs) a b (suc j) e = ⊎_elim (λ h. inl h) (λ h. let n = h.0 in inr (omega (arith, n), h.1)) (at-end xs a b j e)

  -- one more job with the next number
  pub numbered-more : (number : J → ℕ) (js : List J) (j : J) → AreNumbered number js → number j ≡ length js
      → AreNumbered number (js ++ j ∷ [])
  numbered-more number js j all next i k e =
      ⊎_elim (λ h. all i k h) (λ h. ap number (sym h.1) ∙ (next ∙ sym h.0)) (at-end js j k i e)

module _ {J X : Type 0} where
  map-snoc : (f : J → X) (js : List J) (j : J) → map f (js ++ j ∷ []) ≡ map f js ++ f j ∷ []
  map-snoc f [] j = refl
  map-snoc f (k ∷ js) j = ap (λ (l : List X). f k ∷ l) (map-snoc f js j)

  -- what was moved from the front of one list to the end of the other
  pub moved : (f : J → X) (js : List J) (j : J) (rest all : List X) → map f js ++ f j ∷ rest ≡ all
      → map f (js ++ j ∷ []) ++ rest ≡ all
  moved f js j rest all is =
      ap (λ (l : List X). l ++ rest) (map-snoc f js j) ∙ (append_assoc (map f js) (f j ∷ []) rest ∙ is)

module _ {C T G : Type 0} (committer : C) (shared : Shared G) where
  -- what holds of each seat holds of each context
  ready-here : (P : C → Shared G → T → Type 0) (contexts : List (Context C T G)) → AllByRecursion (IsContextOf committer shared) contexts
      → ((k : ℕ) (d : T) → k < length (seats_in contexts) → P committer shared (slice_index_or (seats_in contexts) k d))
      → AllByRecursion (λ (c : Context C T G). P c.committer.now c.shared.now c.seat) contexts
  ready-here P [] of each = tt
  ready-here P (c ∷ contexts) of each =
      let some : 0 < length (c.seat ∷ seats_in contexts) = omega arith in (
        subst (λ (m : C). P m c.shared.now c.seat) (sym of.0.committer_is)
            (subst (λ (s : Shared G). P committer s c.seat) (sym of.0.shared_is) (each 0 c.seat some)),
        ready-here P contexts of.1 (λ k d less.
            let more : suc k < length (c.seat ∷ seats_in contexts) = omega (arith, less) in
            each (suc k) d more),
      )

  pub all-ready : (P : C → Shared G → T → Type 0) (contexts : List (Context C T G)) (seats : List T)
      → seats_in contexts ≡ seats → AllByRecursion (IsContextOf committer shared) contexts
      → ((k : ℕ) (d : T) → k < length seats → P committer shared (slice_index_or seats k d))
      → AllByRecursion (λ (c : Context C T G). P c.committer.now c.shared.now c.seat) contexts
  all-ready P contexts seats is of each =
      ready-here P contexts of (subst (λ (l : List T). (k : ℕ) (d : T) → k < length l → P committer shared (slice_index_or l k d))
      (sym is) each)

  -- what holds of each context and its answer holds of its seat and the answer
  done-here : {D : Type 0} (P : C → Shared G → T → D → Type 0) (contexts : List (Context C T G)) (done : List D)
      → AllByRecursion (IsContextOf committer shared) contexts
      → AreDone (λ (c : Context C T G) (d : D). P c.committer.now c.shared.now c.seat d) contexts done
      → (i : ℕ) (s : T) (d : D) → i < length (seats_in contexts)
      → P committer shared (slice_index_or (seats_in contexts) i s) (slice_index_or done i d)
  done-here P [] done of are i s d less = absurd (let none : i < 0 = less in omega (arith, none))
  done-here P (c ∷ contexts) [] of are i s d less = absurd (let long = are.0 in omega (arith, long))
  done-here P (c ∷ contexts) (x ∷ done) of are zero s d less =
      subst (λ m. P m shared c.seat x) of.0.committer_is
      (subst (λ m. P c.committer.now m c.seat x) of.0.shared_is (are.1 0 c x refl refl))
  done-here P (c ∷ contexts) (x ∷ done) of are (suc i) s d less =
      let here : suc i < length (c.seat ∷ seats_in contexts) = less in
      done-here P contexts done of.1 ((let long = are.0 in omega (arith, long)), λ j k y at there. are.1 (suc j) k y at there)
      i s d (omega (arith, here))

  pub all-done : {D : Type 0} (P : C → Shared G → T → D → Type 0) (contexts : List (Context C T G)) (seats : List T) (done : List D)
      → seats_in contexts ≡ seats → AllByRecursion (IsContextOf committer shared) contexts
      → AreDone (λ (c : Context C T G) (d : D). P c.committer.now c.shared.now c.seat d) contexts done
      → (length done ≡ length seats) × ((i : ℕ) (s : T) (d : D) → i < length seats
      → P committer shared (slice_index_or seats i s) (slice_index_or done i d))
  all-done P contexts seats done is of are = (
    (let long = are.0 in let same = length-map contexts (λ (c : Context C T G). c.seat) in let e = ap length is in omega
        (arith, long, same, e)),
    subst (λ (l : List T). (i : ℕ) (s : T) (d : _) → i < length l → P committer shared (slice_index_or l i s) (slice_index_or done i d))
        is (done-here P contexts done of are),
  )
