-- Clusters sum up to no more than the ranges: a context publishes at most once.
use Rattle.std.proofs.Common.{◌≡◌, ℕ, ◌+◌, ◌≤◌, ◌==◌, Bool, true, false, cond, List, [], ◌∷◌, ◌++◌, length, refl, sym, ap, ◌∙◌}
use Rattle.std.proofs.Common.{arith}
use Rattle.std.specs.Prelude.{filter}
use Rattle.std.specs.List.{flat_map, sum_by}
use Rattle.std.proofs.lemmas.Bool.{eq-eqb, eqb-true}
use Rattle.std.proofs.lemmas.List.Sums.{sum_by-cons, sum_by-append}
use Rattle.nt_machine.specs.Deal.{times}
use Rattle.nt_machine.specs.declared.entry.Entry.{Entry}
use Rattle.nt_machine.specs.declared.entry.EntryKind.{EntryKind}
use Rattle.nt_machine.specs.declared.entry.EntryKind.TheVariants as entry
use Rattle.nt_machine.specs.History.{Cluster, own_of, publisher, publishers_of, ranges_of, clusters_of}
use Rattle.nt_machine.specs.Staging.{IsBeforePublishing, IsStagedAfter, KeepsStaging}
use Rattle.nt_machine.proofs.Times.{times-append}

same-test : (i j : ℕ) (b : Bool) → i == j ≡ b → j == i ≡ b
same-test i j true e = eq-eqb j i (sym (eqb-true i j e))
same-test i j false e = at (j == i) refl
  where
    at : (b : Bool) → j == i ≡ b → b ≡ false
    at true f = sym (eq-eqb i j (sym (eqb-true j i f))) ∙ e
    at false f = refl

module _ {M : Type 0} (f : Cluster M → ℕ) where
  abbrev summed : List (Cluster M) → List ℕ → ℕ
  summed cs is = sum_by f (flat_map (own_of cs) is)

  -- a range of none of these contexts
  none-of : (c : Cluster M) (cs : List (Cluster M)) (is : List ℕ) → times c.context is ≡ 0 → summed (c ∷ cs) is ≡ summed cs is
  none-of c cs [] h = refl
  none-of c cs (i ∷ is) h = at (i == c.context) refl (λ none. none-of c cs is none) h
    where
      at : (b : Bool) → i == c.context ≡ b → (times c.context is ≡ 0 → summed (c ∷ cs) is ≡ summed cs is)
          → length (cond b (i ∷ filter (λ j. j == c.context) is) (filter (λ j. j == c.context) is)) ≡ 0
          → sum_by f (own_of (c ∷ cs) i ++ flat_map (own_of (c ∷ cs)) is) ≡ sum_by f (own_of cs i ++ flat_map (own_of cs) is)
      at true e rest none = absurd (omega (arith, none))
      at false e rest none =
          ap (λ (b : Bool). sum_by f (cond b (c ∷ own_of cs i) (own_of cs i) ++ flat_map (own_of (c ∷ cs)) is))
          (same-test i c.context false e)
          ∙ (sum_by-append f (own_of cs i) (flat_map (own_of (c ∷ cs)) is)
          ∙ (ap (λ (n : ℕ). sum_by f (own_of cs i) + n) (rest none)
          ∙ sym (sum_by-append f (own_of cs i) (flat_map (own_of cs) is))))

  -- and one of a context that is there once
  one-of : (c : Cluster M) (cs : List (Cluster M)) (is : List ℕ) → times c.context is ≤ 1 → summed (c ∷ cs) is ≤ f c + summed cs is
  one-of c cs [] h = omega arith
  one-of c cs (i ∷ is) h = at (i == c.context) refl (λ one. one-of c cs is one) h
    where
      at : (b : Bool) → i == c.context ≡ b → (times c.context is ≤ 1 → summed (c ∷ cs) is ≤ f c + summed cs is)
          → length (cond b (i ∷ filter (λ j. j == c.context) is) (filter (λ j. j == c.context) is)) ≤ 1
          → sum_by f (own_of (c ∷ cs) i ++ flat_map (own_of (c ∷ cs)) is) ≤ f c + sum_by f (own_of cs i ++ flat_map (own_of cs) is)
      at true e rest one =
          let here =
          ap (λ (b : Bool). sum_by f (cond b (c ∷ own_of cs i) (own_of cs i) ++ flat_map (own_of (c ∷ cs)) is))
          (same-test i c.context true e) in
          omega (
            arith,
            here,
            sum_by-append f (c ∷ own_of cs i) (flat_map (own_of (c ∷ cs)) is),
            sum_by-append f (own_of cs i) (flat_map (own_of cs) is),
            sum_by-cons f c (own_of cs i),
            none-of c cs is (omega (arith, one)),
          )
      at false e rest one =
          let here =
          ap (λ (b : Bool). sum_by f (cond b (c ∷ own_of cs i) (own_of cs i) ++ flat_map (own_of (c ∷ cs)) is))
          (same-test i c.context false e) in
          omega (
            arith,
            here,
            sum_by-append f (own_of cs i) (flat_map (own_of (c ∷ cs)) is),
            sum_by-append f (own_of cs i) (flat_map (own_of cs) is),
            rest one,
          )

  nothing-summed : (is : List ℕ) → summed [] is ≡ 0
  nothing-summed [] = refl
  nothing-summed (i ∷ is) = nothing-summed is

  pub summed-le : (cs : List (Cluster M)) (is : List ℕ) → ((i : ℕ) → times i is ≤ 1) → summed cs is ≤ sum_by f cs
  summed-le [] is once = omega (arith, nothing-summed is)
  summed-le (c ∷ cs) is once =
      omega (arith, one-of c cs is (once c.context), summed-le cs is once, sum_by-cons f c cs)

module _ {M : Type 0} where
  -- who published doesn't publish again
  once-kind : (i j : ℕ) (k : EntryKind M) (published : List ℕ) → times i published ≤ 1
      → IsBeforePublishing published j k → times i (published ++ publisher j k) ≤ 1
  once-kind i j (entry.Committed n start len meta) published h is = omega (arith, h, times-append i published [])
  once-kind i j (entry.Reserved n start len meta) published h is = omega (arith, h, times-append i published [])
  once-kind i j (entry.Published ns) published h is = at (j == i) refl
    where
      at : (b : Bool) → j == i ≡ b → times i (published ++ j ∷ []) ≤ 1
      at true e =
          let here = ap (λ (b : Bool). length (cond b (j ∷ []) [])) e in
          let none = ap (λ (n : ℕ). times n published) (eqb-true j i e) in
          omega (arith, here, none, is, times-append i published (j ∷ []))
      at false e =
          let here = ap (λ (b : Bool). length (cond b (j ∷ []) [])) e in
          omega (arith, here, h, times-append i published (j ∷ []))
  once-kind i j (entry.Settled n bytes) published h is = omega (arith, h, times-append i published [])
  once-kind i j (entry.Spoiled n faults) published h is = omega (arith, h, times-append i published [])
  once-kind i j (entry.Faulted faults) published h is = omega (arith, h, times-append i published [])

  once-after : (staged : Bool) (i : ℕ) (published : List ℕ) (es : List (Entry M)) → times i published ≤ 1
      → IsStagedAfter staged published es → times i (published ++ publishers_of es) ≤ 1
  once-after staged i published [] h is = omega (arith, h, times-append i published [])
  once-after staged i published (e ∷ es) h is =
      let more = once-after staged i (published ++ publisher e.context e.kind) es (once-kind i e.context e.kind published h is.0.1) is.1 in
      omega (
        arith,
        more,
        times-append i published (publisher e.context e.kind ++ publishers_of es),
        times-append i (published ++ publisher e.context e.kind) (publishers_of es),
        times-append i published (publisher e.context e.kind),
        times-append i (publisher e.context e.kind) (publishers_of es),
      )

  pub publishes-once : (staged : Bool) (history : List (Entry M)) → KeepsStaging staged history
      → (i : ℕ) → times i (publishers_of history) ≤ 1
  publishes-once staged history keeps i = once-after staged i [] history (omega arith) keeps

  -- clusters sum up to no more than the ranges
  pub clusters-sum-le : (f : Cluster M → ℕ) (staged : Bool) (history : List (Entry M)) → KeepsStaging staged history
      → sum_by f (clusters_of staged history) ≤ sum_by f (ranges_of history)
  clusters-sum-le f false history keeps = omega arith
  clusters-sum-le f true history keeps = summed-le f (ranges_of history) (publishers_of history) (publishes-once true history keeps)
