-- Each range is a cluster where each of their contexts published once.
use Rattle.std.proofs.Common.{◌≡◌, ◌∙◌, ap, sym, refl, ℕ, ◌+◌, ◌<◌, ◌≤◌, ◌==◌, Bool, true, false, cond, List, [], ◌∷◌, length}
use Rattle.std.proofs.Common.{arith, inl, inr}
use Rattle.std.specs.List.{AllByRecursion, flat_map}
use Rattle.std.proofs.lemmas.Bool.{cases_lt, eq-eqb, eqb-true, eqb-false}
use Rattle.std.proofs.lemmas.List.{length-append}
use Rattle.nt_machine.specs.Deal.{times}
use Rattle.nt_machine.specs.declared.entry.Entry.{Entry}
use Rattle.nt_machine.specs.History.{Cluster, own_of, publishers_of, ranges_of, clusters_of}
use Rattle.nt_machine.proofs.Contexts.{IsBelow}
use Rattle.nt_machine.proofs.Grouping.{All-clusters, own-published}
use Rattle.nt_machine.proofs.Histories.{not-eqb}
use Rattle.nt_machine.proofs.Publishers.{times-first}
use Rattle.nt_machine.proofs.Times.{one_if}

turned : (i j : ℕ) → (i == j) ≡ (j == i)
turned i j = at (i == j) refl
  where
    at : (b : Bool) → (i == j) ≡ b → (i == j) ≡ (j == i)
    at true e = e ∙ sym (eq-eqb j i (sym (eqb-true i j e)))
    at false e = e ∙ sym (not-eqb j i (λ is. eqb-false i j e (sym is)))

none-owned : (M : Type 0) (is : List ℕ) → length (flat_map (own_of {M = M} []) is) ≡ 0
none-owned M [] = refl
none-owned M (i ∷ is) = none-owned M is

module _ {M : Type 0} where
  length-own : (c : Cluster M) (cs : List (Cluster M)) (i : ℕ)
      → length (own_of (c ∷ cs) i) ≡ one_if (c.context == i) + length (own_of cs i)
  length-own c cs i = at (c.context == i)
    where
      at : (b : Bool) → length (cond b (c ∷ own_of cs i) (own_of cs i)) ≡ one_if b + length (own_of cs i)
      at true = omega arith
      at false = omega arith

  -- a range is there as often as its context is named
  one-owned : (c : Cluster M) (cs : List (Cluster M)) (is : List ℕ)
      → length (flat_map (own_of (c ∷ cs)) is) ≡ times c.context is + length (flat_map (own_of cs) is)
  one-owned c cs [] = refl
  one-owned c cs (i ∷ is) =
      omega (
        arith,
        length-append (own_of (c ∷ cs) i) (flat_map (own_of (c ∷ cs)) is),
        length-append (own_of cs i) (flat_map (own_of cs) is),
        length-own c cs i,
        times-first c.context i is,
        ap one_if (turned c.context i),
        one-owned c cs is,
      )

  all-owned : (cs : List (Cluster M)) (is : List ℕ) → AllByRecursion (λ (c : Cluster M). times c.context is ≡ 1) cs
      → length (flat_map (own_of cs) is) ≡ length cs
  all-owned [] is once = none-owned M is
  all-owned (c ∷ cs) is once = omega (arith, one-owned c cs is, once.0, all-owned cs is once.1)

  -- contexts below a number, each of which published once
  abbrev pub PublishedOnce : Bool → ℕ → List (Entry M) → Type 0
  PublishedOnce staged count history = staged ≡ true → (i : ℕ) → i < count → times i (publishers_of history) ≡ 1

  once-below : (count : ℕ) (is : List ℕ) (cs : List (Cluster M)) → ((i : ℕ) → i < count → times i is ≡ 1)
      → AllByRecursion (IsBelow count) cs → AllByRecursion (λ (c : Cluster M). times c.context is ≡ 1) cs
  once-below count is [] once below = tt
  once-below count is (c ∷ cs) once below = (once c.context below.0, once-below count is cs once below.1)

  -- there are as many clusters as ranges
  pub all-published : (staged : Bool) (count : ℕ) (history : List (Entry M)) → PublishedOnce staged count history
      → AllByRecursion (IsBelow count) (ranges_of history) → length (clusters_of staged history) ≡ length (ranges_of history)
  all-published false count history once below = refl
  all-published true count history once below =
      all-owned (ranges_of history) (publishers_of history)
      (once-below count (publishers_of history) (ranges_of history) (once refl) below)

  none-above : (count i : ℕ) (cs : List (Cluster M)) → AllByRecursion (IsBelow count) cs → count ≤ i → own_of cs i ≡ []
  none-above count i [] below high = refl
  none-above count i (c ∷ cs) below high =
      let low = below.0 in
      let other : (c.context == i) ≡ false = not-eqb c.context i (λ same. omega (arith, same, low, high)) in
      ap (λ (b : Bool). cond b (c ∷ own_of cs i) (own_of cs i)) other ∙ none-above count i cs below.1 high

  -- and each context has its ranges among them, in their order
  pub own-all : (staged : Bool) (count : ℕ) (history : List (Entry M)) → PublishedOnce staged count history
      → AllByRecursion (IsBelow count) (ranges_of history) → (i : ℕ) → own_of (clusters_of staged history) i ≡ own_of (ranges_of history) i
  own-all false count history once below i = refl
  own-all true count history once below i = elim (cases_lt i count) [
    | inl low ↦ own-published (ranges_of history) (publishers_of history) i (once refl i low)
    | inr high ↦
        none-above count i (clusters_of true history) (All-clusters (IsBelow count) true history below) high
        ∙ sym (none-above count i (ranges_of history) below high)
  ]
