-- The ranges of publishers, one publisher after the other.
use Rattle.std.proofs.Common.{◌≡◌, ℕ, ◌+◌, ◌≤◌, ◌==◌, Bool, true, false, cond, List, [], ◌∷◌, ◌++◌, length, refl, sym, ap, ◌∙◌}
use Rattle.std.proofs.Common.{subst, append_assoc, append-nil, arith}
use Rattle.std.specs.Prelude.{filter}
use Rattle.std.specs.List.{AllByRecursion, flat_map, sum_by}
use Rattle.std.proofs.lemmas.List.Sums.{sum_by-cons}
use Rattle.std.proofs.lemmas.Bool.{eqb-true, eqb-false}
use Rattle.std.proofs.lemmas.List.{map-append}
use Rattle.std.proofs.lemmas.List.Elements.{filter-append}
use Rattle.nt_machine.specs.Deal.{times, IsGrouped}
use Rattle.nt_machine.specs.declared.entry.Entry.{Entry}
use Rattle.nt_machine.specs.History.{Cluster, own_of, order_of, ranges_of, publishers_of, clusters_of}
use Rattle.nt_machine.specs.Staging.{KeepsStaging}
use Rattle.nt_machine.proofs.ClusterSums.{clusters-sum-le}
use Rattle.nt_machine.proofs.Histories.{AllByRecursion-append, not-eqb}
use Rattle.nt_machine.proofs.Publishers.{IsOnceAfter, times-first, once-publishers}
use Rattle.nt_machine.proofs.Times.{times-append, one_if, times-snoc, IsGrouped-append}

times-none : (i j : ℕ) (ys : List ℕ) → j == i ≡ false → AllByRecursion (λ k. k ≡ j) ys → times i ys ≡ 0
times-none i j [] differ all = refl
times-none i j (y ∷ ys) differ all =
    ap (λ (b : Bool). length (cond b (y ∷ filter (λ k. k == i) ys) (filter (λ k. k == i) ys)))
    (ap (λ (k : ℕ). k == i) all.0 ∙ differ)
    ∙ times-none i j ys differ all.1

module _ {M : Type 0} where
  -- a property of ranges is one of those of a context
  pub All-own : (P : Cluster M → Type 0) (cs : List (Cluster M)) (i : ℕ) → AllByRecursion P cs → AllByRecursion P (own_of cs i)
  All-own P [] i h = tt
  All-own P (c ∷ cs) i h = at (c.context == i) (All-own P cs i h.1)
    where
      at : (b : Bool) → AllByRecursion P (own_of cs i) → AllByRecursion P (cond b (c ∷ own_of cs i) (own_of cs i))
      at true rest = (h.0, rest)
      at false rest = rest

  pub All-published : (P : Cluster M → Type 0) (cs : List (Cluster M)) (ps : List ℕ)
      → AllByRecursion (λ p. AllByRecursion P (own_of cs p)) ps → AllByRecursion P (flat_map (own_of cs) ps)
  All-published P cs [] h = tt
  All-published P cs (p ∷ ps) h = AllByRecursion-append P (own_of cs p) (flat_map (own_of cs) ps) h.0 (All-published P cs ps h.1)

  pub All-clusters : (P : Cluster M → Type 0) (staged : Bool) (history : List (Entry M)) → AllByRecursion P (ranges_of history)
      → AllByRecursion P (clusters_of staged history)
  All-clusters P false history h = h
  All-clusters P true history h = All-published P (ranges_of history) (publishers_of history) (each (publishers_of history))
    where
      each : (ps : List ℕ) → AllByRecursion (λ p. AllByRecursion P (own_of (ranges_of history) p)) ps
      each [] = tt
      each (p ∷ ps) = (All-own P (ranges_of history) p h, each ps)

  own-again : (cs : List (Cluster M)) (i : ℕ) → own_of (own_of cs i) i ≡ own_of cs i
  own-again [] i = refl
  own-again (c ∷ cs) i = at (c.context == i) refl (own-again cs i)
    where
      at : (b : Bool) → c.context == i ≡ b → own_of (own_of cs i) i ≡ own_of cs i
          → own_of (cond b (c ∷ own_of cs i) (own_of cs i)) i ≡ cond b (c ∷ own_of cs i) (own_of cs i)
      at true e rest =
          ap (λ (b : Bool). cond b (c ∷ own_of (own_of cs i) i) (own_of (own_of cs i) i)) e ∙ ap (λ (l : List (Cluster M)). c ∷ l) rest
      at false e rest = rest

  -- no range is two contexts'
  own-own : (cs : List (Cluster M)) (j i : ℕ) → j == i ≡ false → own_of (own_of cs j) i ≡ []
  own-own [] j i differ = refl
  own-own (c ∷ cs) j i differ = at (c.context == j) refl (own-own cs j i differ)
    where
      at : (b : Bool) → c.context == j ≡ b → own_of (own_of cs j) i ≡ [] → own_of (cond b (c ∷ own_of cs j) (own_of cs j)) i ≡ []
      at true e rest =
          let other : c.context == i ≡ false = not-eqb c.context i (λ is. eqb-false j i differ (sym (eqb-true c.context j e) ∙ is)) in
          ap (λ (b : Bool). cond b (c ∷ own_of (own_of cs j) i) (own_of (own_of cs j) i)) other ∙ rest
      at false e rest = rest

  own-first : (cs : List (Cluster M)) (p : ℕ) (ps : List ℕ) (i : ℕ)
      → own_of (flat_map (own_of cs) (p ∷ ps)) i ≡ own_of (own_of cs p) i ++ own_of (flat_map (own_of cs) ps) i
  own-first cs p ps i = filter-append (λ (c : Cluster M). c.context == i) (own_of cs p) (flat_map (own_of cs) ps)

  own-unpublished : (cs : List (Cluster M)) (ps : List ℕ) (i : ℕ) → times i ps ≡ 0 → own_of (flat_map (own_of cs) ps) i ≡ []
  own-unpublished cs [] i none_there = refl
  own-unpublished cs (p ∷ ps) i none_there =
      own-first cs p ps i ∙ at (p == i) refl (times-first i p ps) (own-unpublished cs ps i)
    where
      at : (b : Bool) → p == i ≡ b → times i (p ∷ ps) ≡ one_if (p == i) + times i ps
          → (times i ps ≡ 0 → own_of (flat_map (own_of cs) ps) i ≡ [])
          → own_of (own_of cs p) i ++ own_of (flat_map (own_of cs) ps) i ≡ []
      at true e first rest =
          let here : one_if (p == i) ≡ 1 = ap one_if e in
          absurd (omega arith)
      at false e first rest =
          let here : one_if (p == i) ≡ 0 = ap one_if e in
          ap (λ (l : List (Cluster M)). l ++ own_of (flat_map (own_of cs) ps) i) (own-own cs p i e) ∙ rest (omega arith)

  -- who published once has its own ranges among the clusters, each once
  pub own-published : (cs : List (Cluster M)) (ps : List ℕ) (i : ℕ) → times i ps ≡ 1 → own_of (flat_map (own_of cs) ps) i ≡ own_of cs i
  own-published cs [] i is = absurd (omega arith)
  own-published cs (p ∷ ps) i is = own-first cs p ps i ∙ at (p == i) refl (times-first i p ps) (own-published cs ps i)
    where
      at : (b : Bool) → p == i ≡ b → times i (p ∷ ps) ≡ one_if (p == i) + times i ps
          → (times i ps ≡ 1 → own_of (flat_map (own_of cs) ps) i ≡ own_of cs i)
          → own_of (own_of cs p) i ++ own_of (flat_map (own_of cs) ps) i ≡ own_of cs i
      at true e first rest =
          let here : one_if (p == i) ≡ 1 = ap one_if e in
          let none_there : times i ps ≡ 0 = omega arith in
          ap (λ (l : List (Cluster M)). own_of (own_of cs p) i ++ l) (own-unpublished cs ps i none_there)
          ∙ (append-nil (own_of (own_of cs p) i)
          ∙ (ap (λ (j : ℕ). own_of (own_of cs j) i) (eqb-true p i e) ∙ own-again cs i))
      at false e first rest =
          let here : one_if (p == i) ≡ 0 = ap one_if e in
          ap (λ (l : List (Cluster M)). l ++ own_of (flat_map (own_of cs) ps) i) (own-own cs p i e) ∙ rest (omega arith)

  order_of-own : (cs : List (Cluster M)) (i : ℕ) → AllByRecursion (λ j. j ≡ i) (order_of (own_of cs i))
  order_of-own [] i = tt
  order_of-own (c ∷ cs) i = at (c.context == i) refl (order_of-own cs i)
    where
      at : (b : Bool) → c.context == i ≡ b → AllByRecursion (λ j. j ≡ i) (order_of (own_of cs i))
          → AllByRecursion (λ j. j ≡ i) (order_of (cond b (c ∷ own_of cs i) (own_of cs i)))
      at true e rest = (eqb-true c.context i e, rest)
      at false e rest = rest

  grouped-from : (cs : List (Cluster M)) (before ps order : List ℕ) → IsOnceAfter before ps → IsGrouped order
      → ((i : ℕ) → times i before ≡ 0 → times i order ≡ 0) → IsGrouped (order ++ order_of (flat_map (own_of cs) ps))
  grouped-from cs before [] order h grouped inside = subst IsGrouped (sym (append-nil order)) grouped
  grouped-from cs before (p ∷ ps) order h grouped inside =
      let block : List ℕ = order_of (own_of cs p) in
      let later : List ℕ = order_of (flat_map (own_of cs) ps) in
      let parts : order_of (flat_map (own_of cs) (p ∷ ps)) ≡ block ++ later =
      map-append (λ (c : Cluster M). c.context) (own_of cs p) (flat_map (own_of cs) ps) in
      subst IsGrouped (append_assoc order block later ∙ ap (λ (l : List ℕ). order ++ l) (sym parts))
      (grouped-from cs (before ++ p ∷ []) ps (order ++ block) h.1
      (IsGrouped-append p order block grouped (inside p h.0) (order_of-own cs p))
      (λ i none_there. at i none_there (p == i) refl (times-snoc p before i)))
    where
      at : (i : ℕ) → times i (before ++ p ∷ []) ≡ 0 → (b : Bool) → p == i ≡ b
          → times i (before ++ p ∷ []) ≡ times i before + one_if (p == i) → times i (order ++ order_of (own_of cs p)) ≡ 0
      at i none_there true e last =
          let here : one_if (p == i) ≡ 1 = ap one_if e in
          absurd (omega arith)
      at i none_there false e last =
          let first : times i order ≡ 0 = inside i (omega arith) in
          times-append i order (order_of (own_of cs p))
          ∙ omega (arith, first, times-none i p (order_of (own_of cs p)) e (order_of-own cs p))

  -- the clusters of a context that published once stand together
  pub grouped : (history : List (Entry M)) → KeepsStaging true history → IsGrouped (order_of (clusters_of true history))
  grouped history h =
      grouped-from (ranges_of history) [] (publishers_of history) [] (once-publishers true [] history h)
      (λ a b c ab bc less same. absurd (omega arith)) (λ i is. refl)

  counted : (cs : List (Cluster M)) → sum_by (λ (c : Cluster M). 1) cs ≡ length cs
  counted [] = refl
  counted (c ∷ cs) = omega (arith, sum_by-cons (λ (d : Cluster M). 1) c cs, counted cs)

  -- there are no more clusters than ranges
  pub few : (staged : Bool) (history : List (Entry M)) → KeepsStaging staged history
      → length (clusters_of staged history) ≤ length (ranges_of history)
  few staged history h =
      omega (
        arith,
        clusters-sum-le (λ (c : Cluster M). 1) staged history h,
        counted (clusters_of staged history),
        counted (ranges_of history),
      )
