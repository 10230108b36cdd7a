-- What is published stays as it is.
use Rattle.std.proofs.Common.{◌≡◌, ℕ, suc, ◌+◌, ◌==◌, Bool, true, false, List, [], ◌∷◌, ◌++◌, map, Some, refl, sym, ap, ◌∙◌, subst}
use Rattle.std.proofs.Common.{append_assoc, append-nil, arith}
use Rattle.std.specs.Prelude.{slice_get}
use Rattle.std.specs.List.{AllByRecursion, fold, flat_map}
use Rattle.std.proofs.lemmas.Bool.{false≢true}
use Rattle.std.proofs.lemmas.Grind.{flat_map-append}
use Rattle.nt_machine.specs.declared.entry.Entry.{Entry}
use Rattle.nt_machine.specs.declared.entry.EntryKind.{EntryKind}
use Rattle.nt_machine.specs.declared.entry.EntryKind.TheVariants as entry
use Rattle.nt_machine.specs.History.{Fate, Out, Settled, Spoiled, Cluster, is_out, handed_back, own_of, after_kind, after_entry, ranges_of}
use Rattle.nt_machine.specs.History.{publisher, publishers_of, clusters_of}
use Rattle.nt_machine.specs.Legal.{IsFilledFate, IsFilledRange, IsKindAllowed, IsLegal, IsLegalAfter}
use Rattle.nt_machine.specs.Staging.{IsStagedKind, IsBeforePublishing, IsStagedNext, IsStagedAfter, KeepsStaging}
use Rattle.nt_machine.proofs.Grouping.{All-published, All-clusters}
use Rattle.nt_machine.proofs.Histories.{AllByRecursion-append, handed_back-back, context-handed_back, own-map, own-snoc_other}
use Rattle.nt_machine.proofs.Legality.{IsNumbered, IsNumbered-fold, ranges_of-snoc}
use Rattle.nt_machine.proofs.Publishers.{times-differ, publishers-snoc}

filled-back : (state : Fate) → IsFilledFate state → is_out state ≡ false
filled-back Out is = absurd is
filled-back (Settled bytes) is = refl
filled-back (Spoiled faults) is = absurd is

All-weaker : {X : Type 0} (P Q : X → Type 0) → ((x : X) → P x → Q x) → (xs : List X) → AllByRecursion P xs → AllByRecursion Q xs
All-weaker P Q weak [] h = tt
All-weaker P Q weak (x ∷ xs) h = (weak x h.0, All-weaker P Q weak xs h.1)

module _ {M : Type 0} where
  -- a context has filled all its ranges
  abbrev IsDone : List (Cluster M) → ℕ → Type 0
  IsDone cs p = AllByRecursion IsFilledRange (own_of cs p)

  filled-stay : (i n : ℕ) (state : Fate) (cs : List (Cluster M)) → AllByRecursion IsFilledRange cs → map (handed_back i n state) cs ≡ cs
  filled-stay i n state [] h = refl
  filled-stay i n state (c ∷ cs) h =
      ap (λ (d : Cluster M). d ∷ map (handed_back i n state) cs) (handed_back-back i n state c (filled-back c.state h.0))
      ∙ ap (λ (l : List (Cluster M)). c ∷ l) (filled-stay i n state cs h.1)

  own-back : (i n : ℕ) (state : Fate) (cs : List (Cluster M)) (p : ℕ) → IsDone cs p
      → own_of (map (handed_back i n state) cs) p ≡ own_of cs p
  own-back i n state cs p done =
      own-map (handed_back i n state) (context-handed_back i n state) cs p ∙ filled-stay i n state (own_of cs p) done

  -- the ranges of this context are the same
  abbrev AreSame : List (Cluster M) → List (Cluster M) → ℕ → Type 0
  AreSame new old p = own_of new p ≡ own_of old p

  all_same : (cs : List (Cluster M)) (ps : List ℕ) → AllByRecursion (AreSame cs cs) ps
  all_same cs [] = tt
  all_same cs (p ∷ ps) = (refl, all_same cs ps)

  -- those who published keep their ranges
  own-stay : (cs : List (Cluster M)) (published : List ℕ) (i : ℕ) (k : EntryKind M) → IsStagedKind true k
      → IsBeforePublishing published i k → AllByRecursion (IsDone cs) published → AllByRecursion (AreSame (after_kind cs i k) cs) published
  own-stay cs published i (entry.Committed n start len meta) is before done = absurd (false≢true (sym is))
  own-stay cs published i (entry.Reserved n start len meta) is before done =
      All-weaker (λ p. i == p ≡ false) (AreSame (after_kind cs i (entry.Reserved n start len meta)) cs)
      (λ p differ. own-snoc_other cs _ p differ) published (times-differ i published before)
  own-stay cs published i (entry.Published ns) is before done = all_same cs published
  own-stay cs published i (entry.Settled n bytes) is before done =
      All-weaker (IsDone cs) (AreSame (after_kind cs i (entry.Settled n bytes)) cs) (own-back i n (Settled bytes) cs) published done
  own-stay cs published i (entry.Spoiled n faults) is before done =
      All-weaker (IsDone cs) (AreSame (after_kind cs i (entry.Spoiled n faults)) cs) (own-back i n (Spoiled faults) cs) published done
  own-stay cs published i (entry.Faulted faults) is before done = all_same cs published

  done-same : (new old : List (Cluster M)) (ps : List ℕ) → AllByRecursion (AreSame new old) ps → AllByRecursion (IsDone old) ps
      → AllByRecursion (IsDone new) ps
  done-same new old [] same done = tt
  done-same new old (p ∷ ps) same done = (
    subst (λ (l : List (Cluster M)). AllByRecursion IsFilledRange l) (sym same.0) done.0,
    done-same new old ps same.1 done.1,
  )

  done-publisher : (place : ℕ) (cs : List (Cluster M)) (i : ℕ) (k : EntryKind M) → IsKindAllowed place cs i k
      → AllByRecursion (IsDone (after_kind cs i k)) (publisher i k)
  done-publisher place cs i (entry.Committed n start len meta) ok = tt
  done-publisher place cs i (entry.Reserved n start len meta) ok = tt
  done-publisher place cs i (entry.Published ns) ok = (ok.1, tt)
  done-publisher place cs i (entry.Settled n bytes) ok = tt
  done-publisher place cs i (entry.Spoiled n faults) ok = tt
  done-publisher place cs i (entry.Faulted faults) ok = tt

  -- who published has filled its ranges, after each entry
  done-fold : (place : ℕ) (cs : List (Cluster M)) (published : List ℕ) (history : List (Entry M)) → IsLegalAfter place cs history
      → IsStagedAfter true published history → AllByRecursion (IsDone cs) published
      → AllByRecursion (IsDone (fold after_entry cs history)) (published ++ publishers_of history)
  done-fold place cs published [] ok staging done = subst (λ (l : List ℕ). AllByRecursion (IsDone cs) l) (sym (append-nil published)) done
  done-fold place cs published (e ∷ es) ok staging done =
      let more : List ℕ = publisher e.context e.kind in
      let same = own-stay cs published e.context e.kind staging.0.0 staging.0.1 done in
      let next = AllByRecursion-append (IsDone (after_entry cs e)) published more (done-same (after_entry cs e) cs published same done)
      (done-publisher place cs e.context e.kind ok.0) in
      subst (λ (l : List ℕ). AllByRecursion (IsDone (fold after_entry cs (e ∷ es))) l) (append_assoc published more (publishers_of es))
      (done-fold place (after_entry cs e) (published ++ more) es ok.1 staging.1 next)

  all_done : (place : ℕ) (history : List (Entry M)) → IsLegal place history → KeepsStaging true history
      → AllByRecursion (IsDone (ranges_of history)) (publishers_of history)
  all_done place history ok staging = done-fold place [] [] history ok staging tt

  flat_map-same : (new old : List (Cluster M)) (ps : List ℕ) → AllByRecursion (AreSame new old) ps
      → flat_map (own_of new) ps ≡ flat_map (own_of old) ps
  flat_map-same new old [] same = refl
  flat_map-same new old (p ∷ ps) same =
      ap (λ (l : List (Cluster M)). l ++ flat_map (own_of new) ps) same.0
      ∙ ap (λ (l : List (Cluster M)). own_of old p ++ l) (flat_map-same new old ps same.1)

  -- who publishes changes no range
  same-publisher : (cs : List (Cluster M)) (i : ℕ) (k : EntryKind M) → AllByRecursion (AreSame (after_kind cs i k) cs) (publisher i k)
  same-publisher cs i (entry.Committed n start len meta) = tt
  same-publisher cs i (entry.Reserved n start len meta) = tt
  same-publisher cs i (entry.Published ns) = (refl, tt)
  same-publisher cs i (entry.Settled n bytes) = tt
  same-publisher cs i (entry.Spoiled n faults) = tt
  same-publisher cs i (entry.Faulted faults) = tt

  -- the clusters grow by the ranges of who publishes
  pub clusters-grow : (place : ℕ) (history : List (Entry M)) (e : Entry M) → IsLegal place history → KeepsStaging true history
      → IsStagedNext true (publishers_of history) e
      → clusters_of true (history ++ e ∷ [])
      ≡ clusters_of true history ++ flat_map (own_of (ranges_of history)) (publisher e.context e.kind)
  clusters-grow place history e ok staging next =
      let cs : List (Cluster M) = ranges_of history in
      let ps : List ℕ = publishers_of history in
      let more : List ℕ = publisher e.context e.kind in
      let same = own-stay cs ps e.context e.kind next.0 next.1 (all_done place history ok staging) in
      let all = AllByRecursion-append (AreSame (after_entry cs e) cs) ps more same (same-publisher cs e.context e.kind) in
      ap (λ (l : List (Cluster M)). flat_map (own_of l) (publishers_of (history ++ e ∷ []))) (ranges_of-snoc history e)
      ∙ (ap (λ (l : List ℕ). flat_map (own_of (after_entry cs e)) l) (publishers-snoc history e)
      ∙ (flat_map-same (after_entry cs e) cs (ps ++ more) all ∙ flat_map-append (own_of cs) ps more))

  -- and all of them are filled
  pub clusters-filled : (place : ℕ) (history : List (Entry M)) → IsLegal place history → KeepsStaging true history
      → AllByRecursion IsFilledRange (clusters_of true history)
  clusters-filled place history ok staging =
      All-published IsFilledRange (ranges_of history) (publishers_of history) (all_done place history ok staging)

  -- a numbered range stands at its number
  named-from : (all : List (Cluster M)) (m : ℕ) (cs : List (Cluster M)) → IsNumbered m cs
      → ((k : ℕ) → slice_get all (m + k) ≡ slice_get cs k) → AllByRecursion (λ (c : Cluster M). slice_get all c.number ≡ Some c) cs
  named-from all m [] h at = tt
  named-from all m (c ∷ cs) h at = (
    ap (λ (n : ℕ). slice_get all n) (h.0 ∙ omega arith) ∙ at 0,
    named-from all (suc m) cs h.1 (λ k. ap (λ (n : ℕ). slice_get all n) (omega arith) ∙ at (suc k)),
  )

  pub named : (staged : Bool) (place : ℕ) (history : List (Entry M)) → IsLegal place history
      → AllByRecursion (λ (c : Cluster M). slice_get (ranges_of history) c.number ≡ Some c) (clusters_of staged history)
  named staged place history ok =
      All-clusters (λ (c : Cluster M). slice_get (ranges_of history) c.number ≡ Some c) staged history
      (named-from (ranges_of history) 0 (ranges_of history) (IsNumbered-fold place [] history ok tt)
      (λ k. ap (λ (n : ℕ). slice_get (ranges_of history) n) (omega arith)))
