-- What a committer leaves, once all contexts have left.
use Rattle.std.proofs.Common.{◌≡◌, ◌∙◌, sym, refl, ℕ, ◌==◌, Bool, true, false, cond, List, [], ◌∷◌, map, subst, eq-eqb, inl, inr}
use Rattle.std.specs.Prelude.{filter, ◌⊎◌}
use Rattle.std.specs.List.{AllByRecursion}
use Rattle.std.proofs.lemmas.Bool.{eqb-true, eqb-false, false≢true}
use Rattle.nt_turn.specs.Pass.{PassState, Closes}
use Rattle.nt_turn.specs.History.{entries_of, HasNone}
use Rattle.nt_outside.specs.Disk.{DiskState}
use Rattle.nt_machine.specs.declared.entry.Entry.{Entry}
use Rattle.nt_machine.specs.History.{Cluster, is_out, ranges_of}
use Rattle.nt_machine.proofs.Histories.{own-fold}
use Rattle.nt_book.specs.declared.meta.ClusterMeta.{ClusterMeta}
use Rattle.nt_commit.specs.declared.locked.Birth.{Birth}
use Rattle.nt_commit.specs.Holds.{HasNoneOut, AreAllIn}
use Rattle.nt_commit.specs.Locked.{LockedState, IsInStep, birth_of, context_of, history_of_locked, place_of, ranges_out}

-- what holds of each in the part of each context holds of each
all_parts : (cs : List (Cluster ClusterMeta)) → ((i : ℕ) → AllByRecursion (λ (c : Cluster ClusterMeta). is_out c.state ≡ false)
    (filter (λ (c : Cluster ClusterMeta). c.context == i) cs))
    → AllByRecursion (λ (c : Cluster ClusterMeta). is_out c.state ≡ false) cs
all_parts [] each = tt
all_parts (c ∷ cs) each = (
  first (c.context == c.context) (eq-eqb c.context c.context refl) (each c.context),
  all_parts cs (λ i. rest (c.context == i) i (each i)),
)
  where
    first : (b : Bool) → b ≡ true → AllByRecursion (λ (c : Cluster ClusterMeta). is_out c.state ≡ false)
        (cond b (c ∷ filter (λ (d : Cluster ClusterMeta). d.context == c.context) cs)
        (filter (λ (d : Cluster ClusterMeta). d.context == c.context) cs)) → is_out c.state ≡ false
    first true is all = all.0
    first false is all = absurd (false≢true is)

    rest : (b : Bool) (i : ℕ) → AllByRecursion (λ (c : Cluster ClusterMeta). is_out c.state ≡ false)
        (cond b (c ∷ filter (λ (d : Cluster ClusterMeta). d.context == i) cs) (filter (λ (d : Cluster ClusterMeta). d.context == i) cs))
        → AllByRecursion (λ (c : Cluster ClusterMeta). is_out c.state ≡ false) (filter (λ (d : Cluster ClusterMeta). d.context == i) cs)
    rest true i all = all.1
    rest false i all = all

-- where none is out, no range is
none_out : (cs : List (Cluster ClusterMeta)) → AllByRecursion (λ (c : Cluster ClusterMeta). is_out c.state ≡ false) cs → ranges_out cs ≡ []
none_out [] all = refl
none_out (c ∷ cs) all = at (is_out c.state) all.0 (none_out cs all.1)
  where
    at : (b : Bool) → b ≡ false → ranges_out cs ≡ [] → map place_of
        (cond b (c ∷ filter (λ (d : Cluster ClusterMeta). is_out d.state) cs)
        (filter (λ (d : Cluster ClusterMeta). is_out d.state) cs)) ≡ []
    at true is rest = absurd (false≢true (sym is))
    at false is rest = rest

-- an entry list of one number is kept, or none of its number is
kept_or_none : (history : List (Entry ClusterMeta)) (kept : List (ℕ × List (Entry ClusterMeta))) (n : ℕ)
    → AllByRecursion (λ (k : ℕ × List (Entry ClusterMeta)). k.1 ≡ entries_of context_of history k.0) kept → AllByRecursion
    (λ (k : ℕ × List (Entry ClusterMeta)). HasNoneOut k.1) kept
    → HasNoneOut (entries_of context_of history n) ⊎ HasNone kept n
kept_or_none history [] n are back = inr tt
kept_or_none history (k ∷ ks) n are back = at (k.0 == n) refl (kept_or_none history ks n are.1 back.1)
  where
    at : (b : Bool) → (k.0 == n) ≡ b → HasNoneOut (entries_of context_of history n) ⊎ HasNone ks n
        → HasNoneOut (entries_of context_of history n) ⊎ HasNone (k ∷ ks) n
    at true is rest = inl (subst (λ (m : ℕ). HasNoneOut (entries_of context_of history m)) (eqb-true k.0 n is)
        (subst (λ (l : List (Entry ClusterMeta)). HasNoneOut l) are.0 back.0))
    at false is (inl here) = inl here
    at false is (inr none) = inr (eqb-false k.0 n is, none)

module _ {D : Type 0} (state : D → DiskState) (first : PassState (Entry ClusterMeta) (Birth D)) (locked : LockedState D)
    (closes : Closes (history_of_locked state) birth_of context_of first locked) (back : AreAllIn first) where
  each_back : (i : ℕ) → HasNoneOut (entries_of context_of (history_of_locked state locked) i)
  each_back i = at (i == first.number) refl (kept_or_none (history_of_locked state locked) first.kept i closes.kept back.kept)
    where
      at : (b : Bool) → (i == first.number) ≡ b → HasNoneOut (entries_of context_of (history_of_locked state locked) i)
          ⊎ HasNone first.kept i → HasNoneOut (entries_of context_of (history_of_locked state locked) i)
      at b is (inl here) = here
      at true is (inr none) =
          subst (λ (m : ℕ). HasNoneOut (entries_of context_of (history_of_locked state locked) m))
          (sym (eqb-true i first.number is)) (subst (λ (l : List (Entry ClusterMeta)). HasNoneOut l) closes.own back.own)
      at false is (inr none) = subst (λ (l : List (Entry ClusterMeta)). HasNoneOut l)
          (sym (closes.others i (eqb-false i first.number is) none)) tt

  -- no range is out of the disk
  pub nothing_out : IsInStep state locked → (state locked.disk).out ≡ []
  nothing_out in_step =
      let all = history_of_locked state locked in
      in_step.follows.out ∙ none_out (ranges_of all) (all_parts (ranges_of all) (λ i.
      subst (λ (l : List (Cluster ClusterMeta)). AllByRecursion (λ (c : Cluster ClusterMeta). is_out c.state ≡ false) l)
      (sym (own-fold [] all i)) (each_back i)))
