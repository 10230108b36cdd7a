-- The ranges of an own list: the last is out once it was reserved, and what holds of the fate of each holds after it was handed back so.
use Rattle.std.proofs.Common.{◌≡◌, ◌∙◌, ap, sym, refl, ℕ, ◌==◌, ◌&&◌, Bool, true, false, cond, List, [], ◌∷◌, ◌++◌, length, map, Some}
use Rattle.std.proofs.Common.{Option, subst, append_assoc, append-nil}
use Rattle.std.proofs.lemmas.Bool.{eq-eqb}
use Rattle.std.specs.Prelude.{slice_get, Result, Ok, Err}
use Rattle.std.specs.List.{AllByRecursion}
use Rattle.std.specs.declared.alloc.AllocError.{AllocError}
use Rattle.nt_machine.specs.declared.entry.Entry.{Entry}
use Rattle.nt_machine.specs.declared.entry.EntryKind.TheVariants as entry
use Rattle.nt_machine.specs.History.{Fate, Out, Settled, Spoiled, Cluster, is_out, handed_back, after_entry, ranges_of, reserving}
use Rattle.nt_machine.specs.History.{numbers_of}
use Rattle.nt_machine.proofs.Legality.{ranges_of-snoc}
use Rattle.nt_book.specs.declared.meta.ClusterMeta.{ClusterMeta}
use Rattle.nt_commit.specs.Holds.{publish_adds}

pub last_got : {A : Type 0} (xs : List A) (x : A) → slice_get (xs ++ x ∷ []) (length xs) ≡ Some x
last_got [] x = refl
last_got (y ∷ ys) x = last_got ys x

-- a range that was just reserved
abbrev pub new_range : ℕ → ℕ → ℕ → ℕ → ClusterMeta → Cluster ClusterMeta
new_range i n start len meta = record { context = i; number = n; start = start; len = len; meta = meta; state = Out }

-- its entry
abbrev pub new_entry : Bool → ℕ → ℕ → ℕ → ℕ → ClusterMeta → Entry ClusterMeta
new_entry staged i n start len meta = record { context = i; kind = reserving staged n start len meta }

pub ranges-reserved : (staged : Bool) (own : List (Entry ClusterMeta)) (i n start len : ℕ) (meta : ClusterMeta)
    → ranges_of (own ++ new_entry staged i n start len meta ∷ []) ≡ ranges_of own ++ new_range i n start len meta ∷ []
ranges-reserved false own i n start len meta = ranges_of-snoc own (new_entry false i n start len meta)
ranges-reserved true own i n start len meta = ranges_of-snoc own (new_entry true i n start len meta)

-- something that holds of the fate of each range
module _ (P : Fate → Type 0) where
  abbrev pub HoldsOfAll : List (Entry ClusterMeta) → Type 0
  HoldsOfAll own = AllByRecursion (λ (c : Cluster ClusterMeta). P c.state) (ranges_of own)

  stays_in : (i n : ℕ) (fate : Fate) (c : Cluster ClusterMeta) → P fate → P c.state → P (handed_back i n fate c).state
  stays_in i n fate c back h = at (c.context == i && c.number == n && is_out c.state)
    where
      at : (b : Bool) → P (cond b (record c { state = fate }) c).state
      at true = back
      at false = h

  gets_in : (i n start len : ℕ) (meta : ClusterMeta) (fate : Fate) → P fate → P (handed_back i n fate (new_range i n start len meta)).state
  gets_in i n start len meta fate back = both (i == i) (n == n) (eq-eqb i i refl) (eq-eqb n n refl)
    where
      both : (a b : Bool) → a ≡ true → b ≡ true → P (cond (a && b && true) (record (new_range i n start len meta) {
        state = fate;
      }) (new_range i n start len meta)).state
      both true true p q = back
      both true false p q = cc
      both false b p q = cc

  all_back : (i n start len : ℕ) (meta : ClusterMeta) (fate : Fate) (cs : List (Cluster ClusterMeta)) → P fate
      → AllByRecursion (λ (c : Cluster ClusterMeta). P c.state) cs
      → AllByRecursion (λ (c : Cluster ClusterMeta). P c.state) (map (handed_back i n fate) (cs ++ new_range i n start len meta ∷ []))
  all_back i n start len meta fate [] back h = (gets_in i n start len meta fate back, tt)
  all_back i n start len meta fate (c ∷ cs) back h = (stays_in i n fate c back h.0, all_back i n start len meta fate cs back h.1)

  -- a range was reserved and handed back, and the others are as before
  module _ (staged : Bool) (own : List (Entry ClusterMeta)) (i n start len : ℕ) (meta : ClusterMeta) where
    abbrev first : Entry ClusterMeta
    first = new_entry staged i n start len meta

    back_in : (fate : Fate) (e : Entry ClusterMeta) → P fate
        → after_entry (ranges_of own ++ new_range i n start len meta ∷ []) e
        ≡ map (handed_back i n fate) (ranges_of own ++ new_range i n start len meta ∷ [])
        → HoldsOfAll own → HoldsOfAll (own ++ first ∷ e ∷ [])
    back_in fate e back after all =
        let ranges : ranges_of (own ++ first ∷ e ∷ []) ≡ map (handed_back i n fate) (ranges_of own ++ new_range i n start len meta ∷ []) =
        ap (λ (l : List (Entry ClusterMeta)). ranges_of l) (sym (append_assoc own (first ∷ []) (e ∷ [])))
        ∙ (ranges_of-snoc (own ++ first ∷ []) e ∙ (ap (λ (l : List (Cluster ClusterMeta)). after_entry l e)
        (ranges-reserved staged own i n start len meta) ∙ after)) in
        subst (λ (l : List (Cluster ClusterMeta)). AllByRecursion (λ (c : Cluster ClusterMeta). P c.state) l)
        (sym ranges) (all_back i n start len meta fate (ranges_of own) back all)

    pub settled_in : (bytes : Option (List ℕ)) → P (Settled bytes) → HoldsOfAll own
        → HoldsOfAll (own ++ first ∷ record { context = i; kind = entry.Settled n bytes } ∷ [])
    settled_in bytes back = back_in (Settled bytes) (record { context = i; kind = entry.Settled n bytes }) back refl

    pub spoiled_in : (faults : ℕ) → P (Spoiled faults) → HoldsOfAll own
        → HoldsOfAll (own ++ first ∷ record { context = i; kind = entry.Spoiled n faults } ∷ [])
    spoiled_in faults back = back_in (Spoiled faults) (record { context = i; kind = entry.Spoiled n faults }) back refl

  -- a fault touches no range
  pub faulted_in : (own : List (Entry ClusterMeta)) (i faults : ℕ) → HoldsOfAll own
      → HoldsOfAll (own ++ record { context = i; kind = entry.Faulted faults } ∷ [])
  faulted_in own i faults all =
      subst (λ (l : List (Cluster ClusterMeta)). AllByRecursion (λ (c : Cluster ClusterMeta). P c.state) l)
      (sym (ranges_of-snoc own (record { context = i; kind = entry.Faulted faults }))) all

  -- nor does a publishing
  pub published_in : (own : List (Entry ClusterMeta)) (i : ℕ) (ranges : List (Cluster ClusterMeta)) (result : Result Unit AllocError)
      → HoldsOfAll own → HoldsOfAll (own ++ publish_adds i ranges result)
  published_in own i ranges (Ok done) all =
      subst (λ (l : List (Cluster ClusterMeta)). AllByRecursion (λ (c : Cluster ClusterMeta). P c.state) l)
      (sym (ranges_of-snoc own (record { context = i; kind = entry.Published (numbers_of ranges) }))) all
  published_in own i ranges (Err e) all = subst (λ (l : List (Entry ClusterMeta)). HoldsOfAll l) (sym (append-nil own)) all
