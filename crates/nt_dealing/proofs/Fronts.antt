-- The ranges of a history, of which each context's are the first of its chunks: so many chunks are used, and the others are left.
use Rattle.std.proofs.Common.{◌≡◌, ◌∙◌, ap, sym, refl, subst, ℕ, suc, ◌≤◌, ◌==◌, ◌&&◌, Bool, true, false, cond, List, []}
use Rattle.std.proofs.Common.{◌∷◌, ◌++◌, length, map, take, drop, arith}
use Rattle.std.specs.Prelude.{IsPermutation, slice_index_or}
use Rattle.std.specs.List.{AllZip, fold}
use Rattle.std.proofs.lemmas.Bool.{eq-eqb}
use Rattle.std.proofs.lemmas.List.{length-append, length-map, take_all}
use Rattle.std.proofs.lemmas.List.Elements.{filter-append}
use Rattle.std.proofs.lemmas.List.Sums.{fold-append}
use Rattle.std.proofs.lemmas.List.Sorted.{IsPermutation-refl, IsPermutation-trans, IsPermutation-cons}
use Rattle.std.proofs.lemmas.Slice.Zip.{AllZip-long}
use mathlib.Core.List.{IsPrefix}
use Rattle.nt_machine.specs.declared.entry.Entry.{Entry}
use Rattle.nt_machine.specs.declared.entry.EntryKind.{EntryKind}
use Rattle.nt_machine.specs.declared.entry.EntryKind.TheVariants as entry
use Rattle.nt_machine.specs.History.{Fate, Out, Settled, Spoiled, Cluster, is_out, mine_of, handed_back, after_kind, after_entry, ranges_of}
use Rattle.nt_machine.specs.History.{IsFaulted, IsIdle, own_of}
use Rattle.nt_machine.proofs.Histories.{not-eqb, own-fold}
use Rattle.nt_dealing.proofs.Takings.{by_number, all_of, without, without-here, without-other, seam, seam_permuted, take-less}

pub own-here : {M : Type 0} (c : Cluster M) (cs : List (Cluster M)) → own_of (c ∷ cs) c.context ≡ c ∷ own_of cs c.context
own-here c cs = ap (λ (b : Bool). cond b (c ∷ own_of cs c.context) (own_of cs c.context)) (eq-eqb c.context c.context refl)

pub own-other : {M : Type 0} (c : Cluster M) (cs : List (Cluster M)) (k : ℕ) → (k ≡ c.context → ⊥) → own_of (c ∷ cs) k ≡ own_of cs k
own-other c cs k differ = ap (λ (b : Bool). cond b (c ∷ own_of cs k) (own_of cs k)) (not-eqb c.context k (λ same. differ (sym same)))

-- no entry takes a range away
grows : {M : Type 0} (cs : List (Cluster M)) (i : ℕ) (k : EntryKind M) → length cs ≤ length (after_kind cs i k)
grows {M = M} cs i (entry.Committed n start len meta) =
    let more : List (Cluster M) = record { context = i; number = n; start = start; len = len; meta = meta; state = Out } ∷ [] in
    omega (arith, length-append cs more)
grows {M = M} cs i (entry.Reserved n start len meta) =
    let more : List (Cluster M) = record { context = i; number = n; start = start; len = len; meta = meta; state = Out } ∷ [] in
    omega (arith, length-append cs more)
grows cs i (entry.Published ns) = omega arith
grows cs i (entry.Settled n bytes) = omega (arith, length-map cs (handed_back i n (Settled bytes)))
grows cs i (entry.Spoiled n faults) = omega (arith, length-map cs (handed_back i n (Spoiled faults)))
grows cs i (entry.Faulted faults) = omega arith

module _ {M C : Type 0} (R : C → Cluster M → Type 0) where
  -- the ranges of each context are of the first of its chunks
  abbrev pub AreFronts : List (List C) → List (Cluster M) → Type 0
  AreFronts xss cs = (i : ℕ) → AllZip R (take (length (own_of cs i)) (slice_index_or xss i [])) (own_of cs i)

  -- the chunks of these ranges, and those that are left of each context
  pub record Taken (xss : List (List C)) (cs : List (Cluster M)) : Type 0 where
    pub some : List C
    pub left : List (List C)
    pub permuted : IsPermutation (some ++ all_of left) (all_of xss)
    pub pairs : AllZip R some cs
    pub rest : (i : ℕ) → slice_index_or left i [] ≡ drop (length (own_of cs i)) (slice_index_or xss i [])

  pub taken : (cs : List (Cluster M)) (xss : List (List C)) → AreFronts xss cs → Taken xss cs
  taken [] xss fronts = record { some = []; left = xss; permuted = IsPermutation-refl (all_of xss); pairs = tt; rest = λ i. refl }
  taken (c ∷ cs) xss fronts = at (taken cs (without c.context xss)) (slice_index_or xss c.context []) refl
    where
      zip : AllZip R (take (suc (length (own_of cs c.context))) (slice_index_or xss c.context [])) (c ∷ own_of cs c.context)
      zip =
          subst (λ (l : List (Cluster M)). AllZip R (take (length l) (slice_index_or xss c.context [])) l) (own-here c cs)
          (fronts c.context)

      at : (AreFronts (without c.context xss) cs → Taken (without c.context xss) cs) → (mine : List C)
          → slice_index_or xss c.context [] ≡ mine → Taken xss (c ∷ cs)
      at on [] e =
          let none : AllZip R (take (suc (length (own_of cs c.context))) []) (c ∷ own_of cs c.context) =
          subst (λ (l : List C). AllZip R (take (suc (length (own_of cs c.context))) l) (c ∷ own_of cs c.context)) e zip in
          absurd none
      at on (x ∷ xs) e =
          let i = c.context in
          let pairs : R x c × AllZip R (take (length (own_of cs i)) xs) (own_of cs i) =
          subst (λ (l : List C). AllZip R (take (suc (length (own_of cs i))) l) (c ∷ own_of cs i)) e zip in
          let left_is : slice_index_or (without i xss) i [] ≡ xs = without-here i xss ∙ ap (λ (l : List C). drop 1 l) e in
          let next : AreFronts (without i xss) cs =
          by_number (λ k. AllZip R (take (length (own_of cs k)) (slice_index_or (without i xss) k [])) (own_of cs k)) i
          (subst (λ (l : List C). AllZip R (take (length (own_of cs i)) l) (own_of cs i)) (sym left_is) pairs.1)
          (λ k differ.
          subst (λ (l : List C). AllZip R (take (length (own_of cs k)) l) (own_of cs k)) (sym (without-other i k xss differ))
          (subst (λ (l : List (Cluster M)). AllZip R (take (length l) (slice_index_or xss k [])) l) (own-other c cs k differ)
          (fronts k))) in
          let t = on next in
          record {
            some = x ∷ t.some;
            left = t.left;
            permuted = IsPermutation-trans (x ∷ (t.some ++ all_of t.left)) (x ∷ all_of (without i xss)) (all_of xss)
                (IsPermutation-cons x (t.some ++ all_of t.left) (all_of (without i xss)) t.permuted)
                (seam_permuted xss i x (seam i xss x xs e));
            pairs = (pairs.0, t.pairs);
            rest = by_number (λ k. slice_index_or t.left k [] ≡ drop (length (own_of (c ∷ cs) k)) (slice_index_or xss k [])) i
                (t.rest i
                ∙ (ap (λ (l : List C). drop (length (own_of cs i)) l) left_is
                ∙ (sym (ap (λ (l : List C). drop (suc (length (own_of cs i))) l) e)
                ∙ sym (ap (λ (l : List (Cluster M)). drop (length l) (slice_index_or xss i [])) (own-here c cs)))))
                (λ k differ.
                t.rest k
                ∙ (ap (λ (l : List C). drop (length (own_of cs k)) l) (without-other i k xss differ)
                ∙ sym (ap (λ (l : List (Cluster M)). drop (length l) (slice_index_or xss k [])) (own-other c cs k differ))));
          }

  -- what was so later was so before, if it doesn't speak of the state
  module _ (blind : (x : C) (state : Fate) (c : Cluster M) → R x (record c { state = state }) → R x c) where
    unhanded : (i n : ℕ) (state : Fate) (x : C) (c : Cluster M) → R x (handed_back i n state c) → R x c
    unhanded i n state x c = at (c.context == i && c.number == n && is_out c.state)
      where
        at : (b : Bool) → R x (cond b (record c { state = state }) c) → R x c
        at true h = blind x state c h
        at false h = h

    unmapped : (i n : ℕ) (state : Fate) (xs : List C) (cs : List (Cluster M)) → AllZip R xs (map (handed_back i n state) cs)
        → AllZip R xs cs
    unmapped i n state [] [] h = tt
    unmapped i n state [] (c ∷ cs) h = absurd h
    unmapped i n state (x ∷ xs) [] h = absurd h
    unmapped i n state (x ∷ xs) (c ∷ cs) h = (unhanded i n state x c h.0, unmapped i n state xs cs h.1)

    zip-front : (xs : List C) (cs ds : List (Cluster M)) → AllZip R xs (cs ++ ds) → AllZip R (take (length cs) xs) cs
    zip-front xs [] ds h = tt
    zip-front [] (c ∷ cs) ds h = absurd h
    zip-front (x ∷ xs) (c ∷ cs) ds h = (h.0, zip-front xs cs ds h.1)

    zip-all : (xs : List C) (cs : List (Cluster M)) → AllZip R xs cs → AllZip R (take (length cs) xs) cs
    zip-all xs cs h =
        let long = AllZip-long R xs cs h in
        subst (λ (l : List C). AllZip R l cs) (sym (take_all (length cs) xs (omega (arith, long)))) h

    before_kind : (xs : List C) (cs : List (Cluster M)) (i : ℕ) (k : EntryKind M) → AllZip R xs (after_kind cs i k)
        → AllZip R (take (length cs) xs) cs
    before_kind xs cs i (entry.Committed n start len meta) h =
        zip-front xs cs (record { context = i; number = n; start = start; len = len; meta = meta; state = Out } ∷ []) h
    before_kind xs cs i (entry.Reserved n start len meta) h =
        zip-front xs cs (record { context = i; number = n; start = start; len = len; meta = meta; state = Out } ∷ []) h
    before_kind xs cs i (entry.Published ns) h = zip-all xs cs h
    before_kind xs cs i (entry.Settled n bytes) h = zip-all xs cs (unmapped i n (Settled bytes) xs cs h)
    before_kind xs cs i (entry.Spoiled n faults) h = zip-all xs cs (unmapped i n (Spoiled faults) xs cs h)
    before_kind xs cs i (entry.Faulted faults) h = zip-all xs cs h

    pub before_all : (xs : List C) (cs : List (Cluster M)) (es : List (Entry M))
        → AllZip R (take (length (fold after_entry cs es)) xs) (fold after_entry cs es) → AllZip R (take (length cs) xs) cs
    before_all xs cs [] h = h
    before_all xs cs (e ∷ es) h =
        let mid = before_all xs (after_entry cs e) es h in
        subst (λ (l : List C). AllZip R l cs) (take-less (length cs) (length (after_entry cs e)) xs (grows cs e.context e.kind))
        (before_kind (take (length (after_entry cs e)) xs) cs e.context e.kind mid)

    -- a beginning of a history has fronts where the history has them
    pub fronts_before : (xss : List (List C)) (history : List (Entry M)) (begun : List (Entry M)) → IsPrefix begun history
        → ((i : ℕ) → AllZip R (take (length (ranges_of (mine_of history i))) (slice_index_or xss i [])) (ranges_of (mine_of history i)))
        → AreFronts xss (ranges_of begun)
    fronts_before xss history begun p each i =
        let more = p.0 in
        let mine : mine_of history i ≡ mine_of begun i ++ mine_of more i =
        ap (λ (l : List (Entry M)). mine_of l i) (sym p.1) ∙ filter-append (λ (e : Entry M). e.context == i) begun more in
        let all : ranges_of (mine_of history i) ≡ fold after_entry (ranges_of (mine_of begun i)) (mine_of more i) =
        ap (λ (l : List (Entry M)). ranges_of l) mine ∙ fold-append after_entry [] (mine_of begun i) (mine_of more i) in
        subst (λ (l : List (Cluster M)). AllZip R (take (length l) (slice_index_or xss i [])) l) (sym (own-fold [] begun i))
        (before_all (slice_index_or xss i []) (ranges_of (mine_of begun i)) (mine_of more i)
        (subst (λ (l : List (Cluster M)). AllZip R (take (length l) (slice_index_or xss i [])) l) all (each i)))

module _ {M : Type 0} where
  -- a history has no fewer ranges than a beginning of it
  grows_all : (cs : List (Cluster M)) (es : List (Entry M)) → length cs ≤ length (fold after_entry cs es)
  grows_all cs [] = omega arith
  grows_all cs (e ∷ es) = omega (arith, grows cs e.context e.kind, grows_all (after_entry cs e) es)

  pub fewer_before : (history begun : List (Entry M)) (i : ℕ) → IsPrefix begun history
      → length (own_of (ranges_of begun) i) ≤ length (ranges_of (mine_of history i))
  fewer_before history begun i p =
      let more = p.0 in
      let mine : mine_of history i ≡ mine_of begun i ++ mine_of more i =
      ap (λ (l : List (Entry M)). mine_of l i) (sym p.1) ∙ filter-append (λ (e : Entry M). e.context == i) begun more in
      let all : ranges_of (mine_of history i) ≡ fold after_entry (ranges_of (mine_of begun i)) (mine_of more i) =
      ap (λ (l : List (Entry M)). ranges_of l) mine ∙ fold-append after_entry [] (mine_of begun i) (mine_of more i) in
      let here : length (own_of (ranges_of begun) i) ≡ length (ranges_of (mine_of begun i)) =
      ap (λ (l : List (Cluster M)). length l) (own-fold [] begun i) in
      let there : length (ranges_of (mine_of history i)) ≡ length (fold after_entry (ranges_of (mine_of begun i)) (mine_of more i)) =
      ap (λ (l : List (Cluster M)). length l) all in
      omega (arith, here, there, grows_all (ranges_of (mine_of begun i)) (mine_of more i))

  idle_kind : (cs : List (Cluster M)) (i : ℕ) (k : EntryKind M) → IsFaulted k → after_kind cs i k ≡ cs
  idle_kind cs i (entry.Committed n start len meta) h = absurd h
  idle_kind cs i (entry.Reserved n start len meta) h = absurd h
  idle_kind cs i (entry.Published ns) h = absurd h
  idle_kind cs i (entry.Settled n bytes) h = absurd h
  idle_kind cs i (entry.Spoiled n faults) h = absurd h
  idle_kind cs i (entry.Faulted faults) h = refl

  pub idle_ranges : (cs : List (Cluster M)) (es : List (Entry M)) → IsIdle es → fold after_entry cs es ≡ cs
  idle_ranges cs [] h = refl
  idle_ranges cs (e ∷ es) h =
      ap (λ (l : List (Cluster M)). fold after_entry l es) (idle_kind cs e.context e.kind h.0) ∙ idle_ranges cs es h.1
