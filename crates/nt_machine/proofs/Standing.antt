-- What is handed back is never covered again.
use Rattle.std.proofs.Common.{◌≡◌, ℕ, zero, suc, ◌+◌, ◌≤◌, false, List, [], ◌∷◌, ◌++◌, map, Option, Some, None, refl, sym, ap}
use Rattle.std.proofs.Common.{◌∙◌, subst, arith, ◌⊎◌, inl, inr}
use Rattle.std.specs.Prelude.{slice_get}
use Rattle.std.specs.Option.{option_map}
use Rattle.std.specs.List.{AllByRecursion}
use Rattle.std.proofs.lemmas.Bool.{false≢true}
use Rattle.std.proofs.lemmas.Option.{slice_get-map}
use Rattle.nt_machine.specs.declared.entry.Entry.{Entry}
use Rattle.nt_machine.specs.declared.entry.EntryKind.{EntryKind}
use Rattle.nt_machine.specs.declared.entry.EntryKind.TheVariants as entry
use Rattle.nt_machine.specs.History.{Fate, Settled, Spoiled, Cluster, handed_back, after_kind, after_entry, is_out}
use Rattle.nt_machine.specs.Legal.{ranges_end, IsOut, IsKindAllowed, IsLegalAfter, IsLegal}
use Rattle.nt_machine.specs.Spans.{Span}
use Rattle.nt_machine.specs.Told.{ReserveRange, span_of, settle_at, disk_steps_of, log_after, log_of, IsApartFrom, IsFrom, StaysSettled}
use Rattle.nt_machine.proofs.Histories.{AllByRecursion-append, IsBack, handed_back-back}
use Rattle.nt_machine.proofs.Legality.{IsApart, IsApart-after_entry, IsNumbered, IsNumbered-after_entry, IsNumbered-at, handed_back-here}

slice_get-append : {X : Type 0} (xs ys : List X) (n : ℕ) (x : X) → slice_get xs n ≡ Some x → slice_get (xs ++ ys) n ≡ Some x
slice_get-append [] ys n x at = cc
slice_get-append (z ∷ xs) ys zero x at = at
slice_get-append (z ∷ xs) ys (suc n) x at = slice_get-append xs ys n x at

module _ {M : Type 0} where
  -- ranges that lie apart end at their beginning or behind
  apart-end : (p : ℕ) (cs : List (Cluster M)) → IsApart p cs → p ≤ ranges_end p cs
  apart-end p [] h = h
  apart-end p (c ∷ cs) h = let rest = apart-end (c.start + c.len) cs h.1 in let first = h.0 in omega (arith, rest, first)

  -- a range lies between the beginning and the end
  IsPlaced-at : (p : ℕ) (cs : List (Cluster M)) (n : ℕ) (c : Cluster M) → IsApart p cs → slice_get cs n ≡ Some c
      → (p ≤ c.start) × (c.start + c.len ≤ ranges_end p cs)
  IsPlaced-at p [] n c h at = cc
  IsPlaced-at p (d ∷ cs) zero c h at =
      let same : d ≡ c = cc in
      let start : d.start ≡ c.start = ap (λ (e : Cluster M). e.start) same in
      let len : d.len ≡ c.len = ap (λ (e : Cluster M). e.len) same in
      let first = h.0 in
      let end = apart-end (d.start + d.len) cs h.1 in
      (omega (arith, start, first), omega (arith, start, len, end))
  IsPlaced-at p (d ∷ cs) (suc n) c h at =
      let rest = IsPlaced-at (d.start + d.len) cs n c h.1 at in
      let first = h.0 in
      (omega (arith, first, rest.0), rest.1)

  -- two ranges lie apart
  IsPlaced-apart : (p : ℕ) (cs : List (Cluster M)) (m n : ℕ) (d c : Cluster M) → IsApart p cs → slice_get cs m ≡ Some d
      → slice_get cs n ≡ Some c → (m ≡ n → ⊥)
      → (c.start + c.len ≤ d.start) ⊎ (d.start + d.len ≤ c.start)
  IsPlaced-apart p [] m n d c h is at differ = cc
  IsPlaced-apart p (x ∷ cs) zero zero d c h is at differ = absurd (differ refl)
  IsPlaced-apart p (x ∷ cs) zero (suc n) d c h is at differ =
      let same : x ≡ d = cc in
      let start : x.start ≡ d.start = ap (λ (e : Cluster M). e.start) same in
      let len : x.len ≡ d.len = ap (λ (e : Cluster M). e.len) same in
      let later = IsPlaced-at (x.start + x.len) cs n c h.1 at in
      inr (omega (arith, start, len, later.0))
  IsPlaced-apart p (x ∷ cs) (suc m) zero d c h is at differ =
      let same : x ≡ c = cc in
      let start : x.start ≡ c.start = ap (λ (e : Cluster M). e.start) same in
      let len : x.len ≡ c.len = ap (λ (e : Cluster M). e.len) same in
      let later = IsPlaced-at (x.start + x.len) cs m d h.1 is in
      inl (omega (arith, start, len, later.0))
  IsPlaced-apart p (x ∷ cs) (suc m) (suc n) d c h is at differ =
      IsPlaced-apart (x.start + x.len) cs m n d c h.1 is at (λ same. differ (ap suc same))

  module _ (place : ℕ) where
    record IsState (cs : List (Cluster M)) : Type 0 where
      numbered : IsNumbered 0 cs
      placed : IsApart place cs

    IsState-after_entry : (cs : List (Cluster M)) (i : ℕ) (k : EntryKind M) → IsKindAllowed place cs i k → IsState cs
        → IsState (after_kind cs i k)
    IsState-after_entry cs i k ok h = record {
      numbered = IsNumbered-after_entry place cs i k ok h.numbered;
      placed = IsApart-after_entry place cs i k ok h.placed;
    }

    abbrev range_of : Cluster M → Span
    range_of c = record { start = c.start; len = c.len }

    settle_apart : (cs : List (Cluster M)) (i m n : ℕ) (c : Cluster M) (bytes : Option (List ℕ)) → IsState cs → (is : IsOut cs i m)
        → slice_get cs n ≡ Some c → IsBack c
        → AllByRecursion (IsApartFrom (range_of c)) (settle_at (slice_get cs m) bytes)
    settle_apart cs i m n c bytes h is at back =
        let differ : m ≡ n → ⊥ = λ same. clash (ap (λ (k : ℕ). slice_get cs k) same) in
        subst (λ (o : Option (Cluster M)). AllByRecursion (IsApartFrom (range_of c)) (settle_at o bytes)) (sym is.at)
        (IsPlaced-apart place cs m n is.cluster c h.placed is.at at differ, tt)
      where
        clash : slice_get cs m ≡ slice_get cs n → ⊥
        clash same =
            let one : is.cluster ≡ c = cc in
            false≢true (sym back ∙ ap (λ (e : Cluster M). is_out e.state) (sym one) ∙ ap is_out is.out)

    reserve_apart : (cs : List (Cluster M)) (start len n : ℕ) (c : Cluster M) → ranges_end place cs ≤ start → IsState cs
        → slice_get cs n ≡ Some c → AllByRecursion (IsApartFrom (range_of c)) (ReserveRange start len ∷ [])
    reserve_apart cs start len n c after h at =
        let inside = IsPlaced-at place cs n c h.placed at in
        (inl (omega (arith, inside.1, after)), tt)

    -- what an entry logs is apart from what is back, and that stays as it is
    kind_apart : (cs : List (Cluster M)) (i : ℕ) (k : EntryKind M) (n : ℕ) (c : Cluster M) → IsKindAllowed place cs i k → IsState cs
        → slice_get cs n ≡ Some c → IsBack c
        → AllByRecursion (IsApartFrom (range_of c)) (disk_steps_of cs k)
    kind_apart cs i (entry.Committed m start len meta) n c ok h at back = reserve_apart cs start len n c ok.1 h at
    kind_apart cs i (entry.Reserved m start len meta) n c ok h at back = reserve_apart cs start len n c ok.1 h at
    kind_apart cs i (entry.Published ns) n c ok h at back = tt
    kind_apart cs i (entry.Settled m bytes) n c ok h at back = settle_apart cs i m n c bytes h ok.0 at back
    kind_apart cs i (entry.Spoiled m faults) n c ok h at back = settle_apart cs i m n c None h ok at back
    kind_apart cs i (entry.Faulted faults) n c ok h at back = tt

    stays : (cs : List (Cluster M)) (i : ℕ) (k : EntryKind M) (n : ℕ) (c : Cluster M) → slice_get cs n ≡ Some c → IsBack c
        → slice_get (after_kind cs i k) n ≡ Some c
    stays cs i (entry.Committed m start len meta) n c at back = slice_get-append cs _ n c at
    stays cs i (entry.Reserved m start len meta) n c at back = slice_get-append cs _ n c at
    stays cs i (entry.Published ns) n c at back = at
    stays cs i (entry.Settled m bytes) n c at back = slice_get-map (handed_back i m (Settled bytes)) cs n
        ∙ (ap (option_map (handed_back i m (Settled bytes))) at ∙ ap Some (handed_back-back i m (Settled bytes) c back))
    stays cs i (entry.Spoiled m faults) n c at back = slice_get-map (handed_back i m (Spoiled faults)) cs n
        ∙ (ap (option_map (handed_back i m (Spoiled faults))) at ∙ ap Some (handed_back-back i m (Spoiled faults) c back))
    stays cs i (entry.Faulted faults) n c at back = at

    later_apart : (cs : List (Cluster M)) (history : List (Entry M)) (n : ℕ) (c : Cluster M) → IsLegalAfter place cs history
        → IsState cs → slice_get cs n ≡ Some c → IsBack c
        → AllByRecursion (IsApartFrom (range_of c)) (log_after cs history)
    later_apart cs [] n c ok h at back = tt
    later_apart cs (e ∷ es) n c ok h at back =
        AllByRecursion-append (IsApartFrom (range_of c)) (disk_steps_of cs e.kind) (log_after (after_entry cs e) es)
        (kind_apart cs e.context e.kind n c ok.0 h at back)
        (later_apart (after_entry cs e) es n c ok.1 (IsState-after_entry cs e.context e.kind ok.0 h)
        (stays cs e.context e.kind n c at back) back)

    settle_stands : (cs : List (Cluster M)) (i n : ℕ) (bytes : Option (List ℕ)) (state : Fate) (history : List (Entry M))
        → is_out state ≡ false → IsState cs → (is : IsOut cs i n)
        → IsLegalAfter place (map (handed_back i n state) cs) history → IsState (map (handed_back i n state) cs)
        → StaysSettled (log_after (map (handed_back i n state) cs) history)
        → StaysSettled (settle_at (slice_get cs n) bytes ++ log_after (map (handed_back i n state) cs) history)
    settle_stands cs i n bytes state history back h is ok next rest =
        let c : Cluster M = record is.cluster { state = state } in
        let number : is.cluster.number ≡ n = IsNumbered-at 0 cs n is.cluster h.numbered is.at ∙ omega arith in
        let at : slice_get (map (handed_back i n state) cs) n ≡ Some c =
        slice_get-map (handed_back i n state) cs n ∙ (ap (option_map (handed_back i n state)) is.at
        ∙ ap Some (handed_back-here i n state is.cluster is.own number is.out)) in
        subst (λ (o : Option (Cluster M)). StaysSettled (settle_at o bytes ++ log_after (map (handed_back i n state) cs) history))
        (sym is.at)
        (later_apart (map (handed_back i n state) cs) history n c ok next at back, rest)

    kind_stands : (cs : List (Cluster M)) (i : ℕ) (k : EntryKind M) (history : List (Entry M)) → IsKindAllowed place cs i k
        → IsState cs → IsLegalAfter place (after_kind cs i k) history
        → IsState (after_kind cs i k) → StaysSettled (log_after (after_kind cs i k) history) → StaysSettled (disk_steps_of cs k
        ++ log_after (after_kind cs i k) history)
    kind_stands cs i (entry.Committed n start len meta) history ok h legal next rest = rest
    kind_stands cs i (entry.Reserved n start len meta) history ok h legal next rest = rest
    kind_stands cs i (entry.Published ns) history ok h legal next rest = rest
    kind_stands cs i (entry.Settled n bytes) history ok h legal next rest =
        settle_stands cs i n bytes (Settled bytes) history refl h ok.0 legal next rest
    kind_stands cs i (entry.Spoiled n faults) history ok h legal next rest =
        settle_stands cs i n None (Spoiled faults) history refl h ok legal next rest
    kind_stands cs i (entry.Faulted faults) history ok h legal next rest = rest

    stands_after : (cs : List (Cluster M)) (history : List (Entry M)) → IsLegalAfter place cs history → IsState cs
        → StaysSettled (log_after cs history)
    stands_after cs [] ok h = tt
    stands_after cs (e ∷ es) ok h =
        let next = IsState-after_entry cs e.context e.kind ok.0 h in
        kind_stands cs e.context e.kind es ok.0 h ok.1 next (stands_after (after_entry cs e) es ok.1 next)

    settle_from : (cs : List (Cluster M)) (i n : ℕ) (bytes : Option (List ℕ)) → IsState cs → IsOut cs i n
        → IsFrom place (settle_at (slice_get cs n) bytes)
    settle_from cs i n bytes h is =
        subst (λ (o : Option (Cluster M)). IsFrom place (settle_at o bytes)) (sym is.at)
        ((IsPlaced-at place cs n is.cluster h.placed is.at).0, tt)

    reserve_from : (cs : List (Cluster M)) (start len : ℕ) → ranges_end place cs ≤ start → IsState cs
        → IsFrom place (ReserveRange start len ∷ [])
    reserve_from cs start len after h = let begins = apart-end place cs h.placed in (omega (arith, after, begins), tt)

    kind_from : (cs : List (Cluster M)) (i : ℕ) (k : EntryKind M) → IsKindAllowed place cs i k → IsState cs
        → IsFrom place (disk_steps_of cs k)
    kind_from cs i (entry.Committed n start len meta) ok h = reserve_from cs start len ok.1 h
    kind_from cs i (entry.Reserved n start len meta) ok h = reserve_from cs start len ok.1 h
    kind_from cs i (entry.Published ns) ok h = tt
    kind_from cs i (entry.Settled n bytes) ok h = settle_from cs i n bytes h ok.0
    kind_from cs i (entry.Spoiled n faults) ok h = settle_from cs i n None h ok
    kind_from cs i (entry.Faulted faults) ok h = tt

    from_after : (cs : List (Cluster M)) (history : List (Entry M)) → IsLegalAfter place cs history → IsState cs
        → IsFrom place (log_after cs history)
    from_after cs [] ok h = tt
    from_after cs (e ∷ es) ok h =
        AllByRecursion-append (λ step. place ≤ (span_of step).start) (disk_steps_of cs e.kind) (log_after (after_entry cs e) es)
        (kind_from cs e.context e.kind ok.0 h)
        (from_after (after_entry cs e) es ok.1 (IsState-after_entry cs e.context e.kind ok.0 h))

    pub stands : (history : List (Entry M)) → IsLegal place history → StaysSettled (log_of history)
    stands history ok = stands_after [] history ok (record { numbered = tt; placed = omega arith })

    pub starts : (history : List (Entry M)) → IsLegal place history → IsFrom place (log_of history)
    starts history ok = from_after [] history ok (record { numbered = tt; placed = omega arith })
