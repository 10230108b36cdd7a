-- What a history may gain is what the machine may do.
use Rattle.std.proofs.Common.{◌≡◌, ◌≢◌, ℕ, zero, suc, ◌≤◌, inl, inr, ◌==◌, Bool, true, false, cond, List, [], ◌∷◌, ◌++◌, map, Some}
use Rattle.std.proofs.Common.{refl, sym, ap, subst, ◌∙◌, arith}
use Rattle.std.specs.Prelude.{slice_get, slice_set}
use Rattle.std.specs.List.{AllByRecursion, AllZip, fold}
use Rattle.std.proofs.lemmas.Bool.{eqb-false}
use Rattle.nt_machine.specs.declared.entry.Entry.{Entry}
use Rattle.nt_machine.specs.declared.entry.EntryKind.{EntryKind}
use Rattle.nt_machine.specs.declared.entry.EntryKind.TheVariants as entry
use Rattle.nt_machine.specs.History.{Fate, Cluster, ranges_of, own_of, after_entry, handed_back, is_out}
use Rattle.nt_machine.specs.History as history
use Rattle.nt_machine.specs.Legal.{IsLegal, IsAllowed, IsKindAllowed, IsOut, IsFilledFate, IsFilledRange}
use Rattle.nt_machine.specs.Staging.{IsStagedKind}
use Rattle.nt_machine.specs.Machine.{Mark, Out, Settled, Spoiled, Content, Empty, Bytes, Failed, ChunkRange, MachineState, ContextStep}
use Rattle.nt_machine.specs.Machine.{Settle, with_changed, mark_of, after_context_step, IsRangeOut, IsRunFrom}
use Rattle.nt_machine.specs.Entering.{mark_of_fate, steps_of_entry, IsHandedBackAs, IsWriteInto, IsRangeOf, HasRanges, IsNextOf}
use Rattle.nt_machine.proofs.Legality.{ranges_end-back, ranges_end-snoc, ranges_of-back}

-- what is handed back as it was reserved has no content
out-empty : (content : Content) → mark_of content ≡ Out → content ≡ Empty
out-empty Empty e = refl
out-empty (Bytes bytes) e = absurd cc
out-empty Failed e = absurd cc

-- what is handed back otherwise has some
some-content : (content : Content) (mark : Mark) → mark_of content ≡ mark → mark ≢ Out → content ≢ Empty
some-content content mark e not_out is = not_out (sym e ∙ ap mark_of is)

-- the ranges of a context are settled
abbrev AreOwnSettled : ℕ → List ChunkRange → Type 0
AreOwnSettled i rs = AllByRecursion (λ (r : ChunkRange). r.context ≡ i → r.mark ≡ Settled) rs

-- what is filled is settled
settled-filled : (state : Fate) → IsFilledFate state → mark_of_fate state ≡ Settled
settled-filled history.Out is = absurd is
settled-filled (history.Settled bytes) is = refl
settled-filled (history.Spoiled faults) is = absurd is

module _ {M : Type 0} where
  -- the range at the place of a cluster
  range-at : (rs : List ChunkRange) (cs : List (Cluster M)) (n : ℕ) (c : Cluster M) → AllZip IsRangeOf rs cs → slice_get cs n ≡ Some c
      → (r : ChunkRange) × (slice_get rs n ≡ Some r) × IsRangeOf r c
  range-at [] [] n c h at = absurd cc
  range-at [] (d ∷ cs) n c h at = absurd h
  range-at (r ∷ rs) [] n c h at = absurd h
  range-at (r ∷ rs) (d ∷ cs) zero c h at =
      let same : d ≡ c = cc in
      (r, refl, subst (IsRangeOf r) same h.0)
  range-at (r ∷ rs) (d ∷ cs) (suc n) c h at = range-at rs cs n c h.1 at

  -- one range and its cluster change
  zip-changed : (rs : List ChunkRange) (cs : List (Cluster M)) (n : ℕ) (f : ChunkRange → ChunkRange) (c new : Cluster M)
      → AllZip IsRangeOf rs cs → slice_get cs n ≡ Some c
      → ((r : ChunkRange) → slice_get rs n ≡ Some r → IsRangeOf r c → IsRangeOf (f r) new)
      → AllZip IsRangeOf (with_changed n f rs) (slice_set cs n new)
  zip-changed [] [] n f c new h at step = absurd cc
  zip-changed [] (d ∷ cs) n f c new h at step = absurd h
  zip-changed (r ∷ rs) [] n f c new h at step = absurd h
  zip-changed (r ∷ rs) (d ∷ cs) zero f c new h at step =
      let same : d ≡ c = cc in
      (step r refl (subst (IsRangeOf r) same h.0), h.1)
  zip-changed (r ∷ rs) (d ∷ cs) (suc n) f c new h at step = (h.0, zip-changed rs cs n f c new h.1 at step)

  -- the content of a range is no part of its cluster
  zip-content : (n : ℕ) (content : ChunkRange → Content) (rs : List ChunkRange) (cs : List (Cluster M)) → AllZip IsRangeOf rs cs
      → AllZip IsRangeOf (with_changed n (λ x. record x { content = content x }) rs) cs
  zip-content n content [] cs h = h
  zip-content n content (r ∷ rs) [] h = absurd h
  zip-content zero content (r ∷ rs) (c ∷ cs) h =
      (record { context = h.0.context; start = h.0.start; len = h.0.len; mark = h.0.mark }, h.1)
  zip-content (suc n) content (r ∷ rs) (c ∷ cs) h = (h.0, zip-content n content rs cs h.1)

  zip-snoc : (rs : List ChunkRange) (cs : List (Cluster M)) (r : ChunkRange) (c : Cluster M) → AllZip IsRangeOf rs cs
      → IsRangeOf r c → AllZip IsRangeOf (rs ++ r ∷ []) (cs ++ c ∷ [])
  zip-snoc [] [] r c h is = (is, tt)
  zip-snoc [] (d ∷ cs) r c h is = absurd h
  zip-snoc (x ∷ rs) [] r c h is = absurd h
  zip-snoc (x ∷ rs) (d ∷ cs) r c h is = (h.0, zip-snoc rs cs r c h.1 is)

  -- where a context has filled its ranges, the machine's are settled
  zip-filled : (rs : List ChunkRange) (cs : List (Cluster M)) (i : ℕ) → AllZip IsRangeOf rs cs
      → AllByRecursion IsFilledRange (own_of cs i) → AreOwnSettled i rs
  zip-filled [] cs i h filled = tt
  zip-filled (r ∷ rs) [] i h filled = absurd h
  zip-filled (r ∷ rs) (c ∷ cs) i h filled = at (c.context == i) refl filled (λ all. zip-filled rs cs i h.1 all)
    where
      at : (b : Bool) → c.context == i ≡ b → AllByRecursion IsFilledRange (cond b (c ∷ own_of cs i) (own_of cs i))
          → (AllByRecursion IsFilledRange (own_of cs i) → AreOwnSettled i rs) → AreOwnSettled i (r ∷ rs)
      at true e all rest = (λ own. h.0.mark ∙ settled-filled c.state all.0, rest all.1)
      at false e all rest = (λ own. absurd (eqb-false c.context i e (sym h.0.context ∙ own)), rest all)

  module _ {C : Type 0} (staged : Bool) (chunks : List (List C)) (blob : ℕ → ℕ → ℕ → List ℕ) (place : ℕ) (past : List (Entry M))
      (ok : IsLegal place past) (s : MachineState) (h : HasRanges place s (ranges_of past)) where
    abbrev After : Entry M → Type 0
    After e =
        IsRunFrom staged chunks blob s (steps_of_entry e)
        × HasRanges place (fold (after_context_step staged blob) s (steps_of_entry e)) (after_entry (ranges_of past) e)

    -- a range that is out is handed back
    back : (i n : ℕ) (state : Fate) (is : IsOut (ranges_of past) i n) → IsHandedBackAs s n (mark_of_fate state)
        → HasRanges place (record s { ranges = with_changed n (λ x. record x { mark = mark_of x.content }) s.ranges })
        (map (handed_back i n state) (ranges_of past))
    back i n state is marks = record {
      end = h.end ∙ sym (ranges_end-back place i n state (ranges_of past));
      running = h.running;
      ranges =
          let done : ChunkRange → ChunkRange = λ r. record r { mark = mark_of r.content } in
          subst (AllZip IsRangeOf (with_changed n done s.ranges)) (sym (ranges_of-back place i n state past ok is))
          (zip-changed s.ranges (ranges_of past) n done is.cluster (record is.cluster { state = state }) h.ranges is.at
          (λ r at range. record { context = range.context; start = range.start; len = range.len; mark = marks r at }));
    }

    out_range : (i n : ℕ) → IsOut (ranges_of past) i n → IsRangeOut s.ranges i n
    out_range i n is =
        let found = range-at s.ranges (ranges_of past) n is.cluster h.ranges is.at in
        record { range = found.0; at = found.1; own = found.2.context ∙ is.own; out = found.2.mark ∙ ap mark_of_fate is.out }

    -- handing back is allowed where something was written, or failed to be
    settle_step : (i n : ℕ) (mark : Mark) → IsOut (ranges_of past) i n → IsHandedBackAs s n mark → mark ≢ Out
        → IsRunFrom staged chunks blob s (Settle i n ∷ [])
    settle_step i n mark is marks not_out =
        let out = out_range i n is in
        (h.running, (out, some-content out.range.content mark (marks out.range out.at) not_out), tt)

    out_empty : (i n : ℕ) → IsOut (ranges_of past) i n → IsHandedBackAs s n Out
        → (out : IsRangeOut s.ranges i n) × (out.range.content ≡ Empty)
    out_empty i n is empty =
        let out = out_range i n is in
        (out, out-empty out.range.content (empty out.range out.at))

    -- what is written changes no range
    rewritten : (n : ℕ) (content : ChunkRange → Content)
        → HasRanges place (record s { ranges = with_changed n (λ x. record x { content = content x }) s.ranges }) (ranges_of past)
    rewritten n content = record { end = h.end; running = h.running; ranges = zip-content n content s.ranges (ranges_of past) h.ranges }

    abbrev Is_written : ContextStep → Type 0
    Is_written x = IsRunFrom staged chunks blob s (x ∷ []) × HasRanges place (after_context_step staged blob s x) (ranges_of past)

    -- a write into a range that is out is allowed, and the history's ranges stay
    pub written : (i n : ℕ) (step : ContextStep) → IsOut (ranges_of past) i n → IsHandedBackAs s n Out → IsWriteInto i n step
        → IsRunFrom staged chunks blob s (step ∷ []) × HasRanges place (after_context_step staged blob s step) (ranges_of past)
    written i n step is empty (inl write) = subst Is_written (sym write) ((h.running, out_empty i n is empty, tt), rewritten n _)
    written i n step is empty (inr fail) = subst Is_written (sym fail) ((h.running, out_empty i n is empty, tt), rewritten n _)

    -- a range is reserved, for a cluster or a staged one
    reserved : (i n start len : ℕ) (meta : M) → IsKindAllowed place (ranges_of past) i (entry.Reserved n start len meta)
        → IsNextOf chunks blob s i (entry.Reserved n start len meta)
        → After (record { context = i; kind = entry.Reserved n start len meta })
    reserved i n start len meta allowed next =
        let end : s.end ≤ start = omega (arith, h.end, allowed.1) in
        let c : Cluster M = record { context = i; number = n; start = start; len = len; meta = meta; state = history.Out } in (
          (h.running, (next.0, next.1, next.2, end), tt),
          record {
            end = omega (arith, next.3, ranges_end-snoc place (ranges_of past) c);
            running = h.running;
            ranges = zip-snoc s.ranges (ranges_of past) _ c h.ranges
                (record { context = refl; start = refl; len = next.3; mark = refl });
          },
        )

    pub entered : (e : Entry M) → IsStagedKind staged e.kind → IsAllowed place (ranges_of past) e
        → IsNextOf chunks blob s e.context e.kind → After e
    entered e = by_kind e.context e.kind
      where
        by_kind : (i : ℕ) (kind : EntryKind M) → IsStagedKind staged kind → IsKindAllowed place (ranges_of past) i kind
            → IsNextOf chunks blob s i kind → After (record { context = i; kind = kind })
        by_kind i (entry.Committed n start len meta) is allowed next = reserved i n start len meta allowed next
        by_kind i (entry.Reserved n start len meta) is allowed next = reserved i n start len meta allowed next
        by_kind i (entry.Published ns) is allowed next = (
          (h.running, (is, next.0, next.1, zip-filled s.ranges (ranges_of past) i h.ranges allowed.1), tt),
          record { end = h.end; running = h.running; ranges = h.ranges },
        )
        by_kind i (entry.Settled n bytes) is allowed next =
            (settle_step i n Settled allowed.0 next (λ e. absurd cc), back i n (history.Settled bytes) allowed.0 next)
        by_kind i (entry.Spoiled n faults) is allowed next =
            (settle_step i n Spoiled allowed next (λ e. absurd cc), back i n (history.Spoiled faults) allowed next)
        by_kind i (entry.Faulted faults) is allowed next = (tt, h)
