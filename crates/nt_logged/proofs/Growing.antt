-- A log with one step more.
use Rattle.std.proofs.Common.{◌≡◌, ◌∙◌, ap, sym, refl, subst, ℕ, zero, suc, ◌+◌, ◌==◌, ◌&&◌, Bool, true, false, cond, List, [], ◌∷◌, ◌++◌}
use Rattle.std.proofs.Common.{length, map}
use Rattle.std.proofs.Common.{filter, Option, Some, None, append_assoc, append-nil, arith}
use Rattle.std.specs.Prelude.{slice_get, Contains}
use Rattle.std.specs.List.{fold}
use Rattle.std.proofs.lemmas.List.{map-append}
use Rattle.std.proofs.lemmas.List.Elements.{filter-append}
use Rattle.nt_outside.specs.Log.{Step, Append, FailedAppend, Reserve, Settle}
use Rattle.nt_machine.specs.declared.entry.Entry.{Entry}
use Rattle.nt_machine.specs.declared.entry.EntryKind.{EntryKind}
use Rattle.nt_machine.specs.declared.entry.EntryKind.TheVariants as entry
use Rattle.nt_machine.specs.History.{Cluster, Fate, Out, Settled, Spoiled, is_out, handed_back, after_entry, after_kind, ranges_of}
use Rattle.nt_machine.specs.Legal.{IsOut, AreAsLong, spans_of}
use Rattle.nt_machine.specs.Spans.{Span}
use Rattle.nt_machine.specs.Told.{DiskStep, ReserveRange, settle_at, disk_steps_of, log_after, log_of}
use Rattle.nt_machine.proofs.Legality.{ranges_of-snoc}
use Rattle.nt_logged.specs.Steps.{logged_step, steps_of_history}
use Rattle.nt_lists.specs.Parts.{Part}
use Rattle.nt_logged.specs.Tails.{is_of_range, end_after_step, end_after_steps, with_reserved, with_all_reserved, IsTailStep, IsTail}
use Rattle.nt_logged.specs.Logs.{appended_by, appends_in, torn_by, torn_in, IsLogOf}

pub tail-snoc : (end : ℕ) (spans : List Span) (steps : List Step) (s : Step) → IsTail end spans steps
    → IsTailStep (end_after_steps end steps) (with_all_reserved spans steps) s → IsTail end spans (steps ++ s ∷ [])
tail-snoc end spans [] s is next = (next, tt)
tail-snoc end spans (step ∷ steps) s is next =
    (is.0, tail-snoc (end_after_step end step) (with_reserved spans step) steps s is.1 next)

pub ends-snoc : (end : ℕ) (steps : List Step) (s : Step)
    → end_after_steps end (steps ++ s ∷ []) ≡ end_after_step (end_after_steps end steps) s
ends-snoc end [] s = refl
ends-snoc end (step ∷ steps) s = ends-snoc (end_after_step end step) steps s

reserved-snoc : (spans : List Span) (steps : List Step) (s : Step)
    → with_all_reserved spans (steps ++ s ∷ []) ≡ with_reserved (with_all_reserved spans steps) s
reserved-snoc spans [] s = refl
reserved-snoc spans (step ∷ steps) s = reserved-snoc (with_reserved spans step) steps s

appends-snoc : (end : ℕ) (steps : List Step) (s : Step)
    → appends_in end (steps ++ s ∷ []) ≡ appends_in end steps ++ appended_by (end_after_steps end steps) s
appends-snoc end [] s = append-nil (appended_by end s)
appends-snoc end (step ∷ steps) s =
    ap (λ (l : List Part). appended_by end step ++ l) (appends-snoc (end_after_step end step) steps s)
    ∙ sym (append_assoc (appended_by end step) (appends_in (end_after_step end step) steps)
    (appended_by (end_after_steps (end_after_step end step) steps) s))

torn-snoc : (steps : List Step) (s : Step) → torn_in (steps ++ s ∷ []) ≡ torn_in steps ++ torn_by s
torn-snoc [] s = append-nil (torn_by s)
torn-snoc (step ∷ steps) s =
    ap (λ (l : List ℕ). torn_by step ++ l) (torn-snoc steps s) ∙ sym (append_assoc (torn_by step) (torn_in steps) (torn_by s))

module _ {M : Type 0} where
  log-snoc : (ranges : List (Cluster M)) (history : List (Entry M)) (e : Entry M)
      → log_after ranges (history ++ e ∷ []) ≡ log_after ranges history ++ disk_steps_of (fold after_entry ranges history) e.kind
  log-snoc ranges [] e = append-nil (disk_steps_of ranges e.kind)
  log-snoc ranges (d ∷ history) e =
      ap (λ (l : List DiskStep). disk_steps_of ranges d.kind ++ l) (log-snoc (after_entry ranges d) history e)
      ∙ sym (append_assoc (disk_steps_of ranges d.kind) (log_after (after_entry ranges d) history)
      (disk_steps_of (fold after_entry (after_entry ranges d) history) e.kind))

  steps-snoc : (history : List (Entry M)) (e : Entry M)
      → steps_of_history (history ++ e ∷ []) ≡ steps_of_history history ++ map logged_step (disk_steps_of (ranges_of history) e.kind)
  steps-snoc history e =
      ap (λ (l : List DiskStep). map logged_step l) (log-snoc [] history e)
      ∙ map-append logged_step (log_of history) (disk_steps_of (ranges_of history) e.kind)

  -- handing back moves no range
  spans-back : (i n : ℕ) (state : Fate) (cs : List (Cluster M)) → spans_of (map (handed_back i n state) cs) ≡ spans_of cs
  spans-back i n state [] = refl
  spans-back i n state (c ∷ cs) =
      ap (λ (s : Span). s ∷ spans_of (map (handed_back i n state) cs)) (at (c.context == i && c.number == n && is_out c.state))
      ∙ ap (λ (l : List Span). record { start = c.start; len = c.len } ∷ l) (spans-back i n state cs)
    where
      at : (b : Bool)
          → ◌≡◌ {A = Span} (record {
            start = (cond b (record c { state = state }) c).start;
            len = (cond b (record c { state = state }) c).len;
          }) (record { start = c.start; len = c.len })
      at true = refl
      at false = refl

  span-at : (cs : List (Cluster M)) (n : ℕ) (c : Cluster M) → slice_get cs n ≡ Some c
      → Contains (spans_of cs) (record { start = c.start; len = c.len })
  span-at [] n c at = cc
  span-at (d ∷ cs) zero c at =
      let is : d ≡ c = cc in
      (0, omega arith, ap (λ (e : Cluster M). record { start = e.start; len = e.len }) is)
  span-at (d ∷ cs) (suc n) c at =
      let later = span-at cs n c at in (suc later.0, omega (arith, later.1), later.2)

  module _ (place end : ℕ) (history : List (Entry M)) (lists : List Part) (torn : List ℕ) (steps : List Step)
      (is : IsLogOf place end history lists torn steps) where
    -- one step more, and what it is to the history and the lists
    more : (s : Step) (end' : ℕ) (history' : List (Entry M)) (lists' : List Part) (torn' : List ℕ)
        → IsTailStep end (spans_of (ranges_of history)) s → end_after_step end s ≡ end'
        → steps_of_history history ++ filter is_of_range (s ∷ []) ≡ steps_of_history history'
        → with_reserved (spans_of (ranges_of history)) s ≡ spans_of (ranges_of history')
        → lists ++ appended_by end s ≡ lists' → torn ++ torn_by s ≡ torn'
        → IsLogOf place end' history' lists' torn' (steps ++ s ∷ [])
    more s end' history' lists' torn' next ends ranges reserved parts tears =
        record {
          ranges = filter-append is_of_range steps (s ∷ [])
              ∙ (ap (λ (l : List Step). l ++ filter is_of_range (s ∷ [])) is.ranges ∙ ranges);
          tail = tail-snoc place [] steps s is.tail
              (subst (λ (e : ℕ). IsTailStep e (with_all_reserved [] steps) s) (sym is.ends)
              (subst (λ (l : List Span). IsTailStep end l s) (sym is.reserved) next));
          reserved = reserved-snoc [] steps s ∙ (ap (λ (l : List Span). with_reserved l s) is.reserved ∙ reserved);
          ends = ends-snoc place steps s ∙ (ap (λ (e : ℕ). end_after_step e s) is.ends ∙ ends);
          lists_are = appends-snoc place steps s
              ∙ (ap (λ (l : List Part). l ++ appended_by (end_after_steps place steps) s) is.lists_are
              ∙ (ap (λ (e : ℕ). lists ++ appended_by e s) is.ends ∙ parts));
          torn_is = torn-snoc steps s ∙ (ap (λ (l : List ℕ). l ++ torn_by s) is.torn_is ∙ tears);
        }

    -- a range is reserved at the end
    reserve : (c : Cluster M) (k : EntryKind M) → c.start ≡ end
        → disk_steps_of (ranges_of history) k ≡ ReserveRange c.start c.len ∷ []
        → after_kind (ranges_of history) c.context k ≡ ranges_of history ++ c ∷ []
        → IsLogOf place (end + c.len) (history ++ record { context = c.context; kind = k } ∷ []) lists torn
        (steps ++ Reserve c.start c.len ∷ [])
    reserve c k at_end logs after =
        let e : Entry M = record { context = c.context; kind = k } in
        more (Reserve c.start c.len) (end + c.len) (history ++ e ∷ []) lists torn at_end refl
        (ap (λ (l : List DiskStep). steps_of_history history ++ map logged_step l) (sym logs) ∙ sym (steps-snoc history e))
        (sym (ap (λ (l : List (Cluster M)). spans_of l) (ranges_of-snoc history e ∙ after)
        ∙ map-append (λ (c : Cluster M). record { start = c.start; len = c.len }) (ranges_of history) (c ∷ [])))
        (append-nil lists) (append-nil torn)

    pub log-commit : (i n len : ℕ) (meta : M)
        → IsLogOf place (end + len) (history ++ record { context = i; kind = entry.Committed n end len meta } ∷ []) lists torn
        (steps ++ Reserve end len ∷ [])
    log-commit i n len meta = reserve (record { context = i; number = n; start = end; len = len; meta = meta; state = Out })
        (entry.Committed n end len meta) refl refl refl

    pub log-reserve : (i n len : ℕ) (meta : M)
        → IsLogOf place (end + len) (history ++ record { context = i; kind = entry.Reserved n end len meta } ∷ []) lists torn
        (steps ++ Reserve end len ∷ [])
    log-reserve i n len meta = reserve (record { context = i; number = n; start = end; len = len; meta = meta; state = Out })
        (entry.Reserved n end len meta) refl refl refl

    back : (i n : ℕ) (k : EntryKind M) (fate : Fate) (bytes : Option (List ℕ)) → (out : IsOut (ranges_of history) i n)
        → AreAsLong bytes out.cluster.len
        → disk_steps_of (ranges_of history) k ≡ settle_at (slice_get (ranges_of history) n) bytes
        → after_kind (ranges_of history) i k ≡ map (handed_back i n fate) (ranges_of history)
        → IsLogOf place end (history ++ record { context = i; kind = k } ∷ []) lists torn
        (steps ++ Settle out.cluster.start out.cluster.len bytes ∷ [])
    back i n k fate bytes out long logs after =
        let e : Entry M = record { context = i; kind = k } in
        let c = out.cluster in
        let one : map logged_step (disk_steps_of (ranges_of history) k) ≡ Settle c.start c.len bytes ∷ [] =
        ap (λ (l : List DiskStep). map logged_step l) logs ∙ ap (λ (o : Option (Cluster M)). map logged_step (settle_at o bytes)) out.at in
        more (Settle c.start c.len bytes) end (history ++ e ∷ []) lists torn (span-at (ranges_of history) n c out.at, long) refl
        (ap (λ (l : List Step). steps_of_history history ++ l) (sym one) ∙ sym (steps-snoc history e))
        (sym (ap (λ (l : List (Cluster M)). spans_of l) (ranges_of-snoc history e ∙ after) ∙ spans-back i n fate (ranges_of history)))
        (append-nil lists) (append-nil torn)

    pub log-settle : (i n : ℕ) (bytes : Option (List ℕ)) → (out : IsOut (ranges_of history) i n) → AreAsLong bytes out.cluster.len
        → IsLogOf place end (history ++ record { context = i; kind = entry.Settled n bytes } ∷ []) lists torn
        (steps ++ Settle out.cluster.start out.cluster.len bytes ∷ [])
    log-settle i n bytes out long = back i n (entry.Settled n bytes) (Settled bytes) bytes out long refl refl

    pub log-spoil : (i n faults : ℕ) → (out : IsOut (ranges_of history) i n)
        → IsLogOf place end (history ++ record { context = i; kind = entry.Spoiled n faults } ∷ []) lists torn
        (steps ++ Settle out.cluster.start out.cluster.len None ∷ [])
    log-spoil i n faults out = back i n (entry.Spoiled n faults) (Spoiled faults) None out tt refl refl

    -- nothing happens on the disk
    silent : (i : ℕ) (k : EntryKind M) → disk_steps_of (ranges_of history) k ≡ []
        → after_kind (ranges_of history) i k ≡ ranges_of history
        → IsLogOf place end (history ++ record { context = i; kind = k } ∷ []) lists torn steps
    silent i k none_logged stay =
        let e : Entry M = record { context = i; kind = k } in
        record {
          ranges = is.ranges ∙ (sym (append-nil (steps_of_history history))
              ∙ (ap (λ (l : List DiskStep). steps_of_history history ++ map logged_step l) (sym none_logged)
              ∙ sym (steps-snoc history e)));
          tail = is.tail;
          reserved = is.reserved ∙ sym (ap (λ (l : List (Cluster M)). spans_of l) (ranges_of-snoc history e ∙ stay));
          ends = is.ends;
          lists_are = is.lists_are;
          torn_is = is.torn_is;
        }

    pub log-fault : (i faults : ℕ)
        → IsLogOf place end (history ++ record { context = i; kind = entry.Faulted faults } ∷ []) lists torn steps
    log-fault i faults = silent i (entry.Faulted faults) refl refl

    pub log-publish : (i : ℕ) (ns : List ℕ)
        → IsLogOf place end (history ++ record { context = i; kind = entry.Published ns } ∷ []) lists torn steps
    log-publish i ns = silent i (entry.Published ns) refl refl

    pub log-list : (bytes : List ℕ)
        → IsLogOf place (end + length bytes) history (lists ++ record { place = end; bytes = bytes } ∷ []) torn (steps ++ Append bytes ∷ [])
    log-list bytes =
        more (Append bytes) (end + length bytes) history (lists ++ record { place = end; bytes = bytes } ∷ []) torn tt refl
        (append-nil (steps_of_history history)) refl refl (append-nil torn)

    pub log-tear : (len : ℕ) → IsLogOf place (end + len) history lists (torn ++ len ∷ []) (steps ++ FailedAppend len ∷ [])
    log-tear len =
        more (FailedAppend len) (end + len) history lists (torn ++ len ∷ []) tt refl (append-nil (steps_of_history history)) refl
        (append-nil lists) refl

  pub log-fresh : (place : ℕ) → IsLogOf {M = M} place place [] [] [] []
  log-fresh place = record { ranges = refl; tail = tt; reserved = refl; ends = refl; lists_are = refl; torn_is = refl }
