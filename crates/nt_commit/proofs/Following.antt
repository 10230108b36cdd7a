-- A disk that follows a history, and one entry more.
use Rattle.std.proofs.Common.{◌≡◌, ◌∙◌, ap, sym, refl, ℕ, zero, suc, ◌+◌, ◌-◌, ◌^◌, ◌<◌, ◌≤◌, false, List, [], ◌∷◌, ◌++◌, length, map}
use Rattle.std.proofs.Common.{Option, Some, arith, subst, append_assoc, append-nil, inl, inr}
use Rattle.std.specs.Prelude.{◌⊎◌}
use Rattle.std.specs.List.{AllByRecursion}
use Rattle.nt_lists.specs.Parts.{Part}
use Rattle.nt_outside.specs.Log.{Step, Append, FailedAppend, Settle}
use Rattle.nt_outside.specs.Held.{Held, appended, Becomes, BecomesSome, WhereHeld}
use Rattle.nt_outside.specs.Range.{without}
use Rattle.nt_outside.specs.Disk.{DiskState}
use Rattle.nt_outside.specs.Faults.{Rose}
use Rattle.nt_machine.specs.declared.entry.Entry.{Entry}
use Rattle.nt_machine.specs.declared.entry.EntryKind.{EntryKind}
use Rattle.nt_machine.specs.declared.entry.EntryKind.TheVariants as entry
use Rattle.nt_machine.specs.Faults.{HasRisen, HasFaults, faults_after, FaultsRise}
use Rattle.nt_machine.specs.History.{Cluster, Fate, is_out, handed_back, after_kind, after_entry, ranges_of}
use Rattle.nt_machine.specs.Legal.{IsKindAllowed, IsAllowed, IsOut, ranges_end}
use Rattle.nt_machine.proofs.Histories.{AllByRecursion-append}
use Rattle.nt_machine.proofs.Legality.{IsLegalAfter-snoc, ranges_of-snoc, ranges_of-back, IsApart-fold}
use Rattle.nt_commit.specs.Locked.{HasToldBytes, place_of, ranges_out, IsDiskAfter}
use Rattle.nt_logged.specs.Logs.{IsLogOf}
use Rattle.nt_logged.proofs.Growing.{log-fault, log-list, log-tear}
use Rattle.nt_commit.proofs.Handed.{IsRoomy, ranges_out-set, roomy-handed_back, bytes-handed_back}

-- a count that rose has risen
pub risen : (before now : ℕ) → before ≤ now → Rose before now → now < 2 ^ 64 → HasRisen before now
risen before now later rose fits = (later, which (now - before) refl)
  where
    which : (n : ℕ) → now - before ≡ n → (before < now) ⊎ (now ≡ 2 ^ 64 - 1)
    which zero is = inr (omega (arith, is, later, rose, fits))
    which (suc n) is = inl (omega (arith, is))

later_risen : (a b c : ℕ) → a ≤ b → HasRisen b c → HasRisen a c
later_risen a b c first h = at h.0 h.1
  where
    at : b ≤ c → (b < c) ⊎ (c ≡ 2 ^ 64 - 1) → HasRisen a c
    at second (inl less) = (omega arith, inl (omega arith))
    at second (inr top) = (omega arith, inr top)

module _ {M : Type 0} where
  -- where a disk told what it held, these ranges have bytes where they are settled
  abbrev HaveBytes : DiskState → List (Cluster M) → Type 0
  HaveBytes begun cs = WhereHeld begun.held (λ h. AllByRecursion (λ (c : Cluster M). HasToldBytes c.state) cs)

  rise_first : (least count : ℕ) (k : EntryKind M) → least ≤ count → (HasFaults k → HasRisen count (faults_after count k))
      → (HasFaults k → HasRisen least (faults_after least k)) × (faults_after least k ≤ faults_after count k)
  rise_first least count (entry.Committed n start len meta) le rises = (λ h. absurd h, le)
  rise_first least count (entry.Reserved n start len meta) le rises = (λ h. absurd h, le)
  rise_first least count (entry.Published ns) le rises = (λ h. absurd h, le)
  rise_first least count (entry.Settled n bytes) le rises = (λ h. absurd h, le)
  rise_first least count (entry.Spoiled n faults) le rises = (λ h. later_risen least count faults le (rises h), omega arith)
  rise_first least count (entry.Faulted faults) le rises = (λ h. later_risen least count faults le (rises h), omega arith)

  FaultsRise-snoc : (least : ℕ) (es : List (Entry M)) (count : ℕ) (e : Entry M) → FaultsRise least es count
      → (HasFaults e.kind → HasRisen count (faults_after count e.kind))
      → FaultsRise least (es ++ e ∷ []) (faults_after count e.kind)
  FaultsRise-snoc least [] count e rise rises = rise_first least count e.kind rise rises
  FaultsRise-snoc least (d ∷ ds) count e rise rises = (rise.0, FaultsRise-snoc (faults_after least d.kind) ds count e rise.1 rises)

  FaultsRise-later : (least : ℕ) (es : List (Entry M)) (count later : ℕ) → FaultsRise least es count → count ≤ later
      → FaultsRise least es later
  FaultsRise-later least [] count later rise le = omega (arith, rise, le)
  FaultsRise-later least (d ∷ ds) count later rise le = (rise.0, FaultsRise-later (faults_after least d.kind) ds count later rise.1 le)

  module _ (begun d d' : DiskState) (contexts : ℕ) (history : List (Entry M)) (lists : List Part) (torn : List ℕ)
      (follows : IsDiskAfter begun d contexts history lists torn) where
    -- one entry more, and what it does to the disk
    pub IsDiskAfter-snoc : (e : Entry M) (new : List Step) → IsAllowed begun.end (ranges_of history) e → e.context ≤ contexts
        → AllByRecursion IsRoomy (after_entry (ranges_of history) e) → HaveBytes begun (after_entry (ranges_of history) e)
        → d'.out ≡ ranges_out (after_entry (ranges_of history) e)
        → ((h : Held) → begun.held ≡ Some h → BecomesSome d.held d'.held (λ h h'. h'.log ≡ h.log ++ new))
        → ((steps : List Step) → IsLogOf begun.end d.end history lists torn steps
        → IsLogOf begun.end d'.end (history ++ e ∷ []) lists torn (steps ++ new))
        → (HasFaults e.kind → HasRisen d.faults (faults_after d.faults e.kind)) → faults_after d.faults e.kind ≤ d'.faults
        → IsDiskAfter begun d' contexts (history ++ e ∷ []) lists torn
    IsDiskAfter-snoc e new allowed context roomy have out log grown rises later =
        let ranges = sym (ranges_of-snoc history e) in
        record {
          legal = IsLegalAfter-snoc begun.end [] history e follows.legal allowed;
          contexts_are = AllByRecursion-append (λ (e : Entry M). e.context ≤ contexts) history (e ∷ []) follows.contexts_are (context, tt);
          roomy = subst (λ (l : List (Cluster M)). AllByRecursion IsRoomy l) ranges roomy;
          out = out ∙ ap (λ (l : List (Cluster M)). ranges_out l) ranges;
          log = λ h is.
              let first = follows.log h is in
              let second = log h is first.0 first.1 in (
                second.0,
                second.1,
                record {
                  steps = first.2.steps ++ new;
                  log = second.2 ∙ (ap (λ (l : List Step). l ++ new) first.2.log ∙ append_assoc h.log first.2.steps new);
                  is_log = grown first.2.steps first.2.is_log;
                },
              );
          told = λ h is. subst (λ (l : List (Cluster M)). AllByRecursion (λ (c : Cluster M). HasToldBytes c.state) l) ranges (have h is);
          rise = FaultsRise-later begun.faults (history ++ e ∷ []) (faults_after d.faults e.kind) d'.faults
              (FaultsRise-snoc begun.faults history d.faults e follows.rise rises) later;
        }

    -- the same history over a disk that only counted faults
    pub IsDiskAfter-same : d'.held ≡ d.held → d'.end ≡ d.end → d'.out ≡ d.out → d.faults ≤ d'.faults
        → IsDiskAfter begun d' contexts history lists torn
    IsDiskAfter-same held end out later =
        record {
          legal = follows.legal;
          contexts_are = follows.contexts_are;
          roomy = follows.roomy;
          out = out ∙ follows.out;
          log = λ h is.
              let first = follows.log h is in (
                first.0,
                held ∙ first.1,
                record {
                  steps = first.2.steps;
                  log = first.2.log;
                  is_log = subst (λ (e : ℕ). IsLogOf begun.end e history lists torn first.2.steps) (sym end) first.2.is_log;
                },
              );
          told = follows.told;
          rise = FaultsRise-later begun.faults history d.faults d'.faults follows.rise later;
        }

    -- the same history over a disk to which a page list was appended, or a part of one
    IsDiskAfter-more : (lists' : List Part) (torn' : List ℕ) (new : Step)
        → BecomesSome d.held d'.held (λ h h'. h'.log ≡ h.log ++ new ∷ [])
        → ((steps : List Step) → IsLogOf begun.end d.end history lists torn steps
        → IsLogOf begun.end d'.end history lists' torn' (steps ++ new ∷ []))
        → d'.out ≡ d.out → d.faults ≤ d'.faults
        → IsDiskAfter begun d' contexts history lists' torn'
    IsDiskAfter-more lists' torn' new log grown out later =
        record {
          legal = follows.legal;
          contexts_are = follows.contexts_are;
          roomy = follows.roomy;
          out = out ∙ follows.out;
          log = λ h is.
              let first = follows.log h is in
              let second = log first.0 first.1 in (
                second.0,
                second.1,
                record {
                  steps = first.2.steps ++ new ∷ [];
                  log = second.2 ∙ (ap (λ (l : List Step). l ++ new ∷ []) first.2.log ∙ append_assoc h.log first.2.steps (new ∷ []));
                  is_log = grown first.2.steps first.2.is_log;
                },
              );
          told = follows.told;
          rise = FaultsRise-later begun.faults history d.faults d'.faults follows.rise later;
        }

    -- a page list was appended
    pub IsDiskAfter-list : (bytes : List ℕ) → Becomes d.held d'.held (appended bytes) → d'.end ≡ d.end + length bytes → d'.out ≡ d.out
        → d.faults ≤ d'.faults
        → IsDiskAfter begun d' contexts history (lists ++ record { place = d.end; bytes = bytes } ∷ []) torn
    IsDiskAfter-list bytes log end out later =
        IsDiskAfter-more (lists ++ record { place = d.end; bytes = bytes } ∷ []) torn (Append bytes)
        (λ h is. (appended bytes h, log h is, refl))
        (λ steps was.
        subst (λ (to : ℕ). IsLogOf begun.end to history (lists ++ record { place = d.end; bytes = bytes } ∷ []) torn
        (steps ++ Append bytes ∷ [])) (sym end) (log-list begun.end d.end history lists torn steps was bytes)) out later

    -- and one failed, of which so many bytes are left
    pub IsDiskAfter-tear : (len : ℕ) → BecomesSome d.held d'.held (λ h h'. h'.log ≡ h.log ++ FailedAppend len ∷ []) → d'.end ≡ d.end + len
        → d'.out ≡ d.out → d.faults ≤ d'.faults
        → IsDiskAfter begun d' contexts history lists (torn ++ len ∷ [])
    IsDiskAfter-tear len log end out later =
        IsDiskAfter-more lists (torn ++ len ∷ []) (FailedAppend len) log
        (λ steps was.
        subst (λ (to : ℕ). IsLogOf begun.end to history lists (torn ++ len ∷ []) (steps ++ FailedAppend len ∷ [])) (sym end)
        (log-tear begun.end d.end history lists torn steps was len)) out later

    -- a range was handed back
    pub IsDiskAfter-back : (i n : ℕ) (fate : Fate) (k : EntryKind M) (bytes : Option (List ℕ)) → (is : IsOut (ranges_of history) i n)
        → is_out fate ≡ false → WhereHeld begun.held (λ h. HasToldBytes fate)
        → after_kind (ranges_of history) i k ≡ map (handed_back i n fate) (ranges_of history)
        → ((steps : List Step) → IsLogOf begun.end d.end history lists torn steps
        → IsLogOf begun.end d.end (history ++ record { context = i; kind = k } ∷ []) lists torn
        (steps ++ Settle is.cluster.start is.cluster.len bytes ∷ []))
        → IsKindAllowed begun.end (ranges_of history) i k → i ≤ contexts
        → ((h : Held) → begun.held ≡ Some h → BecomesSome d.held d'.held (λ h h'. h'.log ≡ h.log
        ++ Settle is.cluster.start is.cluster.len bytes ∷ []))
        → d'.end ≡ d.end → d'.out ≡ without (place_of is.cluster) d.out
        → (HasFaults k → HasRisen d.faults (faults_after d.faults k)) → faults_after d.faults k ≤ d'.faults
        → IsDiskAfter begun d' contexts (history ++ record { context = i; kind = k } ∷ []) lists torn
    IsDiskAfter-back i n fate k bytes is back has after grown allowed context log end out rises later =
        let old = ranges_of history in
        let apart = IsApart-fold begun.end [] history follows.legal (omega arith) in
        let put = ranges_of-back begun.end i n fate history follows.legal is in
        let e : Entry M = record { context = i; kind = k } in
        let step = Settle is.cluster.start is.cluster.len bytes in
        IsDiskAfter-snoc e (step ∷ []) allowed context
        (subst (λ (l : List (Cluster M)). AllByRecursion IsRoomy l) (sym after) (roomy-handed_back i n fate old follows.roomy))
        (λ h told. subst (λ (l : List (Cluster M)). AllByRecursion (λ (c : Cluster M). HasToldBytes c.state) l) (sym after)
        (bytes-handed_back i n fate old (has h told) (follows.told h told)))
        (out ∙ (ap (λ (l : List _). without (place_of is.cluster) l) follows.out
        ∙ (sym (ranges_out-set begun.end (ranges_end begun.end old) old n is.cluster fate apart follows.roomy is.at is.out back)
        ∙ (ap (λ (l : List (Cluster M)). ranges_out l) (sym put) ∙ ap (λ (l : List (Cluster M)). ranges_out l) (sym after)))))
        log
        (λ steps was.
        subst (λ (to : ℕ). IsLogOf begun.end to (history ++ e ∷ []) lists torn (steps ++ step ∷ [])) (sym end) (grown steps was))
        rises later

    -- the disk failed, and that was entered
    pub IsDiskAfter-fault : (i faults : ℕ) → i ≤ contexts → d'.held ≡ d.held → d'.end ≡ d.end → d'.out ≡ d.out
        → HasRisen d.faults faults → faults ≤ d'.faults
        → IsDiskAfter begun d' contexts (history ++ record { context = i; kind = entry.Faulted faults } ∷ []) lists torn
    IsDiskAfter-fault i faults context held end out rises later =
        let e : Entry M = record { context = i; kind = entry.Faulted faults } in
        IsDiskAfter-snoc e [] tt context follows.roomy follows.told (out ∙ follows.out)
        (λ begins told h is. (h, held ∙ is, sym (append-nil h.log)))
        (λ steps was.
        subst (λ (to : ℕ). IsLogOf begun.end to (history ++ e ∷ []) lists torn (steps ++ [])) (sym end)
        (subst (λ (l : List Step). IsLogOf begun.end d.end (history ++ e ∷ []) lists torn l) (sym (append-nil steps))
        (log-fault begun.end d.end history lists torn steps was i faults)))
        (λ h. rises) later
