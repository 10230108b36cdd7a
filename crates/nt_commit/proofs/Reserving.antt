-- A disk that follows a history, and a range that is reserved; or ranges that are published.
use Rattle.std.proofs.Common.{◌≡◌, ◌∙◌, ap, sym, refl, ℕ, ◌+◌, ◌<◌, ◌≤◌, Bool, true, false, List, [], ◌∷◌, ◌++◌, length, arith, subst}
use Rattle.std.proofs.Common.{append-nil}
use Rattle.std.specs.List.{AllByRecursion}
use Rattle.nt_lists.specs.Parts.{Part}
use Rattle.nt_outside.specs.declared.range.Range.{Range}
use Rattle.nt_outside.specs.Log.{Step, Reserve}
use Rattle.nt_outside.specs.Held.{BecomesSome, IsReserved}
use Rattle.nt_outside.specs.Disk.{DiskState}
use Rattle.nt_machine.specs.declared.entry.Entry.{Entry}
use Rattle.nt_machine.specs.declared.entry.EntryKind.{EntryKind}
use Rattle.nt_machine.specs.declared.entry.EntryKind.TheVariants as entry
use Rattle.nt_machine.specs.Faults.{HasFaults, faults_after}
use Rattle.nt_machine.specs.History.{Cluster, Out, after_kind, ranges_of, reserving}
use Rattle.nt_machine.specs.Legal.{IsKindAllowed, ranges_end, end_after}
use Rattle.nt_machine.proofs.Histories.{AllByRecursion-append}
use Rattle.nt_book.specs.declared.limits.Limits.{Limits}
use Rattle.nt_book.specs.declared.meta.ClusterMeta.{ClusterMeta}
use Rattle.nt_commit.specs.Locked.{HasToldBytes, IsDiskAfter, ranges_out}
use Rattle.nt_logged.specs.Logs.{IsLogOf}
use Rattle.nt_logged.proofs.Growing.{log-commit, log-publish, log-reserve}
use Rattle.nt_commit.proofs.Following.{IsDiskAfter-snoc}
use Rattle.nt_commit.proofs.Handed.{IsRoomy, ranges_out-snoc, reserved_len}
use Rattle.nt_commit.proofs.Short.{ReservesWithin}

-- how many bytes the range has
pub reserving-len : (staged : Bool) (n start : ℕ) (meta : ClusterMeta) → reserved_len (reserving staged n start meta.len meta) ≡ meta.len
reserving-len true n start meta = refl
reserving-len false n start meta = refl

-- the limits let it be
pub reserving-within : (limits : Limits) (begin : ℕ) (cs : List (Cluster ClusterMeta)) (staged : Bool) (n start : ℕ) (meta : ClusterMeta)
    → (meta.len ≤ limits.range) × (end_after begin cs + meta.len ≤ limits.file) × (length cs < limits.clusters)
    → ReservesWithin limits begin cs (reserving staged n start meta.len meta)
reserving-within limits begin cs true n start meta low = low
reserving-within limits begin cs false n start meta low = low

module _ {M : Type 0} (begun d d' : DiskState) (contexts : ℕ) (history : List (Entry M)) (lists : List Part) (torn : List ℕ)
    (follows : IsDiskAfter begun d contexts history lists torn) where
  abbrev old : List (Cluster M)
  old = ranges_of history

  module _ (i n start len : ℕ) (meta : M) where
    abbrev range : Cluster M
    range = record { context = i; number = n; start = start; len = len; meta = meta; state = Out }

    -- an entry by which a range is reserved
    reserve-as : (k : EntryKind M) → after_kind old i k ≡ old ++ range ∷ [] → IsKindAllowed begun.end old i k → (HasFaults k → ⊥)
        → faults_after d.faults k ≡ d.faults
        → ((steps : List Step) → IsLogOf begun.end d.end history lists torn steps
        → IsLogOf begun.end (d.end + len) (history ++ record { context = i; kind = k } ∷ []) lists torn (steps ++ Reserve start len ∷ []))
        → d.end ≡ start → i ≤ contexts → 42 ≤ len
        → BecomesSome d.held d'.held (IsReserved d.end len) → d'.end ≡ d.end + len → d'.out ≡ d.out ++ record {
          start = d.end;
          len = len;
        } ∷ [] → d.faults ≤ d'.faults
        → IsDiskAfter begun d' contexts (history ++ record { context = i; kind = k } ∷ []) lists torn
    reserve-as k after allowed sound still grown from context roomy log end out later =
        let e : Entry M = record { context = i; kind = k } in
        IsDiskAfter-snoc begun d d' contexts history lists torn follows e (Reserve start len ∷ []) allowed context
        (subst (λ (l : List (Cluster M)). AllByRecursion IsRoomy l) (sym after)
        (AllByRecursion-append IsRoomy old (range ∷ []) follows.roomy (roomy, tt)))
        (λ h is. subst (λ (l : List (Cluster M)). AllByRecursion (λ (c : Cluster M). HasToldBytes c.state) l) (sym after)
        (AllByRecursion-append (λ (c : Cluster M). HasToldBytes c.state) old (range ∷ []) (follows.told h is) (tt, tt)))
        (out ∙ (ap (λ (l : List Range). l ++ record { start = d.end; len = len } ∷ []) follows.out
        ∙ (ap (λ (m : ℕ). ranges_out old ++ record { start = m; len = len } ∷ []) from
        ∙ (sym (ranges_out-snoc old range refl) ∙ ap (λ (l : List (Cluster M)). ranges_out l) (sym after)))))
        (λ begins told h is. let next = log h is in (next.0, next.1, next.2.log ∙ ap (λ (m : ℕ). h.log ++ Reserve m len ∷ []) from))
        (λ steps was. subst (λ (to : ℕ). IsLogOf begun.end to (history ++ e ∷ []) lists torn (steps ++ Reserve start len ∷ [])) (sym end)
        (grown steps was))
        (λ h. absurd (sound h)) (omega (arith, still, later))

    -- a range was reserved for a cluster, as a staged one or not
    pub IsDiskAfter-reserve : (staged : Bool) → n ≡ length old → ranges_end begun.end old ≤ start → d.end ≡ start → i ≤ contexts → 42 ≤ len
        → BecomesSome d.held d'.held (IsReserved d.end len) → d'.end ≡ d.end + len → d'.out ≡ d.out ++ record {
          start = d.end;
          len = len;
        } ∷ [] → d.faults ≤ d'.faults
        → IsDiskAfter begun d' contexts (history ++ record { context = i; kind = reserving staged n start len meta } ∷ []) lists torn
    IsDiskAfter-reserve true number behind from = reserve-as (entry.Reserved n start len meta) refl (number, behind) (λ h. h) refl
        (λ steps was.
        subst (λ (m : ℕ). IsLogOf begun.end (d.end + len)
        (history ++ record { context = i; kind = entry.Reserved n m len meta } ∷ []) lists torn (steps ++ Reserve m len ∷ [])) from
        (log-reserve begun.end d.end history lists torn steps was i n len meta)) from
    IsDiskAfter-reserve false number behind from = reserve-as (entry.Committed n start len meta) refl (number, behind) (λ h. h) refl
        (λ steps was.
        subst (λ (m : ℕ). IsLogOf begun.end (d.end + len)
        (history ++ record { context = i; kind = entry.Committed n m len meta } ∷ []) lists torn (steps ++ Reserve m len ∷ [])) from
        (log-commit begun.end d.end history lists torn steps was i n len meta)) from

  -- a context published its ranges, and nothing was done to the disk
  pub IsDiskAfter-publish : (i : ℕ) (ns : List ℕ) → IsKindAllowed begun.end old i (entry.Published ns) → i ≤ contexts
      → IsDiskAfter begun d contexts (history ++ record { context = i; kind = entry.Published ns } ∷ []) lists torn
  IsDiskAfter-publish i ns allowed context =
      let e : Entry M = record { context = i; kind = entry.Published ns } in
      IsDiskAfter-snoc begun d d contexts history lists torn follows e [] allowed context follows.roomy follows.told follows.out
      (λ begins told h is. (h, is, sym (append-nil h.log)))
      (λ steps was. subst (λ (l : List Step). IsLogOf begun.end d.end (history ++ e ∷ []) lists torn l) (sym (append-nil steps))
      (log-publish begun.end d.end history lists torn steps was i ns))
      (λ h. absurd h) (omega arith)
