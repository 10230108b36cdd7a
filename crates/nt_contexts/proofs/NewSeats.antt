-- Seats that are fresh: they may leave, have their numbers and nothing else.
use Rattle.std.proofs.Common.{◌≡◌, ℕ, zero, suc, ◌+◌, ◌<◌, List, [], ◌∷◌, ◌++◌, length, map}
use Rattle.std.proofs.Common.{Option}
use Rattle.std.proofs.Common.{sym, ap, ◌∙◌, subst, arith}
use Rattle.std.specs.Prelude.{slice_index_or, All}
use Rattle.std.specs.List.{AllByRecursion}
use Rattle.nt_outside.specs.Source.{SourceState}
use Rattle.nt_turn.specs.Pass.{TurnState}
use Rattle.nt_machine.specs.declared.entry.Entry.{Entry}
use Rattle.nt_book.specs.declared.meta.ClusterMeta.{ClusterMeta}
use Rattle.nt_commit.specs.declared.locked.Birth.{Birth}
use Rattle.nt_commit.specs.Holds.{HasNoneOut}
use Rattle.nt_event.specs.Lines.{LinesState}
use Rattle.nt_contexts.specs.declared.seats.Seat.{Seat}
use Rattle.nt_contexts.specs.Seats.{DiskPass, IsFreshSeat}
use Rattle.nt_contexts.specs.Contexts.{AreLater}
use Rattle.nt_contexts.specs.Seating.{kept_by, all_kept, seat_sources, CanLeave, IsNewSeat, AreNewSeats}
use Rattle.nt_contexts.proofs.Kept.{AreNumbered}

module _ {D S P : Type 0} (committer : TurnState (Birth D)) (source : S → SourceState) where
  -- fresh seats may leave, have their numbers and nothing else
  pub new-can-leave : (i : ℕ) (states : List SourceState) (seats : List (Seat S (DiskPass D) P))
      → AreNewSeats committer source i states seats → AllByRecursion (CanLeave committer) seats
  new-can-leave i [] [] new = tt
  new-can-leave i [] (x ∷ xs) new = absurd new
  new-can-leave i (s ∷ states) [] new = absurd new
  new-can-leave i (s ∷ states) (x ∷ xs) new =
      let f = new.0.fresh in (
        record {
          pass = f.pass;
          there = f.there;
          of = f.of;
          none_out = subst (λ (l : List (Entry ClusterMeta)). HasNoneOut l) (sym
              f.unused) tt;
        },
        new-can-leave (i + 1) states xs new.1,
      )

  pub fresh-can-leave : (seats : List (Seat S (DiskPass D) P)) → All (IsFreshSeat source committer) seats
      → AllByRecursion (CanLeave committer) seats
  fresh-can-leave [] fresh = tt
  fresh-can-leave (x ∷ xs) fresh =
      let f : IsFreshSeat source committer x = fresh 0 x (omega arith) in (
        record {
          pass = f.pass;
          there = f.there;
          of = f.of;
          none_out = subst (λ (l : List (Entry ClusterMeta)). HasNoneOut l) (sym f.unused) tt;
        },
        fresh-can-leave xs (λ k d less. fresh (suc k) d (omega (arith, less))),
      )

  fresh-kept : (i : ℕ) (s : SourceState) (seat : Seat S (DiskPass D) P) → IsNewSeat committer source i s seat → kept_by seat.pass ≡ (i, [])
  fresh-kept i s seat new =
      ap (λ (o : Option (DiskPass D)). kept_by o) new.fresh.there ∙ (ap (λ (n : ℕ). (n, new.fresh.pass.own)) new.number_is
      ∙ ap (λ (l : List (Entry ClusterMeta)). (i, l)) new.fresh.unused)

  pub new-numbered : (i : ℕ) (states : List SourceState) (seats : List (Seat S (DiskPass D) P))
      → AreNewSeats committer source i states seats → AreNumbered i (all_kept seats)
  new-numbered i [] [] new = tt
  new-numbered i [] (x ∷ xs) new = absurd new
  new-numbered i (s ∷ states) [] new = absurd new
  new-numbered i (s ∷ states) (x ∷ xs) new = (
    ap (λ (k : ℕ × List (Entry ClusterMeta)). k.0) (fresh-kept i s x new.0),
    new-numbered (i +
        1) states xs new.1,
  )

  pub new-none_out : (i : ℕ) (states : List SourceState) (seats : List (Seat S (DiskPass D) P))
      → AreNewSeats committer source i states seats
      → AllByRecursion (λ (k : ℕ × List (Entry ClusterMeta)). HasNoneOut k.1) (all_kept seats)
  new-none_out i [] [] new = tt
  new-none_out i [] (x ∷ xs) new = absurd new
  new-none_out i (s ∷ states) [] new = absurd new
  new-none_out i (s ∷ states) (x ∷ xs) new =
      (subst (λ (k : ℕ × List (Entry ClusterMeta)). HasNoneOut k.1) (sym (fresh-kept i s x new.0)) tt, new-none_out (i + 1) states xs new.1)

  pub new-later : (i : ℕ) (states others : List SourceState) (seats : List (Seat S (DiskPass D) P)) (rest : List S)
      → AreNewSeats committer source i states seats
      → AreLater others (map source rest) → AreLater (states ++ others) (map source (seat_sources seats ++ rest))
  new-later i [] others [] rest new after = after
  new-later i [] others (x ∷ xs) rest new after = absurd new
  new-later i (s ∷ states) others [] rest new after = absurd new
  new-later i (s ∷ states) others (x ∷ xs) rest new after =
      let faults : (source x.lines.source).faults ≡ s.faults = ap (λ (l : LinesState). l.faults) new.0.begun in
      (omega (arith, faults), new-later (i + 1) states others xs rest new.1 after)

  -- seats by their places
  pub new-fresh : (i : ℕ) (states : List SourceState) (seats : List (Seat S (DiskPass D) P)) → AreNewSeats committer source i states seats
      → (k : ℕ) (d : Seat S (DiskPass D) P) → k < length seats → IsFreshSeat source committer (slice_index_or seats k d)
  new-fresh i [] [] new k d less = absurd (omega arith)
  new-fresh i [] (x ∷ xs) new k d less = absurd new
  new-fresh i (s ∷ states) [] new k d less = absurd new
  new-fresh i (s ∷ states) (x ∷ xs) new zero d less = new.0.fresh
  new-fresh i (s ∷ states) (x ∷ xs) new (suc k) d less = new-fresh (i + 1) states xs new.1 k d (omega arith)
