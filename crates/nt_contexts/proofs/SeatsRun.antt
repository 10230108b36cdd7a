-- Contexts that were let in run and leave, or leave without having run.
use Rattle.std.proofs.Common.{◌≡◌, ◌<◌, ℕ, List, [], length, map, Result, Err, sym, ap, subst, arith}
use Rattle.std.specs.Prelude.{slice_index_or}
use Rattle.std.specs.List.{AllByRecursion}
use Rattle.nt_types.specs.ShapeData.{MemberData}
use Rattle.nt_grammar.specs.Table.{Table}
use Rattle.nt_outside.specs.Disk.{DiskState}
use Rattle.nt_outside.specs.Source.{SourceState}
use Rattle.nt_outside.specs.declared.fault.Refused.{Refused}
use Rattle.nt_outside.specs.declared.fault.Refused.TheVariants as refused
use Rattle.nt_turn.specs.Pass.{TurnState}
use Rattle.nt_book.specs.declared.params.Params.{Params}
use Rattle.nt_commit.specs.declared.locked.Birth.{Birth}
use Rattle.nt_contexts.specs.declared.error.RunError.{RunError}
use Rattle.nt_contexts.specs.declared.seats.Seat.{Seat}
use Rattle.nt_contexts.specs.Answers.{refusal_told}
use Rattle.nt_contexts.specs.Filling.{HaveFaults}
use Rattle.nt_contexts.specs.Seats.{DiskPass, Ran}
use Rattle.nt_contexts.specs.Seating.{CanLeave, LeaveAll, TurnsBack, AreNewSeats, HasOpened, MayWork, CanRun}
use Rattle.nt_contexts.specs.Working.{HasWorked}
use Rattle.nt_contexts.proofs.Opens.{opened-count, opened-all, may-run}
use Rattle.nt_contexts.proofs.NewSeats.{new-can-leave, new-fresh}
use Rattle.nt_contexts.proofs.Ran.{ran-all, ran-can-leave}
use Rattle.nt_contexts.proofs.Worked.{worked, turned-back}

module _ {D S P : Type 0} (state : D → DiskState) (fields : List MemberData) (t : Table) (p : Params) (committer : TurnState (Birth D))
    (source : S → SourceState) (all left : List S) (seats : List (Seat S (DiskPass D) P)) (first : DiskPass D)
    (opened : HasOpened committer source all left seats first) where
  -- the contexts in these seats did not run, and may leave
  pub let-go : (back : List (Seat S (DiskPass D) P)) → back ≡ seats → AllByRecursion (CanLeave committer) back
  let-go back same =
      subst (λ (l : List (Seat S (DiskPass D) P)). AllByRecursion (CanLeave committer) l) (sym same)
      (new-can-leave committer source 0 opened.states seats opened.seats_are)

  -- they left
  pub none-worked : (back : List (Seat S (DiskPass D) P)) → back ≡ seats → (next : DiskPass D) (sources : List S) (why : Refused)
      → TurnsBack committer back first next left sources
      → (why ≡ refused.Failed → HaveFaults first.own)
      → HasWorked state fields t p committer (map source all) (map source sources) next (Err (refusal_told why))
  none-worked back same next sources why turns faults =
      subst (λ (l : List SourceState). HasWorked state fields t p committer l (map source sources) next (Err (refusal_told why)))
      (sym opened.whole)
      (turned-back state fields t p committer source (length seats) opened.states opened.others back left sources first next why
      opened.let_in (sym (ap (λ (l : List (Seat S (DiskPass D) P)). length l) same))
      (subst (λ (l : List (Seat S (DiskPass D) P)). AreNewSeats committer source 0 opened.states l) (sym same) opened.seats_are)
      opened.left turns faults)

  -- each source has its seat
  module _ (was : DiskPass D) (may : MayWork committer fields t p (length all) was) (none : (left ≡ []) × (first.own ≡ [])) where
    pub can-run : CanRun committer source fields t p seats first
    can-run =
        may-run committer source fields t p all left seats was first may opened none
        (new-fresh committer source 0 opened.states seats opened.seats_are)

    pub all-seated : length seats ≡ length all
    all-seated =
        let empty : length left ≡ 0 = ap (λ (l : List S). length l) none.0 in
        omega (arith, opened-count committer source all left seats first opened, empty)

    module _ (news : List (Seat S (DiskPass D) P)) (long : length news ≡ length seats)
        (ran : (k : ℕ) (d : Seat S (DiskPass D) P) → k < length seats → Ran state source fields t p committer (slice_index_or seats k d)
        (slice_index_or news k d)) where
      -- the contexts in these seats ran, and may leave
      pub may-leave : AllByRecursion (CanLeave committer) news
      may-leave = ran-can-leave state fields t p committer source seats news long ran

      -- they left
      pub all-worked : (next : DiskPass D) (back sources : List S) (answer : Result Unit RunError)
          → LeaveAll committer p.limits.clusters news first next back sources answer → back ≡ []
          → HasWorked state fields t p committer (map source all) (map source sources) next answer
      all-worked next back sources answer leave empty =
          subst (λ (l : List SourceState). HasWorked state fields t p committer l (map source sources) next answer)
          (sym (opened-all committer source all left seats first opened none.0))
          (worked state fields t p committer source (length seats) opened.states news first next back sources answer can-run.letting
          (sym long) (omega (arith, long, can-run.seated))
          (ran-all state fields t p committer source 0 opened.states seats news opened.seats_are long ran) leave empty)
