-- How contexts are let in, and how they leave.
use Rattle.std.specs.Prelude.{◌≡◌, ℕ, ◌+◌, ◌≤◌, ◌<◌, List, [], ◌∷◌, ◌++◌, map, length, Option, Some, None, Result, All}
use mathlib.Core.List.{IsPrefix}
use Rattle.std.specs.List.{AllByRecursion}
use Rattle.nt_types.specs.ShapeData.{MemberData}
use Rattle.nt_grammar.specs.Table.{Table}
use Rattle.nt_outside.specs.Source.{SourceState}
use Rattle.nt_outside.specs.declared.fault.Refused.{Refused}
use Rattle.nt_outside.specs.declared.fault.Refused.TheVariants as refused
use Rattle.nt_turn.specs.Pass.{TurnState}
use Rattle.nt_machine.specs.declared.entry.Entry.{Entry}
use Rattle.nt_machine.specs.History.{IsIdle}
use Rattle.nt_book.specs.declared.meta.ClusterMeta.{ClusterMeta}
use Rattle.nt_book.specs.declared.params.Params.{Params}
use Rattle.nt_commit.specs.declared.locked.Birth.{Birth}
use Rattle.nt_commit.specs.Holds.{IsPassOf, IsFirstOf, HasNoneOut}
use Rattle.nt_event.specs.Lines.{before_first_line}
use Rattle.nt_contexts.specs.declared.seats.Seat.{Seat}
use Rattle.nt_contexts.specs.Reading.{left_of}
use Rattle.nt_contexts.specs.Filling.{HaveFaults}
use Rattle.nt_contexts.specs.Seats.{DiskPass, IsFreshSeat, IsSchemaFor}
use Rattle.nt_contexts.specs.declared.error.RunError.{RunError}
use Rattle.nt_contexts.specs.Contexts.{AreLater}
use Rattle.nt_contexts.specs.Answers.{answer_from}

-- what a first pass keeps of the pass in a seat
abbrev pub kept_by : {D : Type 0} → Option (DiskPass D) → ℕ × List (Entry ClusterMeta)
kept_by None = (0, [])
kept_by (Some pass) = (pass.number, pass.own)

-- that of each seat
abbrev pub all_kept : {D S P : Type 0} → List (Seat S (DiskPass D) P) → List (ℕ × List (Entry ClusterMeta))
all_kept {D = D} {S = S} {P = P} seats = map (λ (seat : Seat S (DiskPass D) P). kept_by seat.pass) seats

-- the sources of seats
abbrev pub seat_sources : {D S P : Type 0} → List (Seat S (DiskPass D) P) → List S
seat_sources {D = D} {S = S} {P = P} seats = map (λ (seat : Seat S (DiskPass D) P). seat.lines.source) seats

-- what the pass in a seat has seen was seen
abbrev pub HasBeenSeen : {D S P : Type 0} → List (Entry ClusterMeta) → Seat S (DiskPass D) P → Type 0
HasBeenSeen {D = D} seen seat = (pass : DiskPass D) → seat.pass ≡ Some pass → IsPrefix pass.seen seen

module _ {D : Type 0} (committer : TurnState (Birth D)) where
  -- so many contexts were let in, and nothing else was done with the first pass
  pub record IsLettingIn (seats : ℕ) (first : DiskPass D) : Type 0 where
    pub of : IsFirstOf committer first
    pub splits : first.splits ≡ seats
    pub kept : first.kept ≡ []
    pub unused : first.own ≡ []

  -- so many contexts were let in, and the first pass has no range
  pub record HasLetIn (seats : ℕ) (first : DiskPass D) : Type 0 where
    pub of : IsFirstOf committer first
    pub splits : first.splits ≡ seats
    pub kept : first.kept ≡ []
    pub idle : IsIdle first.own
    pub none_out : HasNoneOut first.own

  -- contexts may come in, of these fields: at least one, and no more than the committer takes
  pub record MayWork (fields : List MemberData) (t : Table) (p : Params) (sources : ℕ) (first : DiskPass D) : Type 0 where
    pub schema : IsSchemaFor committer fields p t
    pub some : 0 < sources
    pub few : sources ≤ 64
    pub seated : sources ≤ committer.birth.contexts
    pub letting : IsLettingIn 0 first

  -- a context wasn't let in: after a fault, which stands among the entries of the first pass, or for want of memory
  pub record RefusesSeat (seats : ℕ) (first : DiskPass D) (error : Refused) : Type 0 where
    pub let_in : HasLetIn seats first
    pub blamed : error ≡ refused.Failed → HaveFaults first.own

  module _ {S P : Type 0} where
    -- the context in a seat may leave: it has its pass, and none of its ranges is out
    pub record CanLeave (seat : Seat S (DiskPass D) P) : Type 0 where
      pub pass : DiskPass D
      pub there : seat.pass ≡ Some pass
      pub of : IsPassOf committer pass
      pub none_out : HasNoneOut pass.own

    -- the pass in a seat was joined to the first
    pub record JoinsSeat (seat : Seat S (DiskPass D) P) (old new : DiskPass D) : Type 0 where
      pub of : IsFirstOf committer new
      pub now : new ≡ record old { seen = new.seen; kept = old.kept ++ kept_by seat.pass ∷ [] }
      pub seen : IsPrefix old.seen new.seen
      pub told : HasBeenSeen new.seen seat

    -- each context left: its pass was joined, in the order of the seats, and its source came back; the first that failed gives the answer
    pub record LeaveAll (clusters : ℕ) (seats : List (Seat S (DiskPass D) P)) (old new : DiskPass D) (back back' : List S) (result :
        Result Unit RunError) : Type 0 where
      pub of : IsFirstOf committer new
      pub now : new ≡ record old { seen = new.seen; kept = old.kept ++ all_kept seats }
      pub told : AllByRecursion (HasBeenSeen new.seen) seats
      pub sources : back' ≡ back ++ seat_sources seats
      pub answer : result ≡ answer_from clusters 0 seats

    -- contexts that were let in left again, and behind their sources stand those that had no seat
    pub record TurnsBack (seats : List (Seat S (DiskPass D) P)) (old new : DiskPass D) (unseated back : List S) : Type 0 where
      pub of : IsFirstOf committer new
      pub now : new ≡ record old { seen = new.seen; kept = old.kept ++ all_kept seats }
      pub sources : back ≡ seat_sources seats ++ unseated

    module _ (source : S → SourceState) where
      -- the seat of the context of this number, which is fresh, over a source in this state
      pub record IsNewSeat (number : ℕ) (s : SourceState) (seat : Seat S (DiskPass D) P) : Type 0 where
        pub fresh : IsFreshSeat source committer seat
        pub number_is : fresh.pass.number ≡ number
        pub begun : left_of source seat.lines ≡ before_first_line s

      -- seats of contexts whose numbers go on from this one, over sources in these states
      abbrev pub AreNewSeats : ℕ → List SourceState → List (Seat S (DiskPass D) P) → Type 0
      AreNewSeats number [] [] = Unit {0}
      AreNewSeats number [] (seat ∷ seats) = ⊥
      AreNewSeats number (s ∷ states) [] = ⊥
      AreNewSeats number (s ∷ states) (seat ∷ seats) = IsNewSeat number s seat × AreNewSeats (number + 1) states seats

      -- the first of these sources have seats, in their order, and the others are left; no count of theirs fell
      pub record HasOpened (old new : List S) (seats : List (Seat S (DiskPass D) P)) (first : DiskPass D) : Type 0 where
        pub states : List SourceState
        pub others : List SourceState
        pub whole : map source old ≡ states ++ others
        pub left : AreLater others (map source new)
        pub seats_are : AreNewSeats 0 states seats
        pub let_in : HasLetIn (length seats) first

      -- contexts in their seats may run: there are some, all fresh, no more than the committer takes, and of these fields
      pub record CanRun (fields : List MemberData) (t : Table) (p : Params) (seats : List (Seat S (DiskPass D) P)) (first : DiskPass D)
          : Type 0 where
        pub schema : IsSchemaFor committer fields p t
        pub some : 0 < length seats
        pub few : length seats ≤ 64
        pub seated : length seats ≤ committer.birth.contexts
        pub fresh : All (IsFreshSeat source committer) seats
        pub letting : IsLettingIn (length seats) first
