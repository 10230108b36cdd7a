-- What each call does to the disk and the book, and what its pass knows of that.
use Rattle.std.specs.Prelude.{◌≡◌, ℕ, ◌+◌, ◌≤◌, Bool, true, false, List, [], ◌∷◌, ◌++◌, length, Option, Some, None}
use Rattle.std.specs.Prelude.{Result, Ok, Err, OnErr}
use mathlib.Core.List.{IsPrefix}
use Rattle.std.specs.List.{AllByRecursion}
use Rattle.std.specs.declared.alloc.AllocError.{AllocError}
use Rattle.nt_turn.specs.Pass.{TurnState, PassState, AllJoined, next_pass}
use Rattle.nt_outside.specs.Range.{ExtState, PenState}
use Rattle.nt_outside.specs.Disk.{DiskState}
use Rattle.nt_outside.specs.Faults.{Rose}
use Rattle.nt_outside.specs.declared.fault.Refused.{Refused}
use Rattle.nt_machine.specs.Deal.{times}
use Rattle.nt_machine.specs.declared.entry.Entry.{Entry}
use Rattle.nt_machine.specs.declared.entry.EntryKind.TheVariants as entry
use Rattle.nt_machine.specs.History.{Cluster, is_out, numbers_of, own_of, publishers_of, ranges_of}
use Rattle.nt_machine.specs.Legal.{IsFilledRange}
use Rattle.nt_book.specs.declared.limits.LimitError.{LimitError}
use Rattle.nt_book.specs.declared.meta.ClusterMeta.{ClusterMeta}
use Rattle.nt_book.specs.Entries.{spoiled_entry}
use Rattle.nt_book.specs.Pages.{IsPaged}
use Rattle.nt_pages.specs.Image.{key_room}
use Rattle.nt_commit.specs.declared.claim.Claim.{Claim}
use Rattle.nt_commit.specs.declared.error.CommitError.{CommitError}
use Rattle.nt_commit.specs.declared.locked.Birth.{Birth}
use Rattle.nt_commit.specs.Claims.{CommitAdds, HasLooked, PenAdds, limit_answered, settled_with}
use Rattle.nt_commit.specs.Lists.{NextPlace, limit_at}
use Rattle.nt_commit.specs.Locked.{LockedState, IsInStep, book_of_birth, history_of_locked}
use Rattle.nt_logged.specs.Steps.{bytes_where_told}

-- a pass of a committer, which doesn't hold the turn
pub record IsPassOf {D : Type 0} (committer : TurnState (Birth D)) (pass : PassState (Entry ClusterMeta) (Birth D)) : Type 0 where
  pub turn : pass.turn ≡ committer.id
  pub free : pass.holds ≡ false
  pub birth : pass.birth ≡ Some committer.birth
  pub number : pass.number ≤ committer.birth.contexts
  pub seats : committer.seats ≡ committer.birth.contexts

-- the pass didn't publish yet
abbrev pub HasNotPublished : {D : Type 0} → PassState (Entry ClusterMeta) (Birth D) → Type 0
HasNotPublished pass = times pass.number (publishers_of pass.own) ≡ 0

-- it may publish: it didn't yet, and each of its ranges is filled
pub record MayPublish {D : Type 0} (pass : PassState (Entry ClusterMeta) (Birth D)) : Type 0 where
  pub before : HasNotPublished pass
  pub filled : AllByRecursion IsFilledRange (ranges_of pass.own)

-- what a context adds that publishes these ranges: the one entry with their numbers, or nothing where that is refused
abbrev pub publish_adds : ℕ → List (Cluster ClusterMeta) → Result Unit AllocError → List (Entry ClusterMeta)
publish_adds context ranges (Ok done) = record { context = context; kind = entry.Published (numbers_of ranges) } ∷ []
publish_adds context ranges (Err e) = []

-- the first pass of a committer, which doesn't hold the turn
pub record IsFirstOf {D : Type 0} (committer : TurnState (Birth D)) (pass : PassState (Entry ClusterMeta) (Birth D)) : Type 0 where
  pub of : IsPassOf committer pass
  pub first : pass.number ≡ committer.seats

-- none of the ranges of these entries is out
abbrev pub HasNoneOut : List (Entry ClusterMeta) → Type 0
HasNoneOut entries = AllByRecursion (λ (c : Cluster ClusterMeta). is_out c.state ≡ false) (ranges_of entries)

-- none of the ranges of a first pass, and of those that were joined to it, is out
pub record AreAllIn {D : Type 0} (first : PassState (Entry ClusterMeta) (Birth D)) : Type 0 where
  pub own : HasNoneOut first.own
  pub kept : AllByRecursion (λ (k : ℕ × List (Entry ClusterMeta)). HasNoneOut k.1) first.kept

-- each pass that was split off is joined to the first again, and no range of theirs is out
pub record HaveAllLeft {D : Type 0} (first : PassState (Entry ClusterMeta) (Birth D)) : Type 0 where
  pub joined : AllJoined first
  pub none_out : AreAllIn first

-- the pass of a context was joined to the first, which keeps its entries and has seen what it had, and nothing else of the first changed
pub record LeavesAfter {D : Type 0} (old pass new : PassState (Entry ClusterMeta) (Birth D)) : Type 0 where
  pub seen : IsPrefix old.seen new.seen
  pub told : IsPrefix pass.seen new.seen
  pub now : new ≡ record old { seen = new.seen; kept = old.kept ++ (pass.number, pass.own) ∷ [] }

-- a cluster that may be committed: it has room for its key, a list of pages for each column, and a context of so many
pub record IsCommittable {D : Type 0} (birth : Birth D) (meta : ClusterMeta) : Type 0 where
  pub context : meta.context ≤ birth.contexts
  pub room : key_room ≤ meta.len
  pub lists : length meta.pages ≡ birth.columns
  pub paged : IsPaged meta

module _ {D : Type 0} (state : D → DiskState) where
  -- what was true before is true after, and what never changes did not
  pub record IsLater (old new : LockedState D) : Type 0 where
    pub birth : new.birth ≡ old.birth
    pub before : IsInStep state old
    pub after : IsInStep state new

  -- how many ranges there are
  abbrev pub locked_count : LockedState D → ℕ
  locked_count locked = length (ranges_of (history_of_locked state locked))

  -- where clusters are staged, this context hasn't published
  abbrev pub MayReserveIn : LockedState D → ℕ → Type 0
  MayReserveIn locked context =
      locked.birth.staged ≡ true → times context (publishers_of (history_of_locked state locked)) ≡ 0

  -- the history grew by these entries
  abbrev pub HistoryGrows : LockedState D → LockedState D → List (Entry ClusterMeta) → Type 0
  HistoryGrows old new added = history_of_locked state new ≡ history_of_locked state old ++ added

  -- a cluster was committed, or a range reserved for a staged one, behind all others and behind the page list that was due; or refused: for
  -- a limit exactly where the range or that list passes it. Where clusters are staged there are no page lists beside them
  pub record Commits {X : Type 0} (staged : Bool) (tell : X → ExtState) (meta : ClusterMeta) (old new : LockedState D)
      (result : Result (Claim X) CommitError) : Type 0 where
    pub place : NextPlace (book_of_birth state old.birth (history_of_locked state old))
    pub limits : HasLooked old.birth.group result
        → limit_at (book_of_birth state old.birth (history_of_locked state old)) place meta.len ≡ limit_answered result
    pub no_lists : staged ≡ true → old.birth.group ≡ None
    pub added : List (Entry ClusterMeta)
    pub grows : HistoryGrows old new added
    pub adds : CommitAdds staged tell (state old.birth.begun).held (state old.disk).faults (state new.disk).faults (locked_count old)
        (place.before + place.due) meta result added

  -- a pen was made, or refused
  pub record OpensPen {P : Type 0} (context : ℕ) (old new : LockedState D) (result : Result P Refused) : Type 0 where
    pub added : List (Entry ClusterMeta)
    pub grows : HistoryGrows old new added
    pub adds : PenAdds (state old.disk).faults (state new.disk).faults context result added

  -- a context published all its ranges, or was refused, and then all is as before
  pub record Publishes (context : ℕ) (old new : LockedState D) (result : Result Unit AllocError) : Type 0 where
    pub grows : HistoryGrows old new (publish_adds context (own_of (ranges_of (history_of_locked state old)) context) result)
    pub refused : OnErr result (new ≡ old)

  -- a range was spoiled, with the disk's count of faults, which rose
  pub record Spoils (context n : ℕ) (old new : LockedState D) : Type 0 where
    pub rose : Rose (state old.disk).faults (state new.disk).faults
    pub grows : HistoryGrows old new (spoiled_entry context n (state new.disk).faults ∷ [])

  -- a range was settled, with the bytes of its extent where the disk tells them
  pub record SettlesRange (context n : ℕ) (ext : ExtState) (old new : LockedState D) : Type 0 where
    pub grows : HistoryGrows old new (settled_with context n (bytes_where_told (state old.birth.begun).held ext.content) ∷ [])

  -- nothing was added
  pub record KeepsHistory (old new : LockedState D) : Type 0 where
    pub same : HistoryGrows old new []

  -- one hold of the turn: the pass had seen a beginning of the history, which then grew by these entries of its number
  pub record IsHold (committer : TurnState (Birth D)) (taken given : LockedState D) (added : List (Entry ClusterMeta))
      (old new : PassState (Entry ClusterMeta) (Birth D)) : Type 0 where
    pub birth : taken.birth ≡ committer.birth
    pub step : IsLater taken given
    pub grows : HistoryGrows taken given added
    pub begins : IsPrefix old.seen (history_of_locked state taken)
    pub now : new ≡ record old { seen = history_of_locked state given; own = old.own ++ added }

  -- a hold in which these entries were added
  pub record AddsInHold (committer : TurnState (Birth D)) (added : List (Entry ClusterMeta))
      (old new : PassState (Entry ClusterMeta) (Birth D)) : Type 0 where
    pub taken : LockedState D
    pub given : LockedState D
    pub hold : IsHold committer taken given added old new

  -- a hold in which a cluster was committed, or a range reserved for a staged one, or it was refused
  pub record CommitsInHold {X : Type 0} (staged : Bool) (tell : X → ExtState) (committer : TurnState (Birth D)) (meta : ClusterMeta)
      (old new : PassState (Entry ClusterMeta) (Birth D))
      (result : Result (Claim X) CommitError) : Type 0 where
    pub taken : LockedState D
    pub given : LockedState D
    pub commits : Commits staged tell meta taken given result
    pub hold : IsHold committer taken given commits.added old new

  -- a limit that refuses a cluster of this length is passed behind just what the pass has then seen, and behind the list that is due
  abbrev pub RefusesBehindSeen : {X : Type 0} → TurnState (Birth D) → ℕ → PassState (Entry ClusterMeta) (Birth D)
      → Result (Claim X) CommitError → Type 0
  RefusesBehindSeen committer len pass result =
      (l : LimitError) → limit_answered result ≡ Some l
      → (place : NextPlace (book_of_birth state committer.birth pass.seen))
      × (limit_at (book_of_birth state committer.birth pass.seen) place len ≡ Some l)

  -- a hold in which a range was settled, with these bytes where the disk told what it held
  abbrev pub SettlesInHold : TurnState (Birth D) → ℕ → Option (List ℕ) → PassState (Entry ClusterMeta) (Birth D)
      → PassState (Entry ClusterMeta) (Birth D) → Type 0
  SettlesInHold committer n bytes old new =
      AddsInHold committer (settled_with old.number n (bytes_where_told (state committer.birth.begun).held bytes) ∷ []) old new

  -- a hold in which a range was spoiled
  pub record SpoilsInHold (committer : TurnState (Birth D)) (n : ℕ) (old new : PassState (Entry ClusterMeta) (Birth D)) : Type 0 where
    pub taken : LockedState D
    pub given : LockedState D
    pub rose : Rose (state taken.disk).faults (state given.disk).faults
    pub hold : IsHold committer taken given (spoiled_entry old.number n (state given.disk).faults ∷ []) old new

  -- a hold in which a pass published all its ranges, in the order in which they were reserved; or it was refused, and all is as before
  pub record PublishesInHold (committer : TurnState (Birth D)) (old new : PassState (Entry ClusterMeta) (Birth D))
      (result : Result Unit AllocError) : Type 0 where
    pub taken : LockedState D
    pub given : LockedState D
    pub refused : OnErr result (given ≡ taken)
    pub hold : IsHold committer taken given (publish_adds old.number (ranges_of old.own) result) old new

  -- a hold in which a pen was made, or refused
  pub record OpensInHold {P : Type 0} (committer : TurnState (Birth D)) (old new : PassState (Entry ClusterMeta) (Birth D))
      (result : Result P Refused) : Type 0 where
    pub taken : LockedState D
    pub given : LockedState D
    pub opens : OpensPen old.number taken given result
    pub hold : IsHold committer taken given opens.added old new

  -- a hold in which no pen was to be had
  abbrev pub RefusesPen : TurnState (Birth D) → PassState (Entry ClusterMeta) (Birth D) → PassState (Entry ClusterMeta) (Birth D)
      → Refused → Type 0
  RefusesPen committer old new e = OpensInHold {P = Unit {0}} committer old new (Err e)

  -- a context entered: after a hold in which its pen was made, its pass was split off
  pub record EntersAfter {P : Type 0} (pen_state : P → PenState) (committer : TurnState (Birth D))
      (old new pass : PassState (Entry ClusterMeta) (Birth D)) (pen : P) : Type 0 where
    pub held : PassState (Entry ClusterMeta) (Birth D)
    pub opens : AddsInHold committer [] old held
    pub first : new ≡ record held { splits = old.splits + 1 }
    pub pass_is : pass ≡ next_pass held
    pub unused : (pen_state pen).faults ≡ 0
