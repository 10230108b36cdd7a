-- A disk and its book under the turn, and what is true of them while the turn is free.
use Rattle.std.specs.Prelude.{◌≡◌, ℕ, ◌<◌, ◌≤◌, List, [], ◌++◌, map, filter, length, IsSome, None}
use Rattle.std.specs.List.{AllByRecursion}
use Rattle.nt_lists.specs.Parts.{Part}
use Rattle.nt_outside.specs.declared.range.Range.{Range}
use Rattle.nt_outside.specs.Log.{Step}
use Rattle.nt_outside.specs.Held.{Held, BecomesSome, WhereHeld}
use Rattle.nt_outside.specs.Disk.{DiskState}
use Rattle.nt_machine.specs.declared.entry.Entry.{Entry}
use Rattle.nt_machine.specs.Faults.{FaultsRise}
use Rattle.nt_machine.specs.History.{Fate, Out, Settled, Spoiled, Cluster, is_out, ranges_of}
use Rattle.nt_machine.specs.Legal.{IsLegal, end_after}
use Rattle.nt_book.specs.declared.limits.Limits.{Limits}
use Rattle.nt_book.specs.declared.meta.ClusterMeta.{ClusterMeta}
use Rattle.nt_book.specs.Books.{BookData, book_end}
use Rattle.nt_book.specs.Listing.{HasNoLists}
use Rattle.nt_commit.specs.declared.locked.Birth.{Birth}
use Rattle.nt_commit.specs.Lists.{HasListsOf, HasNoFault}
use Rattle.nt_pages.specs.Image.{key_room}
use Rattle.nt_logged.specs.Logs.{IsLogOf}
use Rattle.nt_logged.specs.Steps.{told_history}

-- the disk, the book, and what never changes
pub record LockedState (D : Type 0) : Type 0 where
  pub disk : D
  pub book : BookData
  pub birth : Birth D

-- disk and book of this birth
abbrev pub locked_by : {D : Type 0} → Birth D → D → BookData → LockedState D
locked_by birth disk book = record { disk = disk; book = book; birth = birth }

-- a book in which nothing was entered yet, and no page list noted, which begins where the disk ends; no range of the disk is out
pub record IsNewBookOn (disk : DiskState) (book : BookData) : Type 0 where
  pub history : book.history ≡ []
  pub unlisted : HasNoLists book.lists book.torn
  pub end : book.begin ≡ disk.end
  pub out : disk.out ≡ []

-- what never changes of a disk that is begun with this new book, for so many contexts
abbrev pub birth_with : {D : Type 0} → D → BookData → ℕ → Birth D
birth_with disk book contexts =
    record {
      begun = disk;
      limits = book.limits;
      columns = length book.firsts;
      firsts = book.firsts;
      contexts = contexts;
      group = book.group;
      staged = book.staged;
    }

-- what never changes of them
abbrev pub birth_of : {D : Type 0} → LockedState D → Birth D
birth_of locked = locked.birth

-- the context of an entry
abbrev pub context_of : Entry ClusterMeta → ℕ
context_of e = e.context

-- a range that is settled has bytes
abbrev pub HasToldBytes : Fate → Type 0
HasToldBytes Out = Unit {0}
HasToldBytes (Settled bytes) = IsSome bytes
HasToldBytes (Spoiled faults) = Unit {0}

module _ {M : Type 0} where
  -- the range of a cluster
  abbrev pub place_of : Cluster M → Range
  place_of c = record { start = c.start; len = c.len }

  -- the ranges of clusters that are out
  abbrev pub ranges_out : List (Cluster M) → List Range
  ranges_out cs = map place_of (filter (λ (c : Cluster M). is_out c.state) cs)

  -- a log since this place gained the steps of a history, up to this end, with these page lists appended between them, and appends that
  -- failed
  pub record GainsLists (place end : ℕ) (history : List (Entry M)) (lists : List Part) (torn : List ℕ) (old new : Held) : Type 0 where
    pub steps : List Step
    pub log : new.log ≡ old.log ++ steps
    pub is_log : IsLogOf place end history lists torn steps

  -- it gained them with nothing between
  abbrev pub GainsSteps : ℕ → ℕ → List (Entry M) → Held → Held → Type 0
  GainsSteps place end history old new = GainsLists place end history [] [] old new

  -- the disk is what a history of so many contexts makes of it as it was begun, and page lists
  pub record IsDiskAfter (begun disk : DiskState) (contexts : ℕ) (history : List (Entry M)) (lists : List Part)
      (torn : List ℕ) : Type 0 where
    -- ranges lie apart, in the order in which they were reserved, and each is settled or spoiled at most once, by its context
    pub legal : IsLegal begun.end history
    pub contexts_are : AllByRecursion (λ (e : Entry M). e.context ≤ contexts) history
    -- a range has room for its key
    pub roomy : AllByRecursion (λ (c : Cluster M). key_room ≤ c.len) (ranges_of history)
    pub out : disk.out ≡ ranges_out (ranges_of history)
    -- its log is that from before, and then the steps of the history, each range reserved at the end of its time, and the page lists
    pub log : BecomesSome begun.held disk.held (GainsLists begun.end disk.end history lists torn)
    -- where the disk told what it held when it was begun, each settled range has its bytes
    pub told : WhereHeld begun.held (λ h. AllByRecursion (λ (c : Cluster M). HasToldBytes c.state) (ranges_of history))
    -- each fault of the history was counted above those before it
    pub rise : FaultsRise begun.faults history disk.faults

-- ranges behind this place that the limits of a file let be: no more than its clusters may be, the last of which ends where the file may
pub record EndWithin {M : Type 0} (limits : Limits) (begin : ℕ) (ranges : List (Cluster M)) : Type 0 where
  pub file : 0 < length ranges → end_after begin ranges ≤ limits.file
  pub few : length ranges ≤ limits.clusters

module _ {D : Type 0} (state : D → DiskState) where
  -- the history, with the bytes that the disk tells
  abbrev pub history_of_locked : LockedState D → List (Entry ClusterMeta)
  history_of_locked locked = told_history (state locked.birth.begun).held (state locked.disk).held locked.book.history

  -- a book as this one was begun, with a history and no page lists
  abbrev pub book_of_birth : Birth D → List (Entry ClusterMeta) → BookData
  book_of_birth birth history = record {
    begin = (state birth.begun).end;
    limits = birth.limits;
    firsts = birth.firsts;
    history = history;
    spare = 0;
    group = birth.group;
    lists = [];
    torn = None;
    staged = birth.staged;
    ready = None;
  }

  -- disk and book are what one history makes of them
  pub record IsInStep (locked : LockedState D) : Type 0 where
    pub begin : locked.book.begin ≡ (state locked.birth.begun).end
    pub limits : locked.book.limits ≡ locked.birth.limits
    pub columns : length locked.book.firsts ≡ locked.birth.columns
    pub firsts : locked.book.firsts ≡ locked.birth.firsts
    pub group : locked.book.group ≡ locked.birth.group
    pub staged : locked.book.staged ≡ locked.birth.staged
    pub end : (state locked.disk).end ≡ book_end locked.book
    -- the page lists that were appended, and the unknown bytes of one that failed
    pub lists : List Part
    pub torn : List ℕ
    pub follows : IsDiskAfter (state locked.birth.begun) (state locked.disk) locked.birth.contexts (history_of_locked locked) lists torn
    pub listed : HasListsOf locked.book lists torn
    pub ungrouped : locked.book.group ≡ None → HasNoLists locked.book.lists locked.book.torn
    -- a page list that failed was entered as a fault
    pub whole : HasNoFault (history_of_locked locked) → locked.book.torn ≡ None
    -- no range is longer than the limits let it be
    pub short : AllByRecursion (λ (c : Cluster ClusterMeta). c.len ≤ locked.birth.limits.range) (ranges_of (history_of_locked locked))
    -- where there is one, they end where a file may, and they are no more than its clusters may be
    pub within : EndWithin locked.birth.limits (state locked.birth.begun).end (ranges_of (history_of_locked locked))
