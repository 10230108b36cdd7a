-- What was done to a disk and its book, of a state as its owner sees it.
use Rattle.std.proofs.Common.{◌≡◌, ◌∙◌, ap, sym, refl, ℕ, List, [], ◌++◌, length, Option, Some, subst}
use Rattle.std.proofs.Common.{append-nil, ◌+◌, ◌≤◌, Bool, true, None, arith, inl, inr}
use Rattle.std.specs.Prelude.{◌≢◌, Result, Ok, Err}
use Rattle.nt_outside.specs.Faults.{Rose}
use Rattle.std.specs.Result.{IsErrAnd}
use Rattle.std.specs.declared.alloc.AllocError.{AllocError}
use Rattle.nt_outside.specs.Held.{Held}
use Rattle.nt_outside.specs.Range.{ExtState}
use Rattle.nt_outside.specs.Disk.{DiskState}
use Rattle.nt_turn.specs.Pass.{TurnState, PassState}
use Rattle.nt_machine.specs.declared.entry.Entry.{Entry}
use Rattle.nt_machine.specs.History.{ranges_of}
use Rattle.nt_book.specs.declared.limits.LimitError.{LimitError}
use Rattle.nt_book.specs.declared.meta.ClusterMeta.{ClusterMeta}
use Rattle.nt_book.specs.Books.{book_end}
use Rattle.nt_commit.specs.declared.claim.Claim.{Claim}
use Rattle.nt_commit.specs.declared.locked.Birth.{Birth}
use Rattle.nt_commit.specs.declared.error.CommitError.TheVariants.{RangeTooLarge, FileTooLarge, TooManyClusters, Memory, Fault}
use Rattle.nt_commit.specs.Appending.{ListAdds, AppendsList, AppendsCluster}
use Rattle.nt_commit.specs.Claims.{CommitAdds, limit_in, limit_answered}
use Rattle.nt_commit.specs.Lists.{NextPlace, limit_at}
use Rattle.nt_commit.specs.declared.error.CommitError.{CommitError}
use Rattle.nt_outside.specs.declared.fault.Refused.{Refused}
use Rattle.nt_commit.specs.Holds.{HistoryGrows, IsLater, Commits, CommitsInHold, RefusesBehindSeen, OpensPen, SettlesRange}
use Rattle.nt_commit.specs.Holds.{KeepsHistory, Publishes, Spoils, locked_count}
use Rattle.nt_commit.specs.Locked.{LockedState, book_of_birth, history_of_locked}

module _ {D : Type 0} (state : D → DiskState) (v v' w : LockedState D) (same : v ≡ v') where
  -- the same of a state as its owner sees it
  pub step_from : IsLater state v w → IsLater state v' w
  step_from step = subst (λ (x : LockedState D). IsLater state x w) same step

  pub commits_from : {X : Type 0} (tell : X → ExtState) (meta : ClusterMeta) (result : Result (Claim X) CommitError)
      → Commits state v.birth.staged tell meta v w result → Commits state v'.birth.staged tell meta v' w result
  commits_from tell meta result commits = subst (λ (x : LockedState D). Commits state x.birth.staged tell meta x w result) same commits

  pub appends_from : {X : Type 0} (tell : X → ExtState) (meta : ClusterMeta) (result : Result (Claim X) CommitError)
      → AppendsCluster state v.birth.staged tell meta v w result → AppendsCluster state v'.birth.staged tell meta v' w result
  appends_from tell meta result appends = subst (λ (x : LockedState D). AppendsCluster state x.birth.staged tell meta x w result) same
      appends

  pub list_from : (context : ℕ) (result : Result Unit CommitError) → AppendsList state context v w result
      → AppendsList state context v' w result
  list_from context result appends = subst (λ (x : LockedState D). AppendsList state context x w result) same appends

  pub keeps_from : KeepsHistory state v w → KeepsHistory state v' w
  keeps_from keeps = subst (λ (x : LockedState D). KeepsHistory state x w) same keeps

  pub settles_from : (context n : ℕ) (ext : ExtState) → SettlesRange state context n ext v w → SettlesRange state context n ext v' w
  settles_from context n ext settles = subst (λ (x : LockedState D). SettlesRange state context n ext x w) same settles

  pub spoils_from : (context n : ℕ) → Spoils state context n v w → Spoils state context n v' w
  spoils_from context n spoils = subst (λ (x : LockedState D). Spoils state context n x w) same spoils

  pub publishes_from : (context : ℕ) (result : Result Unit AllocError) → Publishes state context v w result
      → Publishes state context v' w result
  publishes_from context result publishes = subst (λ (x : LockedState D). Publishes state context x w result) same publishes

  pub opens_from : {P : Type 0} (context : ℕ) (result : Result P Refused) → OpensPen state context v w result
      → OpensPen state context v' w result
  opens_from context result opens = subst (λ (x : LockedState D). OpensPen state context x w result) same opens

limit_adds : {X : Type 0} (staged : Bool) (tell : X → ExtState) (held : Option Held) (was is n start : ℕ) (meta : ClusterMeta)
    (result : Result (Claim X) CommitError) (l : LimitError)
    → limit_answered result ≡ Some l → CommitAdds staged tell held was is n start meta result []
limit_adds staged tell held was is n start meta (Ok claim) l named = absurd (cc named)
limit_adds staged tell held was is n start meta (Err (RangeTooLarge len most)) l named = refl
limit_adds staged tell held was is n start meta (Err (FileTooLarge end most)) l named = refl
limit_adds staged tell held was is n start meta (Err TooManyClusters) l named = refl
limit_adds staged tell held was is n start meta (Err Memory) l named = absurd (cc named)
limit_adds staged tell held was is n start meta (Err Fault) l named = absurd (cc named)

-- a refusal for a limit adds nothing
pub limit_nothing : {X : Type 0} (staged : Bool) (tell : X → ExtState) (held : Option Held) (was is n start : ℕ) (meta : ClusterMeta)
    (result : Result (Claim X) CommitError) (l : LimitError) → limit_answered result ≡ Some l
    → (added : List (Entry ClusterMeta)) → CommitAdds staged tell held was is n start meta result added → added ≡ []
limit_nothing staged tell held was is n start meta (Ok claim) l named added adds = absurd (cc named)
limit_nothing staged tell held was is n start meta (Err (RangeTooLarge len most)) l named added adds = adds
limit_nothing staged tell held was is n start meta (Err (FileTooLarge end most)) l named added adds = adds
limit_nothing staged tell held was is n start meta (Err TooManyClusters) l named added adds = adds
limit_nothing staged tell held was is n start meta (Err Memory) l named added adds = absurd (cc named)
limit_nothing staged tell held was is n start meta (Err Fault) l named added adds = absurd (cc named)

-- it names a limit behind just what the pass has then seen
pub limit_seen : {D X : Type 0} (state : D → DiskState) (staged : Bool) (tell : X → ExtState) (committer : TurnState (Birth D))
    (meta : ClusterMeta) (old new : PassState (Entry ClusterMeta) (Birth D)) (result : Result (Claim X) CommitError)
    → CommitsInHold state staged tell committer meta old new result → RefusesBehindSeen state committer meta.len new result
limit_seen {D = D} state staged tell committer meta old new result c l named =
    let history = history_of_locked state c.taken in
    let none = limit_nothing staged tell _ _ _ _ _ meta result l named c.commits.added c.commits.adds in
    let seen : new.seen ≡ history =
    ap (λ (p : PassState (Entry ClusterMeta) (Birth D)). p.seen) c.hold.now
    ∙ (c.hold.grows ∙ (ap (λ (a : List (Entry ClusterMeta)). history ++ a) none ∙ append-nil history)) in
    let apart : result ≢ Err Memory = λ is. absurd (limit_apart l (sym (ap limit_answered is) ∙ named)) in
    subst (λ (h : List (Entry ClusterMeta)). (place : NextPlace (book_of_birth state committer.birth h))
    × (limit_at (book_of_birth state committer.birth h) place meta.len ≡ Some l)) (sym seen)
    (subst (λ (b : Birth D). (place : NextPlace (book_of_birth state b history))
    × (limit_at (book_of_birth state b history) place meta.len ≡ Some l)) c.hold.birth
    (c.commits.place, c.commits.limits (inr apart) ∙ named))
  where
    limit_apart : (l : LimitError) → ◌≡◌ {A = Option LimitError} None (Some l) → ⊥
    limit_apart l is = cc is

pub limit_named : {X : Type 0} (result : Result (Claim X) CommitError) (l : LimitError) → IsErrAnd result (λ e. limit_in e ≡ Some l)
    → limit_answered result ≡ Some l
limit_named (Ok claim) l h = absurd h
limit_named (Err e) l h = h

-- a refusal for a limit changes nothing
pub limit_refuses : {D X : Type 0} (state : D → DiskState) (v v' : LockedState D) → v ≡ v'
    → (v.birth.staged ≡ true → v.birth.group ≡ None)
    → (tell : X → ExtState) (meta : ClusterMeta) (result : Result (Claim X) CommitError) (l : LimitError)
    → limit_answered result ≡ Some l → (place : NextPlace (book_of_birth state v.birth (history_of_locked state v)))
    → limit_at (book_of_birth state v.birth (history_of_locked state v)) place meta.len ≡ Some l
    → Commits state v'.birth.staged tell meta v' v' result
limit_refuses state v v' same no_lists tell meta result l named place limit =
    subst (λ (x : _). Commits state x.birth.staged tell meta x x result) same (record {
      place = place;
      limits = λ looked. limit ∙ sym named;
      no_lists = no_lists;
      added = [];
      grows = sym (append-nil (history_of_locked state v));
      adds = limit_adds v.birth.staged tell (state v.birth.begun).held (state v.disk).faults (state v.disk).faults (locked_count state v)
          (place.before + place.due) meta result l named;
    })

-- without memory for the page list nothing changes
pub unmade : {D X : Type 0} (state : D → DiskState) (tell : X → ExtState) (v v' : LockedState D) → v ≡ v'
    → (v.birth.staged ≡ true → v.birth.group ≡ None) → (meta : ClusterMeta)
    → NextPlace (book_of_birth state v.birth (history_of_locked state v)) → (v.birth.group ≡ None → ⊥)
    → Commits state v'.birth.staged tell meta v' v' (Err Memory)
unmade state tell v v' same no_lists meta place groups =
    subst (λ (x : _). Commits state x.birth.staged tell meta x x (Err Memory)) same (record {
      place = place;
      no_lists = no_lists;
      limits = λ looked. absurd (elim looked [ inl none ↦ groups none | inr apart ↦ apart refl ]);
      added = [];
      grows = sym (append-nil (history_of_locked state v));
      adds = refl;
    })

-- a count that rose since has risen
rose_later : (was mid is : ℕ) → was ≤ mid → Rose mid is → Rose was is
rose_later was mid is later rose = omega (arith, later, rose)

later_adds : {X : Type 0} (staged : Bool) (tell : X → ExtState) (held : Option Held) (was mid is n start : ℕ) (meta : ClusterMeta)
    (result : Result (Claim X) CommitError) (added : List (Entry ClusterMeta)) → was ≤ mid
    → CommitAdds staged tell held mid is n start meta result added → CommitAdds staged tell held was is n start meta result added
later_adds staged tell held was mid is n start meta (Ok claim) added later adds = adds
later_adds staged tell held was mid is n start meta (Err (RangeTooLarge len most)) added later adds = adds
later_adds staged tell held was mid is n start meta (Err (FileTooLarge end most)) added later adds = adds
later_adds staged tell held was mid is n start meta (Err TooManyClusters) added later adds = adds
later_adds staged tell held was mid is n start meta (Err Memory) added later adds = adds
later_adds staged tell held was mid is n start meta (Err Fault) added later adds = (rose_later was mid is later adds.0, adds.1)

-- a refusal of the page list is one of the cluster
list_adds : {X : Type 0} (staged : Bool) (tell : X → ExtState) (held : Option Held) (was is n start : ℕ)
    (meta : ClusterMeta) (e : CommitError)
    (added : List (Entry ClusterMeta)) → ListAdds was is meta.context (Err e) added
    → CommitAdds {X = X} staged tell held was is n start meta (Err e) added × (limit_in e ≡ None)
list_adds staged tell held was is n start meta (RangeTooLarge len most) added adds = absurd adds
list_adds staged tell held was is n start meta (FileTooLarge end most) added adds = absurd adds
list_adds staged tell held was is n start meta TooManyClusters added adds = absurd adds
list_adds staged tell held was is n start meta Memory added adds = (adds, refl)
list_adds staged tell held was is n start meta Fault added adds = (adds, refl)

module _ {D X : Type 0} (state : D → DiskState) (tell : X → ExtState) (meta : ClusterMeta) (v : LockedState D)
    (no_lists : v.birth.staged ≡ true → v.birth.group ≡ None)
    (place : NextPlace (book_of_birth state v.birth (history_of_locked state v)))
    (limits : limit_at (book_of_birth state v.birth (history_of_locked state v)) place meta.len ≡ None) where
  -- there was no room in the book
  pub no_room : Commits state v.birth.staged tell meta v v (Err Memory)
  no_room = record {
    place = place;
    no_lists = no_lists;
    limits = λ looked. limits;
    added = [];
    grows = sym (append-nil (history_of_locked state v));
    adds = refl;
  }

  module _ (w : LockedState D) (spare : ℕ) (room : w ≡ record v { book = record v.book { spare = spare } }) where
    -- the page list was refused
    pub list_refused : (new : LockedState D) (e : CommitError) → AppendsList state meta.context w new (Err e)
        → Commits state v.birth.staged tell meta v new (Err e)
    list_refused new e appends =
        let adds = list_adds v.birth.staged tell (state v.birth.begun).held (state v.disk).faults (state new.disk).faults
        (locked_count state v)
        (place.before + place.due) meta e appends.added
        (subst (λ (x : LockedState D). ListAdds (state x.disk).faults (state new.disk).faults meta.context (Err e) appends.added) room
        appends.adds) in
        record {
          place = place;
          no_lists = no_lists;
          limits = λ looked. limits ∙ sym adds.1;
          added = appends.added;
          grows = subst (λ (x : LockedState D). HistoryGrows state x new appends.added) room appends.grows;
          adds = adds.0;
        }

    -- the cluster was appended behind it, or refused
    pub commits_behind : (mid new : LockedState D) (done : Unit) → (first : AppendsList state meta.context w mid (Ok done))
        → mid.birth ≡ w.birth → book_end mid.book ≡ place.before + place.due
        → (result : Result (Claim X) CommitError) → AppendsCluster state mid.birth.staged tell meta mid new result
        → Commits state v.birth.staged tell meta v new result
    commits_behind mid new done first birth end result rest =
        let grows = subst (λ (x : LockedState D). HistoryGrows state x mid first.added) room first.grows in
        let later : (state v.disk).faults ≤ (state mid.disk).faults =
        subst (λ (x : LockedState D). (state x.disk).faults ≤ (state mid.disk).faults) room first.later in
        let born : mid.birth ≡ v.birth = birth ∙ ap (λ (x : LockedState D). x.birth) room in
        let none : first.added ≡ [] = first.adds in
        let same : history_of_locked state mid ≡ history_of_locked state v =
        grows ∙ (ap (λ (l : List (Entry ClusterMeta)). history_of_locked state v ++ l) none
        ∙ append-nil (history_of_locked state v)) in
        let count : locked_count state mid ≡ locked_count state v =
        ap (λ (l : List (Entry ClusterMeta)). length (ranges_of l)) same in
        record {
          place = place;
          no_lists = no_lists;
          limits = λ looked. limits ∙ sym rest.passes_none;
          added = rest.added;
          grows = rest.grows ∙ ap (λ (l : List (Entry ClusterMeta)). l ++ rest.added) same;
          adds = later_adds v.birth.staged tell (state v.birth.begun).held (state v.disk).faults (state mid.disk).faults
              (state new.disk).faults (locked_count state v) (place.before + place.due) meta result rest.added later
              (subst (λ (b : Birth D). CommitAdds b.staged tell (state b.begun).held (state mid.disk).faults (state new.disk).faults
              (locked_count state v) (place.before + place.due) meta result rest.added) born
              (subst (λ (n : ℕ). CommitAdds mid.birth.staged tell (state mid.birth.begun).held (state mid.disk).faults
              (state new.disk).faults n (place.before + place.due) meta result rest.added) count
              (subst (λ (start : ℕ). CommitAdds mid.birth.staged tell (state mid.birth.begun).held (state mid.disk).faults
              (state new.disk).faults (locked_count state mid) start meta result rest.added) end rest.adds)));
        }
