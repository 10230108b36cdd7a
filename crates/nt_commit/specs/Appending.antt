-- The page list that is due and the cluster behind it, as they are appended while the turn is held.
use Rattle.std.specs.Prelude.{◌≡◌, ℕ, ◌+◌, ◌<◌, ◌≤◌, Bool, true, false, List, [], ◌∷◌, ◌++◌, length, replicate, if◌then◌else◌}
use Rattle.std.specs.Prelude.{None, Result, Ok, Err, OnOk}
use Rattle.nt_outside.specs.Range.{ExtState}
use Rattle.nt_outside.specs.Disk.{DiskState}
use Rattle.nt_outside.specs.Faults.{Rose}
use Rattle.nt_container.specs.Lengths.{blob_key_len}
use Rattle.nt_machine.specs.Deal.{times}
use Rattle.nt_machine.specs.declared.entry.Entry.{Entry}
use Rattle.nt_machine.specs.History.{publishers_of}
use Rattle.nt_book.specs.declared.meta.ClusterMeta.{ClusterMeta}
use Rattle.nt_book.specs.Books.{BookData, book_ranges, book_end, is_due}
use Rattle.nt_book.specs.Limiting.{limit_error}
use Rattle.nt_book.specs.Entries.{faulted_entry}
use Rattle.nt_book.specs.Pages.{IsPaged}
use Rattle.nt_pagelists.specs.Due.{due_object}
use Rattle.nt_commit.specs.declared.claim.Claim.{Claim}
use Rattle.nt_commit.specs.declared.error.CommitError.{CommitError}
use Rattle.nt_commit.specs.declared.error.CommitError.TheVariants.{RangeTooLarge, FileTooLarge, TooManyClusters, Memory, Fault}
use Rattle.nt_commit.specs.Claims.{CommitAdds, limit_answered}
use Rattle.nt_commit.specs.Holds.{HistoryGrows, locked_count}
use Rattle.nt_commit.specs.Locked.{LockedState}

-- the page list that is due behind room for its key; nothing where none is due
abbrev pub due_bytes : BookData → List ℕ
due_bytes book = if is_due book then replicate blob_key_len 0 ++ due_object book else []

-- the page list that is due, behind room for its key
pub record IsDueList (book : BookData) (list : List ℕ) : Type 0 where
  pub due : is_due book ≡ true
  pub is : list ≡ replicate blob_key_len 0 ++ due_object book

-- a page list of so many bytes keeps the limits of a book, which has room for it
pub record FitsList (book : BookData) (len : ℕ) : Type 0 where
  pub short : len ≤ book.limits.range
  pub within : book_end book + len ≤ book.limits.file
  pub spare : 0 < book.spare

-- where clusters are staged, this context hasn't published
abbrev pub MayReserve : BookData → ℕ → Type 0
MayReserve book context = book.staged ≡ true → times context (publishers_of book.history) ≡ 0

-- a cluster keeps the limits of a book, which has room for it and is due no page list; its context hasn't published
pub record FitsCluster (book : BookData) (meta : ClusterMeta) : Type 0 where
  pub limits : limit_error book.limits (book_end book) (length (book_ranges book)) meta.len ≡ None
  pub spare : 0 < book.spare
  pub not_due : is_due book ≡ false
  pub before : MayReserve book meta.context

-- and it has a list of pages for each column, which lie in it
pub record IsEnterable (book : BookData) (meta : ClusterMeta) : Type 0 where
  pub fits : FitsCluster book meta
  pub lists : length meta.pages ≡ length book.firsts
  pub paged : IsPaged meta

-- the page list that was due is noted behind the ranges, and so none is due
pub record IsListNoted (old new : BookData) : Type 0 where
  pub limits : new.limits ≡ old.limits
  pub history : new.history ≡ old.history
  pub end : book_end new ≡ book_end old + length (due_bytes old)
  pub spare : new.spare ≡ old.spare
  pub not_due : is_due new ≡ false

-- what the append of a page list adds to the history: after a fault its count, which rose; else nothing
abbrev pub ListAdds : ℕ → ℕ → ℕ → Result Unit CommitError → List (Entry ClusterMeta) → Type 0
ListAdds was is context (Ok done) added = added ≡ []
ListAdds was is context (Err (RangeTooLarge len most)) added = ⊥
ListAdds was is context (Err (FileTooLarge end most)) added = ⊥
ListAdds was is context (Err TooManyClusters) added = ⊥
ListAdds was is context (Err Memory) added = added ≡ []
ListAdds was is context (Err Fault) added = Rose was is × (added ≡ faulted_entry context is ∷ [])

module _ {D : Type 0} (state : D → DiskState) where
  -- the page list that was due was appended and noted, or refused
  pub record AppendsList (context : ℕ) (old new : LockedState D) (result : Result Unit CommitError) : Type 0 where
    pub added : List (Entry ClusterMeta)
    pub grows : HistoryGrows state old new added
    pub adds : ListAdds (state old.disk).faults (state new.disk).faults context result added
    pub later : (state old.disk).faults ≤ (state new.disk).faults
    pub listed : OnOk result (IsListNoted old.book new.book)

  -- a cluster that passes no limit was appended, or refused
  pub record AppendsCluster {X : Type 0} (staged : Bool) (tell : X → ExtState) (meta : ClusterMeta) (old new : LockedState D)
      (result : Result (Claim X) CommitError) : Type 0 where
    pub added : List (Entry ClusterMeta)
    pub grows : HistoryGrows state old new added
    pub adds : CommitAdds staged tell (state old.birth.begun).held (state old.disk).faults (state new.disk).faults (locked_count state old)
        (book_end old.book) meta result added
    pub passes_none : limit_answered result ≡ None
