-- What the closing of a file leaves.
use Rattle.std.specs.Prelude.{◌≡◌, ℕ, ◌≤◌, Bool, List, [], map, length, Option, Some, None, Result, Ok, Err, OnOk}
use Rattle.nt_outside.specs.Faults.{Rose}
use Rattle.nt_outside.specs.Held.{Held, Becomes, BecomesSome}
use Rattle.nt_outside.specs.Disk.{DiskState}
use Rattle.nt_machine.specs.History.{Cluster, ranges_of}
use Rattle.nt_grammar.specs.Table.{Table}
use Rattle.nt_schema.specs.Whole.{AreWhole}
use Rattle.nt_book.specs.declared.meta.ClusterMeta.{ClusterMeta}
use Rattle.nt_book.specs.declared.params.Params.{Params}
use Rattle.nt_book.specs.declared.limits.LimitError.{LimitError}
use Rattle.nt_book.specs.declared.limits.LimitError.TheVariants as limit
use Rattle.nt_book.specs.Books.{BookData, book_end}
use Rattle.nt_pagelists.specs.Blobs.{blob_len}
use Rattle.nt_layout.specs.Headers.{header_object, clusters_place}
use Rattle.nt_layout.specs.Finished.{finished}
use Rattle.nt_layout.specs.Laid.{IsWithin}
use Rattle.nt_close.specs.declared.error.CloseError.{CloseError}
use Rattle.nt_close.specs.declared.error.CloseError.TheVariants.{Spoiled, Torn, Unpublished, Memory, RangeTooLarge, FileTooLarge, Fault}
use Rattle.nt_close.specs.Steps.{closed_on, IsClosedPartly}
use Rattle.nt_close.specs.Passing.{passed_by_close, measures_of}
use Rattle.nt_close.specs.Beginning.{IsUntouched}
use Rattle.nt_close.specs.Spoiled.{IsFirstSpoiled}
use Rattle.nt_close.specs.Damage.{IsUndamaged, IsTornAt, IsUnpublishedAt}
use Rattle.nt_close.specs.Filled.{AreListsNoted, filled_file, closing_tail, closing_front}

-- a file can be closed: the book's ranges begin behind the header of its schema, with its page lists beside them unless its clusters are
-- staged, what is last of these ends the file, and no range is out; and a description holds the rows whole
pub record IsClosable (disk : DiskState) (book : BookData) (t : Table) (p : Params) : Type 0 where
  pub begin : book.begin ≡ clusters_place t
  pub noted : AreListsNoted t p book
  pub end : disk.end ≡ book_end book
  pub out : disk.out ≡ []
  pub whole : AreWhole t

-- the cause of an answer, in this order: the lowest spoiled range; a page list that failed; the lowest filled range that is no cluster; a
-- limit, the first that is passed; a step that failed. Want of memory has none
abbrev pub HasCloseCause : BookData → Option LimitError → Result Unit CloseError → Type 0
HasCloseCause book passed (Ok done) = IsUndamaged book × (passed ≡ None)
HasCloseCause book passed (Err (Spoiled cluster faults)) = IsFirstSpoiled book cluster faults
HasCloseCause book passed (Err (Torn group faults)) = IsTornAt book group faults
HasCloseCause book passed (Err (Unpublished range)) = IsUnpublishedAt book range
HasCloseCause book passed (Err Memory) = IsUndamaged book
HasCloseCause book passed (Err (RangeTooLarge len most)) = IsUndamaged book × (passed ≡ Some (limit.RangeTooLarge len most))
HasCloseCause book passed (Err (FileTooLarge end most)) = IsUndamaged book × (passed ≡ Some (limit.FileTooLarge end most))
HasCloseCause book passed (Err Fault) = IsUndamaged book × (passed ≡ None)

-- all steps were taken
pub record IsClosed (tail front : List ℕ) (old new : DiskState) : Type 0 where
  pub held : Becomes old.held new.held (closed_on tail front)
  pub out : new.out ≡ []
  pub later : old.faults ≤ new.faults

-- a step failed, and those before it were taken
pub record IsCloseCut (tail front : List ℕ) (old new : DiskState) : Type 0 where
  pub held : BecomesSome old.held new.held (IsClosedPartly tail front)
  pub out : new.out ≡ []
  pub rose : Rose old.faults new.faults

-- what is left after an answer: all steps, those before the one that failed, or none
abbrev pub LeavesClosed : List ℕ → List ℕ → DiskState → DiskState → Result Unit CloseError → Type 0
LeavesClosed tail front old new (Ok done) = IsClosed tail front old new
LeavesClosed tail front old new (Err (Spoiled cluster faults)) = IsUntouched old new
LeavesClosed tail front old new (Err (Torn group faults)) = IsUntouched old new
LeavesClosed tail front old new (Err (Unpublished range)) = IsUntouched old new
LeavesClosed tail front old new (Err Memory) = IsUntouched old new
LeavesClosed tail front old new (Err (RangeTooLarge len most)) = IsUntouched old new
LeavesClosed tail front old new (Err (FileTooLarge end most)) = IsUntouched old new
LeavesClosed tail front old new (Err Fault) = IsCloseCut tail front old new

-- one range for each of a book, of its length
abbrev pub AreRangesOf : BookData → List (List ℕ) → Type 0
AreRangesOf book ranges = map length ranges ≡ map (λ (c : Cluster ClusterMeta). c.len) (ranges_of book.history)

-- where a file was filled with ranges of a book, whatever their bytes, it is the finished file with these ranges
abbrev pub BecomesFinished : Bool → Table → BookData → ℕ → Option Held → Option Held → Type 0
BecomesFinished staged t book most old new =
    (ranges : List (List ℕ)) → AreRangesOf book ranges → (h : Held) → old ≡ Some h → h.image ≡ filled_file staged t book most ranges
    → (h' : Held) × (new ≡ Some h') × (h'.image ≡ finished staged t book most ranges)

-- if the header's blob is within the limits, so are all blobs and the file
abbrev pub StaysWithin : Table → Params → BookData → Type 0
StaysWithin t p book = blob_len (length (header_object t)) ≤ p.limits.range → IsWithin t (measures_of p) book

-- a file is finished, within the limits
pub record EndsFinished (t : Table) (p : Params) (book : BookData) (old new : Option Held) : Type 0 where
  pub file : BecomesFinished p.staged t book p.group old new
  pub within : StaysWithin t p book

-- what a close does with the file of a schema and a book: why it answers so, which steps it took, and that the file is finished after Ok
pub record ClosesOnDisk (t : Table) (p : Params) (book : BookData) (old new : DiskState) (result : Result Unit CloseError) : Type 0 where
  pub cause : HasCloseCause book (passed_by_close p t book) result
  pub left : LeavesClosed (closing_tail p.staged t book p.group) (closing_front p.staged t book p.group) old new result
  pub finished : OnOk result (EndsFinished t p book old.held new.held)
