-- What the closing of a sequential writer leaves.
use Rattle.std.specs.Prelude.{ℕ, ◌≡◌, ◌⊎◌, List, length, Result, Ok, Err, OnOk, OnErr}
use Rattle.std.specs.List.{AllByRecursion}
use Rattle.nt_types.specs.ShapeData.{MemberData}
use Rattle.nt_types.specs.TreeData.{TreesData}
use Rattle.nt_outside.specs.Disk.{DiskState}
use Rattle.nt_outside.specs.Held.{Held}
use Rattle.nt_outside.specs.Order.{FirstByteLast}
use Rattle.nt_grammar.specs.ReadingBack.{IsDescribed}
use Rattle.nt_grammar.specs.Rows.{Rows}
use Rattle.nt_book.specs.Books.{book_clusters}
use Rattle.nt_layout.specs.Laid.{IsLaid}
use Rattle.nt_close.specs.declared.error.CloseError.{CloseError}
use Rattle.nt_close.specs.Closing.{HasCloseCause, LeavesClosed}
use Rattle.nt_close.specs.Crashes.{LeavesByAnswer}
use Rattle.nt_close.specs.Laws.{IsShut, EndsOverFirst}
use Rattle.nt_close.specs.Passing.{passed_by_close, measures_of}
use Rattle.nt_close.specs.Damage.{IsUndamaged}
use Rattle.nt_close.specs.Filled.{closing_tail, closing_front}
use Rattle.nt_finished.specs.LateFiles.{IsLaidLate}
use Rattle.nt_seq.specs.Standing.{IsShortCluster}
use Rattle.nt_seq.specs.Writer.{SeqState}
use Rattle.nt_seq.specs.Written.{HasWritten, entries_of_clusters}

-- the answer without the numbers that it counts
abbrev pub done_of : Result (ℕ × ℕ) CloseError → Result Unit CloseError
done_of (Ok counts) = Ok tt
done_of (Err e) = Err e

module _ {D : Type 0} (w : SeqState D) where
  -- the cause of an answer: no range is spoiled and no page list failed, and so none is told
  pub record AnswersClosing (result : Result (ℕ × ℕ) CloseError) : Type 0 where
    pub undamaged : IsUndamaged w.book
    pub cause : HasCloseCause w.book (passed_by_close w.params w.table w.book) (done_of result)

module _ {D : Type 0} (state : D → DiskState) (w : SeqState D) where
  -- a file is laid out for the clusters that the writer has written, none of them longer than a range may get; where no field was added,
  -- as by a writer that adds none
  pub record IsFileOf (file : List ℕ) : Type 0 where
    pub described : IsDescribed w.table
    pub late : (clusters : List (List TreesData)) → HasWritten state w clusters
        → IsLaidLate file w.table clusters (measures_of w.params)
    pub short : (clusters : List (List TreesData)) (has : HasWritten state w clusters)
        → AllByRecursion (IsShortCluster w.params.limits) (book_clusters (late clusters has).book)
    pub first : (fields : List MemberData) → Rows fields w.params.plain w.table → (clusters : List (List TreesData))
        → HasWritten state w clusters → IsLaid file w.table clusters (measures_of w.params)

  -- the clusters and entries that the writer has written are so many
  abbrev pub AreCounts : ℕ → ℕ → Type 0
  AreCounts count entries =
      (clusters : List (List TreesData)) → HasWritten state w clusters
      → (count ≡ length clusters) × (entries ≡ entries_of_clusters clusters)

  -- the steps of a close that were taken, and all of them after Ok
  abbrev pub EndsFile : D → Result (ℕ × ℕ) CloseError → Type 0
  EndsFile disk result =
      LeavesClosed (closing_tail w.params.staged w.table w.book w.params.group)
      (closing_front w.params.staged w.table w.book w.params.group) (state w.disk) (state disk) (done_of result)

  -- the file stands there whole, and the last step, which may have failed, was that of its first byte: no sync behind it was done
  pub record IsWholeUnsynced (left : Held) : Type 0 where
    pub whole : IsFileOf left.image
    pub last : EndsOverFirst left.log

  -- after a refusal the first byte is 0, or it was written over and the file stands there whole
  abbrev pub IsShutOrWhole : Held → Type 0
  IsShutOrWhole left = IsShut left.image ⊎ IsWholeUnsynced left

  -- what a close leaves of a file: after Ok it is whole; in any case its steps are in order, and a crash at any of them leaves what isn't
  -- finished, or, once the first byte was written over, the whole file, and behind all steps of Ok only that
  pub record LeavesFile (left : Held) (result : Result (ℕ × ℕ) CloseError) : Type 0 where
    pub order : FirstByteLast left.log
    pub whole : OnOk result (IsFileOf left.image)
    pub shut : OnErr result (IsShutOrWhole left)
    pub crash : LeavesByAnswer IsFileOf left.log (done_of result)
