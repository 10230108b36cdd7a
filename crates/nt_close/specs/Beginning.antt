-- What the beginning of a file leaves.
use Rattle.std.specs.Prelude.{ℕ, ◌≡◌, ◌+◌, ◌≤◌, List, [], length, replicate, Option, Some, None}
use Rattle.nt_types.specs.ShapeData.{MemberData}
use Rattle.nt_outside.specs.Faults.{Rose}
use Rattle.nt_outside.specs.Held.{Becomes, BecomesSome}
use Rattle.nt_outside.specs.Disk.{DiskState, KeepsPlace}
use Rattle.nt_container.specs.Lengths.{begun_len}
use Rattle.nt_container.specs.Spelling.{begun}
use Rattle.nt_grammar.specs.Table.{Table}
use Rattle.nt_grammar.specs.Rows.{Rows}
use Rattle.nt_book.specs.Books.{BookData}
use Rattle.nt_book.specs.declared.limits.LimitError.{LimitError}
use Rattle.nt_book.specs.declared.limits.LimitError.TheVariants as limit
use Rattle.nt_book.specs.declared.params.Params.{Params}
use Rattle.nt_layout.specs.Headers.{header_blob, header_sum, clusters_place}
use Rattle.nt_layout.specs.Arranged.{group_for}
use Rattle.nt_cuts.specs.Cuts.{LeavesUnfinished}
use Rattle.nt_cuts.specs.Shut.{StaysShut}
use Rattle.nt_close.specs.declared.error.BeginError.{BeginError}
use Rattle.nt_close.specs.declared.error.BeginError.TheVariants.{Memory, RangeTooLarge, FileTooLarge, Fault}
use Rattle.nt_close.specs.Steps.{begun_on, IsBegunPartly}
use Rattle.nt_close.specs.Passing.{passed_by_begin}

-- what is held, its length, its ranges and the count of faults are as before
pub record IsUntouched (old new : DiskState) : Type 0 where
  pub place : KeepsPlace old new
  pub faults : new.faults ≡ old.faults

-- a new book: its ranges begin behind the header, no column is deferred, and its clusters are staged where the parameters say so; else page
-- lists stand beside them
abbrev pub new_book : Table → Params → BookData
new_book t p = record {
  begin = clusters_place t;
  limits = p.limits;
  firsts = replicate (length t.columns) 0;
  history = [];
  spare = 0;
  group = group_for p.staged p.group (header_sum t);
  lists = [];
  torn = None;
  staged = p.staged;
  ready = None;
}

-- the file of this schema is begun with this book, within the limits; it is shut, and so a crash leaves what isn't finished
pub record IsBegunFor (t : Table) (p : Params) (old new : DiskState) (book : BookData) : Type 0 where
  pub book_is : book ≡ new_book t p
  pub within : passed_by_begin p.limits t ≡ None
  pub held : Becomes old.held new.held (begun_on (begun 0 0 0) (header_blob t))
  pub crash : BecomesSome old.held new.held (λ h h'. StaysShut h'.log × LeavesUnfinished h'.log)
  pub end : new.end ≡ clusters_place t
  pub out : new.out ≡ old.out
  pub later : old.faults ≤ new.faults

-- that of these fields is begun, with their schema
pub record IsBegun (ps : List MemberData) (p : Params) (old new : DiskState) (book : BookData) (t : Table) : Type 0 where
  pub rows : Rows ps p.plain t
  pub book_is : book ≡ new_book t p
  pub within : passed_by_begin p.limits t ≡ None
  pub held : Becomes old.held new.held (begun_on (begun 0 0 0) (header_blob t))
  pub crash : BecomesSome old.held new.held (λ h h'. StaysShut h'.log × LeavesUnfinished h'.log)
  pub end : new.end ≡ clusters_place t
  pub out : new.out ≡ old.out
  pub later : old.faults ≤ new.faults

-- a step failed, and those before it were taken; a crash leaves what isn't finished
pub record IsBeginCutFor (t : Table) (p : Params) (old new : DiskState) : Type 0 where
  pub within : passed_by_begin p.limits t ≡ None
  pub held : BecomesSome old.held new.held (IsBegunPartly (begun 0 0 0) (header_blob t))
  pub crash : BecomesSome old.held new.held (λ h h'. LeavesUnfinished h'.log)
  pub out : new.out ≡ old.out
  pub rose : Rose old.faults new.faults

-- a limit is passed, and nothing was written
pub record IsTooLargeToBegin (ps : List MemberData) (p : Params) (passed : LimitError) (old new : DiskState) : Type 0 where
  pub table : Table
  pub rows : Rows ps p.plain table
  pub passed_is : passed_by_begin p.limits table ≡ Some passed
  pub untouched : IsUntouched old new

-- a step failed: the schema of these fields is begun so far
pub record IsBeginCut (ps : List MemberData) (p : Params) (old new : DiskState) : Type 0 where
  pub table : Table
  pub rows : Rows ps p.plain table
  pub within : passed_by_begin p.limits table ≡ None
  pub held : BecomesSome old.held new.held (IsBegunPartly (begun 0 0 0) (header_blob table))
  pub crash : BecomesSome old.held new.held (λ h h'. LeavesUnfinished h'.log)
  pub out : new.out ≡ old.out
  pub rose : Rose old.faults new.faults

-- the header's blob, behind which the clusters begin, and the header's checksum
pub record IsHeaderBlob (t : Table) (bytes : List ℕ) (sum : ℕ) : Type 0 where
  pub bytes_are : bytes ≡ header_blob t
  pub sum_is : sum ≡ header_sum t
  pub place : begun_len + length bytes ≡ clusters_place t

-- why the file of these fields isn't begun, and what is left then
abbrev pub IsNotBegun : List MemberData → Params → DiskState → DiskState → BeginError → Type 0
IsNotBegun ps p old new Memory = IsUntouched old new
IsNotBegun ps p old new (RangeTooLarge len most) = IsTooLargeToBegin ps p (limit.RangeTooLarge len most) old new
IsNotBegun ps p old new (FileTooLarge end most) = IsTooLargeToBegin ps p (limit.FileTooLarge end most) old new
IsNotBegun ps p old new Fault = IsBeginCut ps p old new

-- why the file of this schema isn't begun, and what is left then
abbrev pub IsNotBegunFor : Table → Params → DiskState → DiskState → BeginError → Type 0
IsNotBegunFor t p old new Memory = IsUntouched old new
IsNotBegunFor t p old new (RangeTooLarge len most) =
    (passed_by_begin p.limits t ≡ Some (limit.RangeTooLarge len most)) × IsUntouched old new
IsNotBegunFor t p old new (FileTooLarge end most) =
    (passed_by_begin p.limits t ≡ Some (limit.FileTooLarge end most)) × IsUntouched old new
IsNotBegunFor t p old new Fault = IsBeginCutFor t p old new

-- memory is wanting, or this limit is passed
abbrev pub IsBeginPassed : Option LimitError → BeginError → Type 0
IsBeginPassed passed Memory = Unit {0}
IsBeginPassed passed (RangeTooLarge len most) = passed ≡ Some (limit.RangeTooLarge len most)
IsBeginPassed passed (FileTooLarge end most) = passed ≡ Some (limit.FileTooLarge end most)
IsBeginPassed passed Fault = ⊥
