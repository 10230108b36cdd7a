-- How a context ends.
use Rattle.std.specs.Prelude.{◌≡◌, ◌⊎◌, ℕ, ◌+◌, ◌≤◌, Bool, true, false, List, [], length, take, Option, Some, None, Result, Ok, Err}
use Rattle.nt_types.specs.ShapeData.{MembersData}
use Rattle.nt_types.specs.TreeData.{TreesData}
use Rattle.nt_outside.specs.Disk.{DiskState}
use Rattle.nt_outside.specs.Faults.{Rose}
use Rattle.nt_lists.specs.Chunks.{chunks}
use Rattle.nt_machine.specs.History.{ranges_of}
use Rattle.nt_book.specs.declared.limits.LimitError.TheVariants as limit
use Rattle.nt_commit.specs.Locked.{book_of_birth}
use Rattle.nt_commit.specs.declared.error.CommitError.{CommitError}
use Rattle.nt_commit.specs.declared.error.CommitError.TheVariants as commit
use Rattle.nt_event.specs.Lines.{LinesState}
use Rattle.nt_event.specs.Limits.{max_number}
use Rattle.nt_event.specs.declared.fault.TextKind.TheVariants.{TooLong}
use Rattle.nt_event.specs.declared.lines.LineError.{LineError}
use Rattle.nt_event.specs.declared.lines.LineError.TheVariants as lines
use Rattle.nt_fill.specs.Flushes.{DiskContext}
use Rattle.nt_dealing.specs.EventText.{BadLine}
use Rattle.nt_dealing.specs.Limits.{NextPasses}
use Rattle.nt_dealing.specs.Failing.{whole_chunks}
use Rattle.nt_dealing.specs.Written.{CommittedFirst}
use Rattle.nt_contexts.specs.declared.error.ContextError.{ContextError}
use Rattle.nt_contexts.specs.declared.error.ContextError.TheVariants.{Text, Limit, Outside, Memory}
use Rattle.nt_contexts.specs.Reading.{HasRead, GivesJust}
use Rattle.nt_contexts.specs.Filling.{HasTaken, IsOpen, IsSameContext, HasWrittenAll, HaveFaults}

-- the error of a refused commit: its limit, a fault of the disk, or want of memory
abbrev pub context_error : CommitError → ContextError
context_error (commit.RangeTooLarge len most) = Limit (limit.RangeTooLarge len most)
context_error (commit.FileTooLarge end most) = Limit (limit.FileTooLarge end most)
context_error commit.TooManyClusters = Limit limit.TooManyClusters
context_error commit.Memory = Memory
context_error commit.Fault = Outside

-- the error of a line that was not given
abbrev pub error_of_line : LineError → ContextError
error_of_line lines.Fault = Outside
error_of_line (lines.TooLong line) = Text line TooLong
error_of_line lines.Memory = Memory

module _ {D P : Type 0} (state : D → DiskState) where
  -- why a context ended before its input did: a bad line, before which it committed just the whole chunks; a limit that the next of these
  -- chunks passes, which is whole or the last of an input without a bad line; a fault of its source, of the disk or of its pen; or want of
  -- memory
  abbrev pub IsCause : List (List TreesData) → Option BadLine → LinesState → LinesState → DiskContext D P → ContextError → Type 0
  IsCause all bad old new c (Text line kind) =
      (bad ≡ Some (record { line = line; kind = kind })) × (take (length (ranges_of c.pass.own)) all ≡ whole_chunks c.cluster all)
  IsCause all bad old new c (Limit error) =
      (next : NextPasses (book_of_birth state c.committer.birth []) c.table c.page all c.pass.own c.pass.seen error)
      × ((length next.chunk ≡ c.cluster) ⊎ (bad ≡ None))
  IsCause all bad old new c Outside = Rose old.faults new.faults ⊎ HaveFaults c.pass.own
  IsCause all bad old new c Memory = Unit {0}

  module _ (F : MembersData) (text : Option (List ℕ)) where
    -- a context goes on: the entries that it read are those that it took
    pub record GoesOn (start c : DiskContext D P) (lines : LinesState) : Type 0 where
      pub entries : List TreesData
      pub read : HasRead F text entries lines
      pub taken : HasTaken state entries c
      pub is_open : IsOpen c
      pub same : IsSameContext start c

    -- all entries of the text were taken
    pub record HasAll (start c : DiskContext D P) : Type 0 where
      pub entries : List TreesData
      pub read : GivesJust F text entries None
      pub taken : HasTaken state entries c
      pub is_open : IsOpen c
      pub same : IsSameContext start c

    -- all entries of the text were written in clusters
    pub record IsDone (start c : DiskContext D P) : Type 0 where
      pub entries : List TreesData
      pub read : GivesJust F text entries None
      pub written : HasWrittenAll state entries c
      pub same : IsSameContext start c

    -- of the entries up to the text's end or its first bad line, the context committed the first chunks, and ended for this reason
    pub record EndsEarly (start : DiskContext D P) (old new : LinesState) (c : DiskContext D P) (error : ContextError) : Type 0 where
      pub entries : List TreesData
      pub bad : Option BadLine
      pub read : GivesJust F text entries bad
      pub same : IsSameContext start c
      pub committed : CommittedFirst c.table c.page (chunks c.cluster entries) c.pass.own
      pub cause : IsCause (chunks c.cluster entries) bad old new c error

    -- the next line was taken, or there was none; or why the context ended
    abbrev pub ReadsLine : DiskContext D P → LinesState → LinesState → DiskContext D P → Result Bool ContextError → Type 0
    ReadsLine start old new c (Ok true) = GoesOn start c new × (new.number ≡ old.number + 1) × (new.number ≤ max_number)
    ReadsLine start old new c (Ok false) = HasAll start c
    ReadsLine start old new c (Err error) = EndsEarly start old new c error

    -- how a context that began so ended
    abbrev pub Ended : DiskContext D P → LinesState → LinesState → DiskContext D P → Result Unit ContextError → Type 0
    Ended start old new c (Ok done) = IsDone start c
    Ended start old new c (Err error) = EndsEarly start old new c error
