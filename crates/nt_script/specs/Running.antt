-- How a script ends.
use Rattle.std.specs.Prelude.{◌≡◌, ◌⊎◌, ℕ, ◌+◌, ◌<◌, ◌≤◌, Bool, true, false, List, [], ◌++◌, Option, Some, None, Result, Ok, Err}
use Rattle.nt_lists.specs.Chunks.{chunks}
use Rattle.nt_types.specs.ShapeData.{MemberData}
use Rattle.nt_types.specs.TreeData.{TreesData}
use Rattle.nt_outside.specs.Disk.{DiskState}
use Rattle.nt_outside.specs.Faults.{Rose}
use Rattle.nt_grammar.specs.Rows.{Rows}
use Rattle.nt_grammar.specs.Table.{Table}
use Rattle.nt_book.specs.declared.limits.LimitError.TheVariants as limit
use Rattle.nt_book.specs.declared.params.Params.{Params}
use Rattle.nt_commit.specs.declared.error.CommitError.{CommitError}
use Rattle.nt_commit.specs.declared.error.CommitError.TheVariants as commit
use Rattle.nt_event.specs.Lines.{LinesState}
use Rattle.nt_event.specs.Limits.{max_number}
use Rattle.nt_event.specs.declared.fault.TextKind.TheVariants.{TooLong}
use Rattle.nt_event.specs.declared.lines.LineError.{LineError}
use Rattle.nt_event.specs.declared.lines.LineError.TheVariants as lines
use Rattle.nt_seq.specs.Writer.{SeqState, gathered_by}
use Rattle.nt_seq.specs.Written.{HasWritten}
use Rattle.nt_script.specs.declared.error.LineFault.TheVariants.{Event}
use Rattle.nt_script.specs.declared.error.ScriptError.{ScriptError}
use Rattle.nt_script.specs.declared.error.ScriptError.TheVariants.{Line, Limit, Outside, Memory}
use Rattle.nt_script.specs.Script.{Script, last_entries}
use Rattle.nt_script.specs.Clusters.{bad_line, script_clusters, GrowsByScript}
use Rattle.nt_script.specs.Reading.{Segment, segment_fields, behind_segments, HasReadScript, GivesScript}
use Rattle.nt_script.specs.Taking.{GrowsBySegments, KeepsClusters, HasGrownBy, HasTakenLines, HasJustFields, IsOpenWriter}
use Rattle.nt_script.specs.Passing.{PassesWriting, PassesNoneBefore}

-- the error of clusters that weren't written
abbrev pub error_of_commit : CommitError → ScriptError
error_of_commit (commit.RangeTooLarge len most) = Limit (limit.RangeTooLarge len most)
error_of_commit (commit.FileTooLarge end most) = Limit (limit.FileTooLarge end most)
error_of_commit commit.TooManyClusters = Limit limit.TooManyClusters
error_of_commit commit.Memory = Memory
error_of_commit commit.Fault = Outside

-- the error of a line that was not given
abbrev pub error_of_lines : LineError → ScriptError
error_of_lines lines.Fault = Outside
error_of_lines (lines.TooLong line) = Line line (Event TooLong)
error_of_lines lines.Memory = Memory

module _ {D : Type 0} (state : D → DiskState) (F : List MemberData) where
  -- a writer at the beginning: of these fields, with nothing written and nothing gathered
  pub record IsFirstWriter (lines : LinesState) (w : SeqState D) : Type 0 where
    pub rows : Rows F w.params.plain w.table
    pub just : HasJustFields F w.table
    pub written : HasWritten state w []
    pub none : gathered_by w ≡ []
    pub alive : w.alive ≡ true
    pub number : lines.number ≡ 0

  module _ (text : Option (List ℕ)) (first : Table) (p : Params) where
    -- a script goes on: what was read of it was taken, by these fields and those that it added
    pub record GoesOnScript (G : List MemberData) (w : SeqState D) (lines : LinesState) : Type 0 where
      pub segments : List Segment
      pub entries : List TreesData
      pub fields : G ≡ F ++ segment_fields segments
      pub read : HasReadScript F text segments entries lines
      pub grown : HasGrownBy first G segments w
      pub taken : HasTakenLines state segments entries w
      pub is_open : IsOpenWriter w
      pub params : w.params ≡ p

    -- all of a text was read and taken, and none of its lines is bad
    pub record HasAllLines (G : List MemberData) (w : SeqState D) : Type 0 where
      pub segments : List Segment
      pub entries : List TreesData
      pub read : GivesScript F text (behind_segments segments [] (last_entries entries None))
      pub grown : HasGrownBy first G segments w
      pub taken : HasTakenLines state segments entries w
      pub is_open : IsOpenWriter w
      pub params : w.params ≡ p

    -- the clusters of the text are written, and its fields added
    pub record IsDoneScript (w : SeqState D) : Type 0 where
      pub script : Script
      pub read : GivesScript F text script
      pub sound : bad_line script ≡ None
      pub segments : List Segment
      pub entries : List TreesData
      pub script_is : script ≡ behind_segments segments [] (last_entries entries None)
      pub segments_grow : GrowsBySegments p first 0 segments w.table
      pub keeps : KeepsClusters segments (chunks p.cluster entries) w
      pub grows : GrowsByScript p.plain first 0 script w.table
      pub written : HasWritten state w (script_clusters p.cluster script)
      pub none : gathered_by w ≡ []
      pub alive : w.alive ≡ true
      pub params : w.params ≡ p

    -- why a script ends before its text does: its first bad line; a limit that is passed by what comes before; a fault of its source or
    -- of the disk; or want of memory
    abbrev pub EndsEarlyFor : LinesState → LinesState → SeqState D → ScriptError → Type 0
    EndsEarlyFor old new w (Line line kind) =
        (s : Script) × GivesScript F text s × (bad_line s ≡ Some (record { line = line; kind = kind }))
        × PassesNoneBefore F p s (record { line = line; kind = kind })
    EndsEarlyFor old new w (Limit error) = (s : Script) × GivesScript F text s × PassesWriting F p s error
    EndsEarlyFor old new w Outside = Rose old.faults new.faults ⊎ (0 < (state w.disk).faults)
    EndsEarlyFor old new w Memory = Unit {0}

    -- the next line was taken, or there was none; or why the script ends
    abbrev pub ReadsScriptLine : List MemberData → LinesState → LinesState → SeqState D → Result Bool ScriptError → Type 0
    ReadsScriptLine G old new w (Ok true) = GoesOnScript G w new × (new.number ≡ old.number + 1) × (new.number ≤ max_number)
    ReadsScriptLine G old new w (Ok false) = HasAllLines G w
    ReadsScriptLine G old new w (Err error) = EndsEarlyFor old new w error

    -- how a script ended
    abbrev pub EndedScript : LinesState → LinesState → SeqState D → Result Unit ScriptError → Type 0
    EndedScript old new w (Ok done) = IsDoneScript w
    EndedScript old new w (Err error) = EndsEarlyFor old new w error
