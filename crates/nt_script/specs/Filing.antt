-- What the writing of a script's file leaves of its disk.
use Rattle.std.specs.Prelude.{◌≡◌, ◌⊎◌, ℕ, ◌<◌, List, length, Some, Result, Ok, Err}
use Rattle.nt_types.specs.ShapeData.{MemberData}
use Rattle.nt_outside.specs.Faults.{Rose}
use Rattle.nt_outside.specs.Held.{Held, nothing_held}
use Rattle.nt_outside.specs.Order.{FirstByteLast, BeginsOpen, EndsInSync}
use Rattle.nt_outside.specs.Disk.{DiskState}
use Rattle.nt_outside.specs.Source.{SourceState}
use Rattle.nt_grammar.specs.Rows.{Rows}
use Rattle.nt_grammar.specs.Table.{Table}
use Rattle.nt_event.specs.Lines.{LinesState}
use Rattle.nt_book.specs.declared.params.Params.{Params}
use Rattle.nt_close.specs.Laws.{EndsOverFirst}
use Rattle.nt_seq.specs.Writer.{SeqState}
use Rattle.nt_seq.specs.Written.{entries_of_clusters}
use Rattle.nt_store.specs.Writing.{HoldsNow, NeverBegan}
use Rattle.nt_script.specs.declared.storing.Counts.{Counts}
use Rattle.nt_script.specs.declared.store_error.ScriptStoreError.{ScriptStoreError}
use Rattle.nt_script.specs.declared.store_error.ScriptStoreError.TheVariants.{Outside, Memory, Schema, Line, Limit}
use Rattle.nt_script.specs.Script.{BadScriptLine, read_script}
use Rattle.nt_script.specs.Clusters.{bad_line}
use Rattle.nt_script.specs.Passing.{PassesNoneBefore, PassesLimit}
use Rattle.nt_script.specs.Running.{IsDoneScript}
use Rattle.nt_script.specs.Whole.{clusters_of_text, IsScriptFile}
use Rattle.nt_script.specs.Crashes.{ScriptCrash}

-- these are the numbers of a script's clusters and entries
pub record AreNumbersOf (p : Params) (fields : List MemberData) (text : List ℕ) (counts : Counts) : Type 0 where
  pub clusters : counts.clusters ≡ length (clusters_of_text p fields text)
  pub entries : counts.entries ≡ entries_of_clusters (clusters_of_text p fields text)

-- the file may not pass for finished, or nothing is known of it since its first append failed
abbrev pub IsOpenFileOf : Held → Type 0
IsOpenFileOf h = BeginsOpen h.image ⊎ NeverBegan h

-- a script has this first bad line, and what is written in front of it passes no limit
pub record IsBadAt (fields : List MemberData) (p : Params) (text : List ℕ) (bad : BadScriptLine) : Type 0 where
  pub first : bad_line (read_script fields text) ≡ Some bad
  pub before : PassesNoneBefore fields p (read_script fields text) bad

-- what is left of the disk, by the answer
abbrev pub ScriptFileTold : List MemberData → Params → List ℕ → DiskState → Result Counts ScriptStoreError → Type 0
ScriptFileTold fields p text disk (Ok counts) =
    HoldsNow disk.held (λ h. IsScriptFile p fields text h.image × EndsInSync h.log) × AreNumbersOf p fields text counts
ScriptFileTold fields p text disk (Err Outside) =
    HoldsNow disk.held IsOpenFileOf ⊎ HoldsNow disk.held (λ h. IsScriptFile p fields text h.image × EndsOverFirst h.log)
ScriptFileTold fields p text disk (Err Memory) = HoldsNow disk.held (λ h. BeginsOpen h.image)
ScriptFileTold fields p text disk (Err (Line line kind)) =
    IsBadAt fields p text (record { line = line; kind = kind }) × HoldsNow disk.held (λ h. BeginsOpen h.image)
ScriptFileTold fields p text disk (Err (Limit reached most)) =
    PassesLimit fields p (read_script fields text) reached most × HoldsNow disk.held (λ h. BeginsOpen h.image)
ScriptFileTold fields p text disk (Err (Schema line kind)) = ⊥

-- the same, and what a crash leaves of the file
pub record LeavesScriptFile (fields : List MemberData) (p : Params) (text : List ℕ) (disk : DiskState) (result : Result Counts
    ScriptStoreError) : Type 0 where
  pub told : ScriptFileTold fields p text disk result
  pub crash : HoldsNow disk.held (λ h. ScriptCrash (IsScriptFile p fields text) h.log result)

-- the steps of the disk are in order
abbrev pub IsWrittenOrdered : DiskState → Type 0
IsWrittenOrdered disk = HoldsNow disk.held (λ h. FirstByteLast h.log)

-- the file of these fields and the lines of a text was written on an empty disk, or not
pub record WritesLines (fields : List MemberData) (p : Params) (old new : LinesState) (disk disk' : DiskState)
    (result : Result Counts ScriptStoreError) : Type 0 where
  pub left : (bytes : List ℕ) → old.left ≡ Some bytes → disk.held ≡ Some nothing_held → LeavesScriptFile fields p bytes disk' result
  pub order : disk.held ≡ Some nothing_held → IsWrittenOrdered disk'
  pub failed : result ≡ Err Outside → (0 < disk'.faults) ⊎ Rose old.faults new.faults

-- the same of a text that came back
pub record WritesScript (fields : List MemberData) (p : Params) (text text' : SourceState) (disk disk' : DiskState)
    (result : Result Counts ScriptStoreError) : Type 0 where
  pub left : (bytes : List ℕ) → text.left ≡ Some bytes → disk.held ≡ Some nothing_held → LeavesScriptFile fields p bytes disk' result
  pub order : disk.held ≡ Some nothing_held → IsWrittenOrdered disk'
  pub failed : result ≡ Err Outside → (0 < disk'.faults) ⊎ (0 < text'.faults)

module _ {D : Type 0} (state : D → DiskState) (w : SeqState D) where
  -- what is left of the disk of a writer that has written a whole script, and whose file was closed, or not
  pub record FinishesScript (disk : D) (result : Result Counts ScriptStoreError) : Type 0 where
    pub left : (fields : List MemberData) (text : List ℕ) (first : Table) (p : Params) → Rows fields p.plain first
        → IsDoneScript state fields (Some text) first p w → (state w.given).held ≡ Some nothing_held
        → LeavesScriptFile fields p text (state disk) result
    pub order : (state w.given).held ≡ Some nothing_held → IsWrittenOrdered (state disk)
    pub failed : result ≡ Err Outside → 0 < (state disk).faults

  -- the same of a writer whose script begins
  pub record FilesScript (fields : List MemberData) (old new : LinesState) (disk : D) (result : Result Counts ScriptStoreError) :
      Type 0 where
    pub left : (text : List ℕ) → old.left ≡ Some text → (state w.given).held ≡ Some nothing_held
        → LeavesScriptFile fields w.params text (state disk) result
    pub order : (state w.given).held ≡ Some nothing_held → IsWrittenOrdered (state disk)
    pub failed : result ≡ Err Outside → (0 < (state disk).faults) ⊎ Rose old.faults new.faults
