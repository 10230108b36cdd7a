-- What the writing of a selection leaves of its disk.
use Rattle.std.specs.Prelude.{◌≡◌, ◌⊎◌, ℕ, ◌<◌, ◌≤◌, true, List, [], Some, Result, Ok, Err}
use Rattle.nt_num.specs.declared.fault.ReadError.{ReadError}
use Rattle.nt_types.specs.ShapeData.{MemberData}
use Rattle.nt_types.specs.TreeData.{TreesData}
use Rattle.nt_outside.specs.Faults.{Rose}
use Rattle.nt_outside.specs.Held.{nothing_held}
use Rattle.nt_outside.specs.Order.{BeginsOpen, EndsInSync}
use Rattle.nt_outside.specs.Disk.{DiskState}
use Rattle.nt_outside.specs.File.{FileState}
use Rattle.nt_grammar.specs.Rows.{Rows}
use Rattle.nt_book.specs.declared.params.Params.{Params}
use Rattle.nt_close.specs.Laws.{EndsOverFirst}
use Rattle.nt_file_meaning.specs.Outlines.{Outline}
use Rattle.nt_seq.specs.Writer.{SeqState, gathered_by}
use Rattle.nt_store.specs.Writing.{HoldsNow}
use Rattle.nt_script.specs.declared.storing.Counts.{Counts}
use Rattle.nt_script.specs.Filing.{IsOpenFileOf, IsWrittenOrdered}
use Rattle.nt_script.specs.Taking.{HasTakenLines, HasJustFields}
use Rattle.nt_skim.specs.Select.{Selection, selected, entries_read, before_fault, cluster_readings}
use Rattle.nt_skim_file.specs.declared.error.SkimStoreError.{SkimStoreError}
use Rattle.nt_skim_file.specs.declared.error.SkimStoreError.TheVariants.{Outside, Memory, Defect, Unplanned, Limit}
use Rattle.nt_skim_file.specs.Whole.{IsSelectedFile, IsWholeSelection, AreSelectedNumbers, PassesSelected}
use Rattle.nt_skim_file.specs.Crashes.{SkimCrash}

-- what is left of the disk of a file of these entries, all of which are taken, by the answer
abbrev pub EntriesTold : Params → List MemberData → List TreesData → DiskState → Result Counts SkimStoreError → Type 0
EntriesTold p fields entries disk (Ok counts) =
    HoldsNow disk.held (λ h. IsSelectedFile p fields entries h.image × EndsInSync h.log) × AreSelectedNumbers p entries counts
EntriesTold p fields entries disk (Err Outside) =
    HoldsNow disk.held IsOpenFileOf ⊎ HoldsNow disk.held (λ h. IsSelectedFile p fields entries h.image × EndsOverFirst h.log)
EntriesTold p fields entries disk (Err Memory) = HoldsNow disk.held (λ h. BeginsOpen h.image)
EntriesTold p fields entries disk (Err (Limit reached most)) =
    PassesSelected p fields entries reached most × HoldsNow disk.held (λ h. BeginsOpen h.image)
EntriesTold p fields entries disk (Err (Defect e)) = ⊥
EntriesTold p fields entries disk (Err (Unplanned e)) = ⊥

-- the same, and what a crash leaves of the file
pub record LeavesEntries (p : Params) (fields : List MemberData) (entries : List TreesData) (disk : DiskState)
    (result : Result Counts SkimStoreError) : Type 0 where
  pub told : EntriesTold p fields entries disk result
  pub crash : HoldsNow disk.held (λ h. SkimCrash (IsSelectedFile p fields entries) h.log result)

-- what is left of the disk of a file of what is selected of clusters that are read as these, by the answer
abbrev pub SelectionTold : Params → Selection → List (Result (List TreesData) ReadError) → DiskState → Result Counts SkimStoreError → Type 0
SelectionTold p s rs disk (Ok counts) =
    (entries : List TreesData) × (entries_read rs ≡ Ok entries)
    × HoldsNow disk.held (λ h. IsSelectedFile p s.fields (selected s entries) h.image × EndsInSync h.log)
    × AreSelectedNumbers p (selected s entries) counts
SelectionTold p s rs disk (Err Outside) =
    HoldsNow disk.held IsOpenFileOf ⊎ HoldsNow disk.held (λ h. IsWholeSelection p s rs h.image × EndsOverFirst h.log)
SelectionTold p s rs disk (Err Memory) = HoldsNow disk.held (λ h. BeginsOpen h.image)
SelectionTold p s rs disk (Err (Defect e)) = (entries_read rs ≡ Err e) × HoldsNow disk.held (λ h. BeginsOpen h.image)
SelectionTold p s rs disk (Err (Limit reached most)) =
    PassesSelected p s.fields (selected s (before_fault rs)) reached most × HoldsNow disk.held (λ h. BeginsOpen h.image)
SelectionTold p s rs disk (Err (Unplanned e)) = ⊥

-- the same, and what a crash leaves of the file
pub record LeavesSelection (p : Params) (s : Selection) (rs : List (Result (List TreesData) ReadError)) (disk : DiskState)
    (result : Result Counts SkimStoreError) : Type 0 where
  pub told : SelectionTold p s rs disk result
  pub crash : HoldsNow disk.held (λ h. SkimCrash (IsWholeSelection p s rs) h.log result)

-- the file keeps its bytes, and its count never falls
pub record KeepsFile (old new : FileState) : Type 0 where
  pub same : new.bytes ≡ old.bytes
  pub later : old.faults ≤ new.faults

-- the file of what is selected was written on an empty disk, or not
pub record WritesSelection (p : Params) (s : Selection) (o : Outline) (file file' : FileState) (disk disk' : DiskState)
    (result : Result Counts SkimStoreError) : Type 0 where
  pub left : (bytes : List ℕ) → file.bytes ≡ Some bytes → disk.held ≡ Some nothing_held
      → LeavesSelection p s (cluster_readings bytes o) disk' result
  pub order : disk.held ≡ Some nothing_held → IsWrittenOrdered disk'
  pub kept : KeepsFile file file'
  pub failed : result ≡ Err Outside → (0 < disk'.faults) ⊎ Rose file.faults file'.faults

module _ {D : Type 0} (state : D → DiskState) where
  -- a writer at the beginning, of these fields: it has taken nothing
  pub record IsNewWriterOf (fields : List MemberData) (w : SeqState D) : Type 0 where
    pub rows : Rows fields w.params.plain w.table
    pub just : HasJustFields fields w.table
    pub taken : HasTakenLines state [] [] w
    pub none : gathered_by w ≡ []
    pub alive : w.alive ≡ true

  module _ (w : SeqState D) where
    -- what is left of the disk of a writer that has taken all entries in this sense, and whose file was closed, or not
    pub record EndsEntries (Has : List TreesData → Type 0) (disk : D) (result : Result Counts SkimStoreError) : Type 0 where
      pub left : (fields : List MemberData) (entries : List TreesData) → Rows fields w.params.plain w.table → Has entries
          → (state w.given).held ≡ Some nothing_held → LeavesEntries w.params fields entries (state disk) result
      pub order : (state w.given).held ≡ Some nothing_held → IsWrittenOrdered (state disk)
      pub failed : result ≡ Err Outside → 0 < (state disk).faults

    -- the same of a writer at the beginning, which takes what is selected
    pub record EndsSelection (s : Selection) (o : Outline) (file file' : FileState) (disk : D) (result : Result Counts SkimStoreError) :
        Type 0 where
      pub left : (bytes : List ℕ) → file.bytes ≡ Some bytes → (state w.given).held ≡ Some nothing_held
          → LeavesSelection w.params s (cluster_readings bytes o) (state disk) result
      pub order : (state w.given).held ≡ Some nothing_held → IsWrittenOrdered (state disk)
      pub kept : KeepsFile file file'
      pub failed : result ≡ Err Outside → (0 < (state disk).faults) ⊎ Rose file.faults file'.faults
