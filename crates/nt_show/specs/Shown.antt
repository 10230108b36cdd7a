-- What is read of a file, and what is printed of it.
use Rattle.std.specs.Prelude.{◌≡◌, ◌⊎◌, ℕ, ◌≤◌, List, [], ◌++◌, Option, Some, Result, Ok, Err, IsErrOf}
use Rattle.nt_num.specs.declared.fault.ReadError.{ReadError}
use Rattle.nt_types.specs.TreeData.{TreesData}
use Rattle.nt_grammar.specs.Table.{Table}
use Rattle.nt_file_meaning.specs.Outlines.{Outline, outline_of}
use Rattle.nt_file_meaning.specs.Files.{read_file}
use Rattle.nt_outside.specs.declared.stream.Stream.TheVariants.{ToOut}
use Rattle.nt_outside.specs.Faults.{Rose}
use Rattle.nt_outside.specs.File.{FileState}
use Rattle.nt_outside.specs.World.{World, HostState, prints}
use Rattle.nt_tfile.specs.declared.failure.ReadFailure.{ReadFailure}
use Rattle.nt_tfile.specs.declared.failure.ReadFailure.TheVariants.{Defect, Fault, Memory}
use Rattle.nt_show.specs.declared.entry_range.EntryRange.{EntryRange}
use Rattle.nt_show.specs.Ranges.{entry_lines, range_lines}
use Rattle.nt_show.specs.Listing.{sound_clusters}
use Rattle.nt_show.specs.Fields.{fields_told}
use Rattle.nt_show.specs.Gathering.{OnlyPrints}

-- what is read of a file, what is printed of what was read, and what is printed of a file with a fault before that is told
pub record Shown (V : Type 0) : Type 0 where
  pub reading : List ℕ → Result V ReadError
  pub whole : V → List ℕ
  pub before_fault : List ℕ → List ℕ

-- its entries, those of them that lie in a range as lines; before a fault, of the clusters before it
abbrev pub entries_shown : EntryRange → Shown (Table × List (List TreesData))
entries_shown range = record {
  reading = read_file;
  whole = λ read. range_lines range read.1;
  before_fault = λ file. range_lines range (sound_clusters file);
}

-- its outline, as a line for each field; nothing before a fault
abbrev pub fields_shown : Shown Outline
fields_shown = record {
  reading = outline_of;
  whole = λ outline. entry_lines (fields_told outline.table);
  before_fault = λ file. [];
}

-- what is printed of a file, by what is read of it
abbrev pub text_by : {V : Type 0} → Shown V → List ℕ → Result V ReadError → List ℕ
text_by s file (Ok read) = s.whole read
text_by s file (Err e) = s.before_fault file

-- what is printed of a file
abbrev pub shown_text : {V : Type 0} → Shown V → List ℕ → List ℕ
shown_text s file = text_by s file (s.reading file)

-- out gained the front of a text
abbrev pub PrintsFrontOf : List ℕ → World → Option World → Type 0
PrintsFrontOf shown w new = (printed left : List ℕ) × (new ≡ Some (prints ToOut printed w)) × (shown ≡ printed ++ left)

-- what was printed of a file with these bytes, by the answer
abbrev pub Printed : {V : Type 0} → Shown V → List ℕ → World → Option World → Result Unit ReadFailure → Type 0
Printed {V} s file w new (Ok value) = (read : V) × (s.reading file ≡ Ok read) × (new ≡ Some (prints ToOut (s.whole read) w))
Printed s file w new (Err (Defect e)) = (s.reading file ≡ Err e) × (new ≡ Some (prints ToOut (s.before_fault file) w))
Printed s file w new (Err Fault) = PrintsFrontOf (shown_text s file) w new
Printed s file w new (Err Memory) = PrintsFrontOf (shown_text s file) w new

-- a file was read and shown on a host
pub record ShowsFile {V : Type 0} (s : Shown V) (old new : HostState) (file file' : FileState)
    (result : Result Unit ReadFailure) : Type 0 where
  -- where the host and the file tell what they hold
  pub told : (w : World) (b : List ℕ) → old.world ≡ Some w → file.bytes ≡ Some b → Printed s b w new.world result
  pub later : old.faults ≤ new.faults
  pub file_later : file.faults ≤ file'.faults
  -- the outside is blamed only where it failed
  pub fault : IsErrOf result Fault → Rose old.faults new.faults ⊎ Rose file.faults file'.faults
  pub rest : OnlyPrints old new
