-- What is chosen of a file.
use Rattle.std.specs.Prelude.{◌≡◌, ◌⊎◌, ℕ, ◌<◌, List, length, Option, Some, Result, Ok, Err, IfOk, IsErrOf}
use Rattle.std.specs.List.{flat_map}
use Rattle.nt_num.specs.declared.fault.ReadError.{ReadError}
use Rattle.nt_types.specs.TreeData.{TreesData}
use Rattle.nt_types.specs.Rules.{AreFields}
use Rattle.nt_grammar.specs.Table.{Table}
use Rattle.nt_outside.specs.Faults.{Rose}
use Rattle.nt_outside.specs.File.{FileState}
use Rattle.nt_file_meaning.specs.Outlines.{Outline, outline_of}
use Rattle.nt_file_meaning.specs.Files.{Means}
use Rattle.nt_skim.specs.declared.error.PlanError.{PlanError}
use Rattle.nt_skim.specs.Planning.{NameTest, planned}
use Rattle.nt_skim.specs.Select.{Selection, FitsFields, selection_of, selected, before_fault, cluster_readings}
use Rattle.nt_skim_file.specs.declared.choosing.Chosen.{Chosen}
use Rattle.nt_skim_file.specs.declared.error.SkimStoreError.{SkimStoreError}
use Rattle.nt_skim_file.specs.declared.error.SkimStoreError.TheVariants.{Outside, Memory, Defect, Unplanned, Limit}
use Rattle.nt_skim_file.specs.Filing.{KeepsFile}

-- the fields of these names, in this order, of the entries that pass the test, if there is one
pub record SkimChoiceData : Type 0 where
  pub names : List (List ℕ)
  pub test : Option NameTest

-- a file has this outline, and of its schema this is chosen
pub record IsPlanned (c : SkimChoiceData) (bytes : List ℕ) (o : Outline) (s : Selection) : Type 0 where
  pub outline : outline_of bytes ≡ Ok o
  pub plan : planned o.table c.names c.test ≡ Ok s

-- it has an outline, and this is the first that stands against the plan
pub record IsUnplanned (c : SkimChoiceData) (bytes : List ℕ) (e : PlanError) : Type 0 where
  pub o : Outline
  pub outline : outline_of bytes ≡ Ok o
  pub plan : planned o.table c.names c.test ≡ Err e

-- it has no plan: its outline is refused, or something stands against the plan
abbrev pub HasNoPlan : SkimChoiceData → List ℕ → Type 0
HasNoPlan c bytes = ((e : ReadError) × (outline_of bytes ≡ Err e)) ⊎ ((e : PlanError) × IsUnplanned c bytes e)

-- all that is selected of a file: of the entries that it means, one cluster behind the other
pub record SelectsAll (c : SkimChoiceData) (bytes : List ℕ) (s : Selection) (entries : List TreesData) : Type 0 where
  pub table : Table
  pub clusters : List (List TreesData)
  pub means : Means bytes table clusters
  pub plan : planned table c.names c.test ≡ Ok s
  pub entries_are : entries ≡ selected s (flat_map (λ (c : List TreesData). c) clusters)

-- what is selected before the first fault of a file, if it has one
pub record SelectsBefore (c : SkimChoiceData) (bytes : List ℕ) (s : Selection) (entries : List TreesData) : Type 0 where
  pub o : Outline
  pub is_planned : IsPlanned c bytes o s
  pub entries_are : entries ≡ selected s (before_fault (cluster_readings bytes o))

-- what is chosen of a file, or why nothing is
abbrev pub ChosenTold : SkimChoiceData → List ℕ → Result Chosen SkimStoreError → Type 0
ChosenTold c bytes (Ok chosen) = IsPlanned c bytes chosen.reader (selection_of chosen.plan)
ChosenTold c bytes (Err Outside) = Unit {0}
ChosenTold c bytes (Err Memory) = Unit {0}
ChosenTold c bytes (Err (Defect e)) = outline_of bytes ≡ Err e
ChosenTold c bytes (Err (Unplanned e)) = IsUnplanned c bytes e
ChosenTold c bytes (Err (Limit reached limit)) = ⊥

-- what is chosen fits the fields of its plan, which keep the rules of fields
pub record IsFitPlan (chosen : Chosen) : Type 0 where
  pub fits : FitsFields chosen.reader.table (selection_of chosen.plan)
  pub rules : AreFields (selection_of chosen.plan).fields

-- some of a file was chosen, which told its bytes, or why not
pub record Chooses (c : SkimChoiceData) (old new : FileState) (result : Result Chosen SkimStoreError) : Type 0 where
  pub told : (bytes : List ℕ) → old.bytes ≡ Some bytes → ChosenTold c bytes result
  pub fit : 0 < length c.names → IfOk result IsFitPlan
  pub kept : KeepsFile old new
  pub failed : IsErrOf result Outside → Rose old.faults new.faults
