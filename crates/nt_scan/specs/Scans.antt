-- What a scan prints of a file.
use Rattle.std.specs.Prelude.{ℕ, ℤ, pos, ◌≡◌, ◌≤◌, ◌⊎◌, List, [], ◌∷◌, ◌++◌, map, slice_index_or, Option, Some, None, Result, Ok}
use Rattle.std.specs.Prelude.{Err, IsErrOf}
use Rattle.std.specs.List.{flat_map}
use Rattle.nt_num.specs.declared.fault.ReadError.{ReadError}
use Rattle.nt_types.specs.TreeData.{TreeData, TreesData, num, text, nothing, trees_of}
use Rattle.nt_event.specs.Json.{line_of}
use Rattle.nt_grammar.specs.Table.{Table}
use Rattle.nt_grammar.specs.declared.rows.FieldRow.{FieldRow}
use Rattle.nt_outside.specs.Faults.{Rose}
use Rattle.nt_outside.specs.File.{FileState}
use Rattle.nt_file_meaning.specs.Outlines.{Outline, outline_of}
use Rattle.nt_file_meaning.specs.Files.{HasDefect}
use Rattle.nt_total.specs.declared.total.Total.{Total}
use Rattle.nt_scan.specs.declared.error.ScanError.{ScanError}
use Rattle.nt_scan.specs.declared.error.ScanError.TheVariants.{TooMany, Defect, Fault, Memory}
use Rattle.nt_scan.specs.declared.leaf.Leaf.{Leaf}
use Rattle.nt_scan.specs.Leaves.{leaves_of, leaf_columns}
use Rattle.nt_scan.specs.Counts.{IsFirstTooMany}
use Rattle.nt_scan.specs.Totals.{IsScanOf}

-- the file keeps its bytes, and an answer of a fault comes only where its count rose
pub record ServesScan {V : Type 0} (old new : FileState) (result : Result V ScanError) : Type 0 where
  pub same : new.bytes ≡ old.bytes
  pub later : old.faults ≤ new.faults
  pub fault : IsErrOf result Fault → Rose old.faults new.faults

-- a number as a tree, and nothing where there is none
abbrev pub number_or_nothing : Option ℤ → TreeData
number_or_nothing None = nothing
number_or_nothing (Some z) = num z

-- the names of fields
abbrev pub field_names : List FieldRow → List (List ℕ)
field_names rows = map (λ (r : FieldRow). r.name) rows

-- what is told of a leaf: its field's id and name, and then how many numbers it has, their sum, and the least and greatest of them
abbrev pub total_told : Table → Leaf → Total → TreesData
total_told t l x =
    trees_of (num (pos l.field) ∷ text (slice_index_or (field_names t.fields) l.field []) ∷ num (pos x.count) ∷ num x.sum
    ∷ number_or_nothing x.least ∷ number_or_nothing x.greatest ∷ [])

-- the same of leaves with their totals
abbrev pub totals_told : Table → List Leaf → List Total → List TreesData
totals_told t [] xs = []
totals_told t (l ∷ ls) [] = []
totals_told t (l ∷ ls) (x ∷ xs) = total_told t l x ∷ totals_told t ls xs

-- a line for each
abbrev pub scan_lines : Table → List Leaf → List Total → List ℕ
scan_lines t leaves totals = flat_map (λ told. line_of told ++ 10 ∷ []) (totals_told t leaves totals)

-- what is scanned of a file: the lines of its number leaves; or that one of them has too many elements, of an outline without fault; or
-- the file's first fault, where none has
abbrev pub ScansAs : List ℕ → Result (List ℕ) ScanError → Type 0
ScansAs file (Ok lines) =
    (o : Outline) × (totals : List Total) × (outline_of file ≡ Ok o)
    × IsScanOf file o (leaf_columns (leaves_of o.table)) (Ok totals) × (lines ≡ scan_lines o.table (leaves_of o.table) totals)
ScansAs file (Err (TooMany column reached)) =
    (o : Outline) × (outline_of file ≡ Ok o) × IsFirstTooMany o (leaf_columns (leaves_of o.table)) (Some (column, reached))
ScansAs file (Err (Defect e)) =
    HasDefect file e × ((o : Outline) → outline_of file ≡ Ok o → IsFirstTooMany o (leaf_columns (leaves_of o.table)) None)
ScansAs file (Err Fault) = Unit {0}
ScansAs file (Err Memory) = Unit {0}
