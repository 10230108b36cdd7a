-- The totals of columns in all clusters of a file.
use Rattle.std.specs.Prelude.{ℕ, ℤ, ◌≡◌, ◌<◌, List, map, length, slice_index_or, Some, None, Result, Ok, Err}
use Rattle.nt_tfile.specs.declared.failure.ReadFailure.{ReadFailure}
use Rattle.nt_encode.specs.Elements.{Element, numbers}
use Rattle.nt_grammar.specs.Table.{Table}
use Rattle.nt_file_meaning.specs.Outlines.{Outline}
use Rattle.nt_total.specs.Totals.{integer_in, IsTotalOf}
use Rattle.nt_total.specs.declared.total.Total.{Total}
use Rattle.nt_scan.specs.declared.error.ScanError.{ScanError}
use Rattle.nt_scan.specs.declared.error.ScanError.TheVariants.{TooMany, Defect, Fault, Memory}
use Rattle.nt_scan.specs.Leaves.{column_kind}
use Rattle.nt_scan.specs.Counts.{IsFirstTooMany}
use Rattle.nt_scan.specs.Clusters.{columns_over, column_over}

-- the integers of a column of numbers in clusters
abbrev pub integers_over : Table → List (List (List Element)) → ℕ → List ℤ
integers_over t clusters column = map (integer_in (column_kind t column)) (numbers (column_over clusters column))

-- a total for each column
pub record AreTotalsOf (t : Table) (clusters : List (List (List Element))) (columns : List ℕ) (totals : List Total) : Type 0 where
  pub len : length totals ≡ length columns
  pub each : (i d : ℕ) (e : Total) → i < length columns
      → IsTotalOf (integers_over t clusters (slice_index_or columns i d)) (slice_index_or totals i e)

-- the totals of columns in a file with this outline, which are counted first; or the first fault of a cluster
abbrev pub IsScanOf : List ℕ → Outline → List ℕ → Result (List Total) ScanError → Type 0
IsScanOf file o columns (Ok totals) =
    IsFirstTooMany o columns None × ((clusters : List (List (List Element))) × (columns_over file o.table 0 o.clusters ≡ Ok clusters)
    × AreTotalsOf o.table clusters columns totals)
IsScanOf file o columns (Err (TooMany column reached)) = IsFirstTooMany o columns (Some (column, reached))
IsScanOf file o columns (Err (Defect e)) = IsFirstTooMany o columns None × (columns_over file o.table 0 o.clusters ≡ Err e)
IsScanOf file o columns (Err Fault) = Unit {0}
IsScanOf file o columns (Err Memory) = Unit {0}
