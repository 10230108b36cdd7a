-- A scan in the steps in which it goes.
use Rattle.std.specs.Prelude.{ℕ, ◌≡◌, ◌<◌, ◌≤◌, ◌^◌, nat_le, List, [], map, length, slice_index_or, Option, Some, None, Result}
use Rattle.std.specs.Prelude.{Ok, Err, if◌then◌else◌}
use Rattle.nt_tfile.specs.declared.failure.ReadFailure.{ReadFailure}
use Rattle.nt_tfile.specs.declared.failure.ReadFailure.TheVariants as failure
use Rattle.nt_encode.specs.Elements.{Element, numbers, AreElementsOf}
use Rattle.nt_grammar.specs.Table.{Table}
use Rattle.nt_file_meaning.specs.Outlines.{Outline}
use Rattle.nt_total.specs.declared.running.Running.{Running}
use Rattle.nt_total.specs.declared.total.Total.{Total}
use Rattle.nt_total.specs.Running.{IsSoFar, IsAdded}
use Rattle.nt_total.specs.Totals.{low_of, integer_in, IsTotalOf}
use Rattle.nt_scan.specs.declared.error.ScanError.{ScanError}
use Rattle.nt_scan.specs.declared.error.ScanError.TheVariants as scan
use Rattle.nt_scan.specs.Leaves.{column_kind}
use Rattle.nt_scan.specs.Clusters.{columns_over, column_over}

-- the failure of a scan that comes of one of reading
abbrev pub scan_error_of : ReadFailure → ScanError
scan_error_of (failure.Defect e) = scan.Defect e
scan_error_of failure.Fault = scan.Fault
scan_error_of failure.Memory = scan.Memory

-- the one with the lower column
abbrev pub lower_of : Option (ℕ × ℕ) → ℕ × ℕ → ℕ × ℕ
lower_of None other = other
lower_of (Some found) other = if nat_le found.0 other.0 then found else other

-- to what is kept of each column its elements here were added
abbrev pub AreAdded : Table → (ℕ → List Element) → List ℕ → List Running → List Running → Type 0
AreAdded t elements columns old new =
    (i d : ℕ) (e : Running) → i < length columns
    → IsAdded (numbers (elements (slice_index_or columns i d))) (low_of (column_kind t (slice_index_or columns i d)))
    (slice_index_or old i e) (slice_index_or new i e)

-- the first columns were added, and nothing else has changed
pub record ArePartAdded (t : Table) (elements : ℕ → List Element) (columns : List ℕ) (i : ℕ) (old new : List Running) : Type 0 where
  pub len : length new ≡ length old
  pub done : (k d : ℕ) (e : Running) → k < i
      → IsAdded (numbers (elements (slice_index_or columns k d))) (low_of (column_kind t (slice_index_or columns k d)))
      (slice_index_or old k e) (slice_index_or new k e)
  pub rest : (k : ℕ) (e : Running) → i ≤ k → slice_index_or new k e ≡ slice_index_or old k e

-- what the adding of all clusters leaves
abbrev pub ClustersAdded : List ℕ → Outline → List ℕ → List Running → List Running → Result Unit ReadFailure → Type 0
ClustersAdded file o columns old new (Ok value) =
    (clusters : List (List (List Element))) × (columns_over file o.table 0 o.clusters ≡ Ok clusters)
    × AreAdded o.table (column_over clusters) columns old new
ClustersAdded file o columns old new (Err (failure.Defect e)) = columns_over file o.table 0 o.clusters ≡ Err e
ClustersAdded file o columns old new (Err failure.Fault) = Unit {0}
ClustersAdded file o columns old new (Err failure.Memory) = Unit {0}

-- what is kept of each column is totalled
pub record AreTotalled (t : Table) (columns : List ℕ) (running : List Running) (totals : List Total) : Type 0 where
  pub len : length totals ≡ length columns
  pub each : (i d : ℕ) (e : Running) (f : Total) (es : List Element) → i < length columns
      → IsSoFar (numbers es) (low_of (column_kind t (slice_index_or columns i d))) (slice_index_or running i e)
      → AreElementsOf (column_kind t (slice_index_or columns i d)) es → length es ≤ 2 ^ 60
      → IsTotalOf (map (integer_in (column_kind t (slice_index_or columns i d))) (numbers es)) (slice_index_or totals i f)

-- so many columns of which nothing is kept
pub record AreNothing (n : ℕ) (running : List Running) : Type 0 where
  pub len : length running ≡ n
  pub each : (i low : ℕ) (e : Running) → i < n → IsSoFar [] low (slice_index_or running i e)
