-- How many elements columns have by the page lists, up to the first count that is too large (RNTuple Binary Format Specification 1.0.0.0,
-- sections Page List Envelope and Page Locations).
use Rattle.std.specs.Prelude.{ℕ, ◌≡◌, ◌+◌, ◌-◌, ◌^◌, ◌<◌, min, nat_le, List, [], ◌∷◌, map, slice_index_or, Option, Some, None}
use Rattle.std.specs.Prelude.{Result, Ok, Err}
use Rattle.std.specs.Prelude.{if◌then◌else◌}
use Rattle.std.specs.List.{All, Contains, flat_map}
use Rattle.nt_lists.specs.Chaining.{◌>>=◌}
use Rattle.nt_grammar.specs.Table.{Table}
use Rattle.nt_grammar.specs.declared.rows.ColumnRow.{ColumnRow}
use Rattle.nt_plans.specs.Needs.{need_of}
use Rattle.nt_pagelists.specs.declared.column.KnownColumn.{KnownColumn}
use Rattle.nt_pagelists.specs.declared.page.PageItem.{PageItem}
use Rattle.nt_pagelists.specs.declared.cluster.ClusterList.{ClusterList}
use Rattle.nt_file_meaning.specs.Outlines.{Outline, known_column}
use Rattle.nt_file_meaning.specs.Clusters.{pages_listed}
use Rattle.nt_file_meaning.specs.Counts.{zeros_due}

-- the most elements of a column that are totalled
abbrev pub most_elements : ℕ
most_elements = 2 ^ 60

-- so many more, or a count that is too large; one past 64 bits is told as the largest number of these
abbrev pub with_count : ℕ → ℕ → Result ℕ ℕ
with_count n more = if nat_le (n + more) most_elements then Ok (n + more) else Err (min (n + more) (2 ^ 64 - 1))

-- counts added up, to the first that is too large
abbrev pub added_up : ℕ → List ℕ → Result ℕ ℕ
added_up n [] = Ok n
added_up n (c ∷ cs) = with_count n c >>= λ m. added_up m cs

-- what is told of a column that isn't there
abbrev pub no_column_row : ColumnRow
no_column_row = record { code = 0; bits = 0; field = 0; flags = 0; representation = 0; first = 0 }

-- what a schema tells of a column
abbrev pub column_known : Table → ℕ → KnownColumn
column_known t column = known_column (need_of t column) (slice_index_or t.columns column no_column_row)

-- the counts of a column in a cluster: its zeros where it begins behind the entries, and those of its pages
abbrev pub cluster_counts : Table → ℕ → ClusterList → List ℕ
cluster_counts t column k = zeros_due k (column_known t column) ∷ map (λ (p : PageItem). p.count) (pages_listed k column)

-- the count of a column in all clusters, or its first count that is too large
abbrev pub column_counted : Outline → ℕ → Result ℕ ℕ
column_counted o column = added_up 0 (flat_map (cluster_counts o.table column) o.clusters)

-- a column has few enough elements
abbrev pub HasFewEnough : Outline → ℕ → Type 0
HasFewEnough o column = (n : ℕ) × (column_counted o column ≡ Ok n)

-- of these columns none has too many elements; or this is the lowest that has, with its first count above the most
abbrev pub IsFirstTooMany : Outline → List ℕ → Option (ℕ × ℕ) → Type 0
IsFirstTooMany o columns None = All (λ c. HasFewEnough o c) columns
IsFirstTooMany o columns (Some found) =
    Contains columns found.0 × (column_counted o found.0 ≡ Err found.1) × All (λ c. c < found.0 → HasFewEnough o c) columns
