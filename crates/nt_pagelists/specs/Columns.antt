-- What the pages of a column have to be in a cluster (RNTuple Binary Format Specification 1.0.0.0, sections Column Description and
-- Page Locations). An open column is looked at; of a closed one nothing is required.
use Rattle.std.specs.Prelude.{ℕ, ◌≡◌, ◌+◌, ◌-◌, ◌^◌, ◌≤◌, min, Bool, true, false, ◌==◌, ◌&&◌, ◌||◌, not, List, [], ◌∷◌, length, drop}
use Rattle.std.specs.Prelude.{slice_index_or, nat_le, nat_lt, if◌then◌else◌, Result, Ok, Err}
use Rattle.nt_num.specs.Codes.{bad_cluster, deferred_inside}
use Rattle.nt_num.specs.Faults.{fault}
use Rattle.nt_num.specs.declared.fault.ReadError.{ReadError}
use Rattle.nt_lists.specs.Chaining.{◌>>=◌}
use Rattle.nt_pagelists.specs.declared.column.KnownColumn.{KnownColumn}
use Rattle.nt_pagelists.specs.declared.cluster.ClusterSummary.{ClusterSummary}
use Rattle.nt_pagelists.specs.declared.page.PageItem.{PageItem}

-- the fault, which is one of this column in this cluster
abbrev pub in_column : ℕ → ℕ → ReadError → ReadError
in_column cluster column e = record e { cluster = cluster; column = column }

-- of a column past the last one nothing is required
abbrev pub unknown_column : KnownColumn
unknown_column = record { is_open = false; is_principal = false; first = 0 }

-- the elements on these pages
abbrev pub paged_elements : List PageItem → ℕ
paged_elements [] = 0
paged_elements (p ∷ ps) = p.count + paged_elements ps

-- the column has no page
abbrev pub no_pages : List PageItem → Bool
no_pages [] = true
no_pages (p ∷ ps) = false

-- the elements of a column begin inside of a cluster, so they can neither stand there nor be left out
abbrev pub begins_inside : ClusterSummary → KnownColumn → Bool
begins_inside k c = c.is_open && c.is_principal && nat_lt k.first c.first && nat_lt c.first (k.first + k.entries)

-- an open principal column has one element for each entry, or no page where it begins behind them all or where there is no entry
abbrev pub has_its_elements : ClusterSummary → KnownColumn → List PageItem → Bool
has_its_elements k c pages =
    not (c.is_open && c.is_principal)
    || (if (k.entries == 0) || nat_lt k.first c.first then no_pages pages else paged_elements pages == k.entries)

-- the elements of an open column, where it has some here, stand behind those of its earlier pages
abbrev pub has_its_offset : KnownColumn → ℕ → List PageItem → ℕ → Bool
has_its_offset c before pages offset = not c.is_open || (paged_elements pages == 0) || (offset == c.first + before)

-- the column has what it must have in the cluster
abbrev pub is_sound_column : ClusterSummary → KnownColumn → ℕ → List PageItem → ℕ → Bool
is_sound_column k c before pages offset = not (begins_inside k c) && (has_its_elements k c pages && has_its_offset c before pages offset)

-- what is wrong with the column with this id, which has so many elements in earlier clusters and these pages here; the frame at that place
-- shows it
unfoldable pub judged : ClusterSummary → ℕ → KnownColumn → ℕ → ℕ → List PageItem → ℕ → Result (Unit {0}) ReadError
judged k id c before frame pages offset =
    if begins_inside k c then Err (in_column k.number id (fault deferred_inside frame))
    else if has_its_elements k c pages && has_its_offset c before pages offset then Ok tt
    else Err (in_column k.number id (fault bad_cluster frame))

-- what is wrong with the first of these columns that is wrong without a page; their ids go on from this one
abbrev pub judged_unlisted : ClusterSummary → ℕ → ℕ → List KnownColumn → Result (Unit {0}) ReadError
judged_unlisted k frame id [] = Ok tt
judged_unlisted k frame id (c ∷ cs) = judged k id c 0 frame [] 0 >>= λ sound. judged_unlisted k frame (id + 1) cs

-- the least first element of the open principal columns among these
abbrev pub least_first : List KnownColumn → ℕ
least_first [] = 2 ^ 64 - 1
least_first (c ∷ cs) = if c.is_open && c.is_principal then min c.first (least_first cs) else least_first cs

-- that of the columns from each id on, so that a cluster need not look at each column that it doesn't list
pub record AreLeast (columns : List KnownColumn) (firsts : List ℕ) : Type 0 where
  pub len : length firsts ≡ length columns + 1
  pub each : (i : ℕ) → i ≤ length columns → slice_index_or firsts i 0 ≡ least_first (drop i columns)

-- columns that begin there begin behind a cluster, or it has no entry
abbrev pub ends_before : ClusterSummary → ℕ → Bool
ends_before k first = (k.entries == 0) || nat_le (k.first + k.entries) first
