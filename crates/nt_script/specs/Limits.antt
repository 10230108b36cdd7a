-- Which limits the clusters of a script pass, and the file of all of them.
use Rattle.std.specs.Prelude.{◌≡◌, ℕ, zero, suc, ◌+◌, ◌*◌, ◌<◌, ◌≤◌, ◌==◌, List, ◌++◌, length, take, drop, if◌then◌else◌, Option, Some}
use Rattle.std.specs.Prelude.{None}
use Rattle.std.specs.List.{AllByRecursion, flat_map, sum_by}
use Rattle.nt_types.specs.TreeData.{TreesData}
use Rattle.nt_grammar.specs.Table.{Table}
use Rattle.nt_book.specs.declared.meta.ClusterMeta.{ClusterMeta}
use Rattle.nt_book.specs.declared.params.Params.{Params}
use Rattle.nt_book.specs.declared.limits.LimitError.{LimitError}
use Rattle.nt_book.specs.declared.limits.LimitError.TheVariants as limit
use Rattle.nt_book.specs.Limiting.{limit_error_with}
use Rattle.nt_layout.specs.Headers.{clusters_place}
use Rattle.nt_close.specs.Passing.{passed_by_begin}
use Rattle.nt_dealing.specs.Limits.{IsKeptOf, AreKeptOf}
use Rattle.nt_dealing.specs.Lengths.{page_list_len, group_count, footer_len, whole_len}
use Rattle.nt_script.specs.Reading.{Segment, segment_metas}

-- what was reached, and the limit, of an error that names one
abbrev pub TellsLimit : Params → LimitError → ℕ → ℕ → Type 0
TellsLimit p (limit.RangeTooLarge len most) reached limit = (reached ≡ len) × (limit ≡ most)
TellsLimit p (limit.FileTooLarge end most) reached limit = (reached ≡ end) × (limit ≡ most)
TellsLimit p limit.TooManyClusters reached limit = (reached ≡ p.limits.clusters + 1) × (limit ≡ p.limits.clusters)

-- the bytes of the page lists of the first so many groups of clusters of which this is kept, each of so many clusters
abbrev pub group_lists_len : ℕ → List ClusterMeta → ℕ → ℕ
group_lists_len most metas zero = 0
group_lists_len most metas (suc lists) = page_list_len (take most metas) + group_lists_len most (drop most metas) lists

-- the page list of the group behind so many
abbrev pub next_list_len : ℕ → List ClusterMeta → ℕ → ℕ
next_list_len most metas lists = page_list_len (take most (drop (lists * most) metas))

-- where clusters end of which this is kept, with so many page lists between them
abbrev pub clusters_end : Table → ℕ → List ClusterMeta → ℕ → ℕ
clusters_end t most metas lists =
    clusters_place t + sum_by (λ (m : ClusterMeta). m.len) metas + group_lists_len most metas lists

-- so many page lists stand between so many clusters: those of all full groups, or of all but the last
pub record AreListsBetween (most lists clusters : ℕ) : Type 0 where
  pub full : lists * most ≤ clusters
  pub enough : clusters ≤ lists * most + most

-- a header and clusters of which this is kept stand in a file within the limits, with the page lists between them
pub record StandsWithin (t : Table) (p : Params) (metas : List ClusterMeta) : Type 0 where
  pub header : passed_by_begin p.limits t ≡ None
  pub short : AllByRecursion (λ (m : ClusterMeta). m.len ≤ p.limits.range) metas
  pub lists : ℕ
  pub between : AreListsBetween p.group lists (length metas)
  pub lists_short : (k : ℕ) → k < lists → next_list_len p.group metas k ≤ p.limits.range
  pub end : clusters_end t p.group metas lists ≤ p.limits.file
  pub few : length metas ≤ p.limits.clusters

-- the page list that is written in front of the next cluster where so many stand between those of which this is kept: that of the last
-- group, if it is full and lacks it
abbrev pub due_list_len : ℕ → List ClusterMeta → ℕ → ℕ
due_list_len most metas lists = if length metas == lists * most + most then next_list_len most metas lists else 0

-- the first limit that a cluster of so many bytes passes behind clusters of which this is kept, with so many page lists between them, or
-- the page list in front of it
abbrev pub limit_behind : Table → Params → List ClusterMeta → ℕ → ℕ → Option LimitError
limit_behind t p metas lists len =
    limit_error_with p.limits (clusters_end t p.group metas lists) (length metas) len (due_list_len p.group metas lists)

-- behind segments and whole clusters of these entries, which pass no limit, the entries that are left are a cluster that passes one, or
-- the page list in front of it does
pub record PassesHere (t : Table) (p : Params) (segments : List Segment) (es next : List TreesData) (error : LimitError) : Type 0 where
  pub full : List (List TreesData)
  pub sizes : AllByRecursion (λ (chunk : List TreesData). length chunk ≡ p.cluster) full
  pub whole : es ≡ flat_map (λ (chunk : List TreesData). chunk) full ++ next
  pub some : 0 < length next
  pub few : length next ≤ p.cluster
  pub own : List ClusterMeta
  pub kept : AreKeptOf t p.page full own
  pub within : StandsWithin t p (segment_metas segments ++ own)
  pub meta : ClusterMeta
  pub next_kept : IsKeptOf t p.page next meta
  pub passed : limit_behind t p (segment_metas segments ++ own) within.lists meta.len ≡ Some error

-- what closes the file of clusters of which this is kept passes a limit: a page list, the footer, or the end
pub data IsOverEnd (t : Table) (p : Params) (metas : List ClusterMeta) (reached limit : ℕ) : Type 0 where
  -- the page list of a group, each of which has so many clusters, but for the last one
  list_passed : (k : ℕ) → k < group_count p.group (length metas) → reached ≡ next_list_len p.group metas k → limit ≡ p.limits.range
      → limit < reached → IsOverEnd t p metas reached limit
  footer_passed : reached ≡ footer_len t (group_count p.group (length metas)) → limit ≡ p.limits.range → limit < reached
      → IsOverEnd t p metas reached limit
  end_passed : reached ≡ whole_len t p.group metas → limit ≡ p.limits.file → limit < reached → IsOverEnd t p metas reached limit
