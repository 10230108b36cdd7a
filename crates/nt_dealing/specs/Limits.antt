-- Which limit the file of some chunks passes, in whatever order they are committed, and when it passes none.
use Rattle.std.specs.Prelude.{◌≡◌, ◌⊎◌, ℕ, ◌+◌, ◌<◌, ◌≤◌, List, [], ◌∷◌, ◌++◌, length, IsPermutation, Some, slice_get}
use mathlib.Core.List.{IsPrefix}
use Rattle.std.specs.List.{AllZip, Contains}
use Rattle.nt_types.specs.TreeData.{TreesData}
use Rattle.nt_grammar.specs.Table.{Table}
use Rattle.nt_book.specs.declared.meta.ClusterMeta.{ClusterMeta}
use Rattle.nt_book.specs.declared.params.Params.{Params}
use Rattle.nt_book.specs.declared.limits.LimitError.{LimitError}
use Rattle.nt_book.specs.declared.limits.LimitError.TheVariants as limit
use Rattle.nt_book.specs.Books.{BookData}
use Rattle.nt_commit.specs.Lists.{NextPlace, limit_at}
use Rattle.nt_machine.specs.declared.entry.Entry.{Entry}
use Rattle.nt_machine.specs.History.{ranges_of}
use Rattle.nt_column.specs.Column.{Column, elements_at}
use Rattle.nt_plans.specs.Plan.{PlansData}
use Rattle.nt_plans.specs.Place.{open_plans}
use Rattle.nt_trees.specs.Columns.{Cols}
use Rattle.nt_trees.specs.Described.{IsSetOf}
use Rattle.nt_trees.specs.Put.{put_trees}
use Rattle.nt_pages.specs.Image.{image}
use Rattle.nt_pages.specs.Metas.{cluster_meta}
use Rattle.nt_pagelists.specs.Blobs.{blob_len}
use Rattle.nt_layout.specs.Headers.{header_object}
use Rattle.nt_layout.specs.Laid.{Gives}
use Rattle.nt_dealing.specs.Lengths.{page_list_len, group_count, footer_len, whole_len}

-- what is kept of a chunk once it is written, by whatever context and in whatever place
pub record IsKeptOf (t : Table) (page : ℕ) (chunk : List TreesData) (m : ClusterMeta) : Type 0 where
  pub columns : List Column
  pub gives : Gives t columns chunk
  pub meta_is : m ≡ cluster_meta page m.context (length chunk) columns

-- the columns that these entries fill, one after the other
abbrev pub put_entries : PlansData → List TreesData → Cols → Cols
put_entries plans [] cols = cols
put_entries plans (entry ∷ entries) cols = put_entries plans entries (put_trees plans entry cols)

-- what would be kept of a chunk that isn't written yet: of the columns that its entries fill
pub record WouldBeKeptOf (t : Table) (page : ℕ) (chunk : List TreesData) (m : ClusterMeta) : Type 0 where
  pub columns : List Column
  pub set : IsSetOf t.columns columns
  pub put : (k : ℕ) → k < length columns → elements_at columns k ≡ put_entries (open_plans t) chunk (λ j. []) k
  pub meta_is : m ≡ cluster_meta page m.context (length chunk) columns

-- what is kept of a chunk, or would be
abbrev pub IsCountedOf : Table → ℕ → List TreesData → ClusterMeta → Type 0
IsCountedOf t page chunk m = IsKeptOf t page chunk m ⊎ WouldBeKeptOf t page chunk m

-- of each of the chunks, in some order
pub record AreCountedOf (t : Table) (page : ℕ) (chunks : List (List TreesData)) (metas : List ClusterMeta) : Type 0 where
  pub order : List (List TreesData)
  pub permuted : IsPermutation order chunks
  pub counted : AllZip (IsCountedOf t page) order metas

-- what is kept of each
abbrev pub AreKeptOf : Table → ℕ → List (List TreesData) → List ClusterMeta → Type 0
AreKeptOf t page chunks metas = AllZip (IsKeptOf t page) chunks metas

-- a blob of so many bytes is written of these chunks
pub data IsBlobLen (t : Table) (p : Params) (chunks : List (List TreesData)) (len : ℕ) : Type 0 where
  of_header : len ≡ blob_len (length (header_object t)) → IsBlobLen t p chunks len
  of_chunk : (chunk : List TreesData) (m : ClusterMeta) → Contains chunks chunk → IsKeptOf t p.page chunk m → len ≡ m.len
      → IsBlobLen t p chunks len
  -- the page list of some of them, at most as many as a group has
  of_page_list : (some others : List (List TreesData)) (metas : List ClusterMeta) → IsPermutation (some ++ others) chunks
      → length some ≤ p.group
      → AreKeptOf t p.page some metas → len ≡ page_list_len metas → IsBlobLen t p chunks len
  of_footer : len ≡ footer_len t (group_count p.group (length chunks)) → IsBlobLen t p chunks len

-- a limit that the file of these chunks passes, and what was reached, which is more
pub data IsOver (t : Table) (p : Params) (chunks : List (List TreesData)) (reached limit : ℕ) : Type 0 where
  -- a blob is longer than a range may get
  range_passed : IsBlobLen t p chunks reached → limit ≡ p.limits.range → limit < reached → IsOver t p chunks reached limit
  -- the file ends too far on, at the latest where it is whole, with all its page lists
  file_passed : (metas : List ClusterMeta) → AreCountedOf t p.page chunks metas → reached ≤ whole_len t p.group metas
      → limit ≡ p.limits.file → limit < reached → IsOver t p chunks reached limit
  -- there are more chunks than a file may have clusters
  too_many : limit ≡ p.limits.clusters → reached ≡ limit + 1 → limit < length chunks → IsOver t p chunks reached limit

-- it passes none: its blobs are no longer than a range may get, it is no longer than a file may get, and its clusters aren't too many
pub record WholeFits (t : Table) (p : Params) (chunks : List (List TreesData)) : Type 0 where
  pub blobs : (len : ℕ) → IsBlobLen t p chunks len → len ≤ p.limits.range
  pub file : (metas : List ClusterMeta) → AreCountedOf t p.page chunks metas → whole_len t p.group metas ≤ p.limits.file
  pub few : length chunks ≤ p.limits.clusters

-- the same of a limit that an error names
abbrev pub IsOverBy : Table → Params → List (List TreesData) → LimitError → Type 0
IsOverBy t p chunks (limit.RangeTooLarge len most) = IsOver t p chunks len most
IsOverBy t p chunks (limit.FileTooLarge end most) = IsOver t p chunks end most
IsOverBy t p chunks limit.TooManyClusters = IsOver t p chunks (p.limits.clusters + 1) p.limits.clusters

-- the next chunk of a context that committed the first of its chunks passes a limit of a book that was begun so, behind a history that its
-- pass has seen
pub record NextPasses (begun : BookData) (t : Table) (page : ℕ) (chunks : List (List TreesData))
    (own seen : List (Entry ClusterMeta)) (error : LimitError) : Type 0 where
  pub chunk : List TreesData
  pub at : slice_get chunks (length (ranges_of own)) ≡ Some chunk
  pub columns : List Column
  pub gives : Gives t columns chunk
  pub history : List (Entry ClusterMeta)
  pub before : IsPrefix history seen
  pub place : NextPlace (record begun { history = history })
  pub passed : limit_at (record begun { history = history }) place (length (image page columns)) ≡ Some error
