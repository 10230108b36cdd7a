-- Which limit a file passes whose clusters stand in a given order, by what is kept of each, and when it passes none (RNTuple Binary Format
-- Specification 1.0.0.0; the lengths are those of nt_dealing).
use Rattle.std.specs.Prelude.{◌≡◌, ℕ, ◌+◌, ◌*◌, ◌<◌, ◌≤◌, List, length, map, take, drop, Contains}
use Rattle.nt_grammar.specs.Table.{Table}
use Rattle.nt_machine.specs.History.{Cluster}
use Rattle.nt_book.specs.declared.meta.ClusterMeta.{ClusterMeta}
use Rattle.nt_book.specs.declared.params.Params.{Params}
use Rattle.nt_book.specs.declared.limits.LimitError.{LimitError}
use Rattle.nt_book.specs.declared.limits.LimitError.TheVariants as limit
use Rattle.nt_book.specs.Books.{BookData, book_clusters}
use Rattle.nt_book.specs.Kept.{IsBookKept}
use Rattle.nt_pagelists.specs.Blobs.{blob_len}
use Rattle.nt_layout.specs.Headers.{header_object, clusters_place}
use Rattle.nt_layout.specs.Beside.{HasListsBeside}
use Rattle.nt_dealing.specs.Lengths.{page_list_len, group_count, footer_len, whole_len}

-- what is kept of the clusters of a book, in order
abbrev pub kept_metas : BookData → List ClusterMeta
kept_metas book = map (λ (c : Cluster ClusterMeta). c.meta) (book_clusters book)

-- what is kept of the clusters of this group, of at most so many
abbrev pub group_metas : ℕ → List ClusterMeta → ℕ → List ClusterMeta
group_metas most metas k = take most (drop (k * most) metas)

-- the file of these clusters has a blob of so many bytes: its header, a cluster, the page list of a group, or its footer
pub data IsMergeBlob (t : Table) (p : Params) (metas : List ClusterMeta) (len : ℕ) : Type 0 where
  of_header : len ≡ blob_len (length (header_object t)) → IsMergeBlob t p metas len
  of_cluster : (m : ClusterMeta) → Contains metas m → len ≡ m.len → IsMergeBlob t p metas len
  of_list : (k : ℕ) → k < group_count p.group (length metas) → len ≡ page_list_len (group_metas p.group metas k)
      → IsMergeBlob t p metas len
  of_footer : len ≡ footer_len t (group_count p.group (length metas)) → IsMergeBlob t p metas len

-- a limit that the file of these clusters passes, and what was reached, which is more
pub data MergeOver (t : Table) (p : Params) (metas : List ClusterMeta) (reached limit : ℕ) : Type 0 where
  -- a blob is longer than a range may get
  range_passed : IsMergeBlob t p metas reached → limit ≡ p.limits.range → limit < reached → MergeOver t p metas reached limit
  -- the file ends too far on, at the latest where it is whole
  file_passed : reached ≤ whole_len t p.group metas → limit ≡ p.limits.file → limit < reached → MergeOver t p metas reached limit
  -- there are more clusters than a file may have
  too_many : limit ≡ p.limits.clusters → reached ≡ limit + 1 → limit < length metas → MergeOver t p metas reached limit

-- it passes none: its blobs are no longer than a range may get, it is no longer than a file may get, and its clusters aren't too many
pub record MergeFits (t : Table) (p : Params) (metas : List ClusterMeta) : Type 0 where
  pub blobs : (len : ℕ) → IsMergeBlob t p metas len → len ≤ p.limits.range
  pub file : whole_len t p.group metas ≤ p.limits.file
  pub few : length metas ≤ p.limits.clusters

-- the same of a limit that an error names
abbrev pub MergeOverBy : Table → Params → List ClusterMeta → LimitError → Type 0
MergeOverBy t p metas (limit.RangeTooLarge len most) = MergeOver t p metas len most
MergeOverBy t p metas (limit.FileTooLarge end most) = MergeOver t p metas end most
MergeOverBy t p metas limit.TooManyClusters = MergeOver t p metas (p.limits.clusters + 1) p.limits.clusters

-- a book of this schema's file, begun by these parameters, with page lists beside its clusters, none of which failed
pub record IsBookBeside (t : Table) (p : Params) (book : BookData) : Type 0 where
  pub kept : IsBookKept book
  pub begin : book.begin ≡ clusters_place t
  pub limits : book.limits ≡ p.limits
  pub beside : HasListsBeside t p.group book
