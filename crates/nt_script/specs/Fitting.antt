-- When the whole file of a script passes no limit, and which one it passes.
use Rattle.std.specs.Prelude.{◌≡◌, ℕ, ◌+◌, ◌<◌, ◌≤◌, List, ◌++◌, length, None}
use Rattle.std.specs.List.{AllByRecursion, AllZip, Contains}
use Rattle.nt_lists.specs.Chunks.{chunks}
use Rattle.nt_types.specs.ShapeData.{MemberData}
use Rattle.nt_grammar.specs.Added.{Added}
use Rattle.nt_grammar.specs.Rows.{Rows}
use Rattle.nt_grammar.specs.Table.{Table}
use Rattle.nt_book.specs.declared.meta.ClusterMeta.{ClusterMeta}
use Rattle.nt_book.specs.declared.params.Params.{Params}
use Rattle.nt_pagelists.specs.Blobs.{blob_len}
use Rattle.nt_layout.specs.Headers.{header_object}
use Rattle.nt_close.specs.Passing.{passed_by_begin}
use Rattle.nt_dealing.specs.Limits.{IsCountedOf}
use Rattle.nt_dealing.specs.Lengths.{group_count, footer_len, whole_len}
use Rattle.nt_script.specs.Script.{Script, last_entries, and_field}
use Rattle.nt_script.specs.Clusters.{GrowsByScript}
use Rattle.nt_script.specs.Limits.{next_list_len, IsOverEnd}

-- this is kept of all clusters of a script, or would be, each by the fields that there are when it is written
abbrev pub CountsScript : Params → Table → ℕ → Script → List ClusterMeta → Type 0
CountsScript p t before (last_entries es bad) metas = AllZip (IsCountedOf t p.page) (chunks p.cluster es) metas
CountsScript p t before (and_field es m rest) metas =
    (u : Table) × Added t m p.plain (before + length es) u
    × ((own others : List ClusterMeta) × (metas ≡ own ++ others) × AllZip (IsCountedOf t p.page) (chunks p.cluster es) own
    × CountsScript p u (before + length es) rest others)

-- clusters of which this is kept, and what closes their file, are within the limits
pub record IsInLimits (t : Table) (p : Params) (metas : List ClusterMeta) : Type 0 where
  pub clusters : AllByRecursion (λ (m : ClusterMeta). m.len ≤ p.limits.range) metas
  -- the page list of each group
  pub lists : (k : ℕ) → k < group_count p.group (length metas) → next_list_len p.group metas k ≤ p.limits.range
  pub footer : footer_len t (group_count p.group (length metas)) ≤ p.limits.range
  pub file : whole_len t p.group metas ≤ p.limits.file
  pub few : length metas ≤ p.limits.clusters

-- the whole file of a script, by the rows of these fields and those that it adds, passes no limit
pub record FitsWhole (fields : List MemberData) (p : Params) (s : Script) : Type 0 where
  pub first : Table
  pub rows : Rows fields p.plain first
  pub header : passed_by_begin p.limits first ≡ None
  pub table : Table
  pub grows : GrowsByScript p.plain first 0 s table
  pub whole : (metas : List ClusterMeta) → CountsScript p first 0 s metas → IsInLimits table p metas

-- it may pass none: there is what is kept of its clusters, or would be, by which it passes none
pub record MayFit (fields : List MemberData) (p : Params) (s : Script) : Type 0 where
  pub first : Table
  pub rows : Rows fields p.plain first
  pub header : passed_by_begin p.limits first ≡ None
  pub table : Table
  pub grows : GrowsByScript p.plain first 0 s table
  pub metas : List ClusterMeta
  pub counts : CountsScript p first 0 s metas
  pub within : IsInLimits table p metas

-- the whole file of a script passes this limit: with this reached, or, of the limit of a file, with no less
pub data WholePasses (first t : Table) (p : Params) (s : Script) (reached limit : ℕ) : Type 0 where
  -- with its header, of so many bytes
  whole_begun : reached ≡ blob_len (length (header_object first)) → limit ≡ p.limits.range → limit < reached
      → WholePasses first t p s reached limit
  -- with a cluster of so many bytes
  whole_cluster : (metas : List ClusterMeta) (m : ClusterMeta) → CountsScript p first 0 s metas → Contains metas m → reached ≡ m.len
      → limit ≡ p.limits.range → limit < reached → WholePasses first t p s reached limit
  -- the whole file is no shorter
  whole_file : (metas : List ClusterMeta) → CountsScript p first 0 s metas → reached ≤ whole_len t p.group metas → limit ≡ p.limits.file
      → limit < reached → WholePasses first t p s reached limit
  -- with the number of its clusters
  whole_count : (metas : List ClusterMeta) → CountsScript p first 0 s metas → limit ≡ p.limits.clusters → reached ≡ limit + 1
      → limit < length metas → WholePasses first t p s reached limit
  -- with what closes it
  whole_end : (metas : List ClusterMeta) → CountsScript p first 0 s metas → IsOverEnd t p metas reached limit
      → WholePasses first t p s reached limit
