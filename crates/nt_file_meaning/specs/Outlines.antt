-- The outline of a file: its schema, and where the pages of its clusters lie; or its first fault. The anchor is sought first, then header,
-- footer and the page lists are read in the order of the groups (RNTuple Binary Format Specification 1.0.0.0, sections Anchor Schema,
-- Header Envelope, Footer Envelope and Page List Envelope).
use Rattle.std.specs.Prelude.{ℕ, ◌+◌, List, [], ◌∷◌, ◌++◌, map, length, replicate, Option, Some, None, Result, Ok, Bool, true, false}
use Rattle.nt_num.specs.declared.fault.ReadError.{ReadError}
use Rattle.nt_lists.specs.Chaining.{◌>>=◌}
use Rattle.nt_format.specs.Reading.{standing}
use Rattle.nt_format.specs.declared.locator.Link.{Link}
use Rattle.nt_container.specs.declared.anchor.Anchor.{Anchor}
use Rattle.nt_container.specs.Anchors.{anchor_of}
use Rattle.nt_grammar.specs.declared.rows.ColumnRow.{ColumnRow}
use Rattle.nt_grammar.specs.Table.{Table}
use Rattle.nt_plans.specs.Needs.{NeedData, need_of, is_entries}
use Rattle.nt_pagelists.specs.declared.group.Group.{Group}
use Rattle.nt_pagelists.specs.declared.column.KnownColumn.{KnownColumn}
use Rattle.nt_pagelists.specs.declared.cluster.ClusterList.{ClusterList}
use Rattle.nt_pagelists.specs.declared.cluster.ColumnList.{ColumnList}
use Rattle.nt_pagelists.specs.PageLists.{ProgressCounts, page_list_at}
use Rattle.nt_pagelists.specs.Footers.{footer_at}
use Rattle.nt_file_meaning.specs.Envelopes.{Block, header_kind, footer_kind, payload_start, envelope_of, inside_of}
use Rattle.nt_pagelists.specs.Objects.{page_list_kind}
use Rattle.nt_file_meaning.specs.Headers.{header_payload_at}

-- the rows of the schema, and the clusters in the order of their groups; the places of frames are counted from the file's beginning
pub record Outline : Type 0 where
  pub table : Table
  pub clusters : List ClusterList

-- the header, where the anchor says
abbrev pub header_block : Anchor → Block
header_block a = record { place = a.header; size = a.header_size; len = a.header_len }

-- the footer
abbrev pub footer_block : Anchor → Block
footer_block a = record { place = a.footer; size = a.footer_size; len = a.footer_len }

-- the page list of a group, where its link says
abbrev pub list_block : Link → Block
list_block l = record { place = l.at.place; size = l.at.size; len = l.length }

-- whether a column of an open field needs something
abbrev pub is_needed : Option NeedData → Bool
is_needed (Some need) = true
is_needed None = false

-- what a schema tells of a column
abbrev pub known_column : Option NeedData → ColumnRow → KnownColumn
known_column need c = record { is_open = is_needed need; is_principal = is_entries need; first = c.first }

-- what a schema tells of columns whose ids go on from this one
abbrev pub known_columns_from : Table → ℕ → List ColumnRow → List KnownColumn
known_columns_from t id [] = []
known_columns_from t id (c ∷ cs) = known_column (need_of t id) c ∷ known_columns_from t (id + 1) cs

-- what a schema tells of its columns
abbrev pub known_columns : Table → List KnownColumn
known_columns t = known_columns_from t 0 t.columns

-- nothing was read of a file with so many columns
abbrev pub no_progress : ℕ → ProgressCounts
no_progress columns = record { clusters = 0; entries = 0; elements = replicate columns 0 }

-- the same column, its frame's place counted from the beginning of what the payload lies in
abbrev pub moved_column : ℕ → ColumnList → ColumnList
moved_column place c = record c { inner = place + c.inner }

-- the same cluster
abbrev pub moved_cluster : ℕ → ClusterList → ClusterList
moved_cluster place k = record k { outer = place + k.outer; columns = map (moved_column place) k.columns }

-- the same clusters, of the payload of an envelope
abbrev pub clusters_of_block : Block → List ClusterList → List ClusterList
clusters_of_block block ks = map (moved_cluster (block.place + payload_start)) ks

-- the clusters of a group behind what was read so far
unfoldable pub group_clusters : List ℕ → ℕ → List KnownColumn → Group → ProgressCounts
    → Result (List ClusterList × ProgressCounts) ReadError
group_clusters file sum columns g p = do
  list ← envelope_of file page_list_kind (list_block g.link)
  read ← inside_of (list_block g.link) (page_list_at sum g columns p (standing 0 list.payload))
  Ok (clusters_of_block (list_block g.link) read.0, read.1)

-- the clusters of these groups
abbrev pub groups_clusters : List ℕ → ℕ → List KnownColumn → List Group → ProgressCounts → Result (List ClusterList) ReadError
groups_clusters file sum columns [] p = Ok []
groups_clusters file sum columns (g ∷ gs) p =
    group_clusters file sum columns g p >>= λ first. groups_clusters file sum columns gs first.1 >>= λ others. Ok (first.0 ++ others)

-- the rows that header and footer describe, and the groups; of an ntuple with this anchor
unfoldable pub described_of : List ℕ → Anchor → Result (Table × List Group × ℕ) ReadError
described_of file a = do
  header ← envelope_of file header_kind (header_block a)
  first ← inside_of (header_block a) (header_payload_at (standing 0 header.payload))
  footer ← envelope_of file footer_kind (footer_block a)
  whole ← inside_of (footer_block a) (footer_at header.sum first (standing 0 footer.payload))
  Ok (whole.0, whole.1, header.sum)

-- the outline of a file, or its first fault before any page
unfoldable pub outline_of : List ℕ → Result Outline ReadError
outline_of file = do
  anchor ← anchor_of file
  said ← described_of file anchor
  clusters ← groups_clusters file said.2 (known_columns said.0) said.1 (no_progress (length said.0.columns))
  Ok (record { table = said.0; clusters = clusters })
