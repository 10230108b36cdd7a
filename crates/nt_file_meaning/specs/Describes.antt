-- When a file has an outline, in the standard's words and not in a reader's order: the container leads to the anchor, the anchor to header
-- and footer, which describe the schema, and the footer's links to the page lists of the groups, which list the clusters.
use Rattle.std.specs.Prelude.{ℕ, ◌≡◌, List, [], ◌∷◌, ◌++◌, length, Ok}
use Rattle.nt_format.specs.Reading.{standing}
use Rattle.nt_container.specs.declared.anchor.Anchor.{Anchor}
use Rattle.nt_container.specs.Embeds.{Embeds}
use Rattle.nt_grammar.specs.Table.{Table}
use Rattle.nt_pagelists.specs.declared.group.Group.{Group}
use Rattle.nt_pagelists.specs.declared.column.KnownColumn.{KnownColumn}
use Rattle.nt_pagelists.specs.declared.cluster.ClusterList.{ClusterList}
use Rattle.nt_pagelists.specs.PageLists.{ProgressCounts, page_list_at}
use Rattle.nt_pagelists.specs.Footers.{footer_at}
use Rattle.nt_file_meaning.specs.Envelopes.{Sealed, IsEnvelope, header_kind, footer_kind}
use Rattle.nt_pagelists.specs.Objects.{page_list_kind}
use Rattle.nt_file_meaning.specs.Headers.{header_payload_at}
use Rattle.nt_file_meaning.specs.Outlines.{Outline, header_block, footer_block, list_block, known_columns, no_progress, clusters_of_block}

-- the payload of a header describes these rows
abbrev pub DescribesHeader : List ℕ → Table → Type 0
DescribesHeader payload t = header_payload_at (standing 0 payload) ≡ Ok t

-- the payload of a footer names the header by its checksum, describes the rows of an extension behind the header's, and has these groups
abbrev pub DescribesFooter : List ℕ → ℕ → Table → Table → List Group → Type 0
DescribesFooter payload sum header t gs = footer_at sum header (standing 0 payload) ≡ Ok (t, gs)

-- the payload of a page list names the header by its checksum, and lists these clusters of a group behind those before
abbrev pub DescribesClusters : List ℕ → ℕ → List KnownColumn → Group → ProgressCounts → List ClusterList → ProgressCounts → Type 0
DescribesClusters payload sum columns g before ks after = page_list_at sum g columns before (standing 0 payload) ≡ Ok (ks, after)

-- the link of a group leads to its page list, which lists these clusters
pub record ListsGroup (file : List ℕ) (sum : ℕ) (columns : List KnownColumn) (g : Group) (before : ProgressCounts)
    (ks : List ClusterList) (after : ProgressCounts) : Type 0 where
  pub list : Sealed
  pub inside : List ClusterList
  pub there : IsEnvelope file page_list_kind (list_block g.link) list
  pub lists : DescribesClusters list.payload sum columns g before inside after
  pub are : ks ≡ clusters_of_block (list_block g.link) inside

-- the links of groups lead to page lists, which list these clusters one group behind the other
pub data ListsGroups (file : List ℕ) (sum : ℕ) (columns : List KnownColumn) : List Group → ProgressCounts → List ClusterList → Type 0 where
  no_more : {p : ProgressCounts} → ListsGroups file sum columns [] p []
  and_more : {g : Group} {gs : List Group} {p q : ProgressCounts} {ks others : List ClusterList}
      → ListsGroup file sum columns g p ks q → ListsGroups file sum columns gs q others
      → ListsGroups file sum columns (g ∷ gs) p (ks ++ others)

-- a file has this outline
pub record HasOutline (file : List ℕ) (o : Outline) : Type 0 where
  pub anchor : Anchor
  pub header : Sealed
  pub footer : Sealed
  pub first : Table
  pub groups : List Group
  -- the container embeds the anchor
  pub embeds : Embeds file anchor
  -- the anchor leads to the header, which describes the first rows
  pub header_there : IsEnvelope file header_kind (header_block anchor) header
  pub describes : DescribesHeader header.payload first
  -- and to the footer, which describes all rows, and the groups of clusters
  pub footer_there : IsEnvelope file footer_kind (footer_block anchor) footer
  pub extends : DescribesFooter footer.payload header.sum first o.table groups
  -- the groups' page lists list the clusters
  pub lists : ListsGroups file header.sum (known_columns o.table) groups (no_progress (length o.table.columns)) o.clusters
