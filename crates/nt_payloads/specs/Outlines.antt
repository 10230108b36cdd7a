-- When a file has an outline, with no reading of a payload in it: what nt_file_meaning says of files (`HasOutline`), told by the grammar of
-- payloads (RNTuple Binary Format Specification 1.0.0.0, sections Anchor Schema, Header Envelope, Footer Envelope and Page List Envelope).
use Rattle.std.specs.Prelude.{ℕ, ◌≡◌, List, [], ◌∷◌, ◌++◌, length}
use Rattle.nt_container.specs.declared.anchor.Anchor.{Anchor}
use Rattle.nt_container.specs.Embeds.{Embeds}
use Rattle.nt_grammar.specs.Table.{Table}
use Rattle.nt_pagelists.specs.declared.group.Group.{Group}
use Rattle.nt_pagelists.specs.declared.column.KnownColumn.{KnownColumn}
use Rattle.nt_pagelists.specs.declared.cluster.ClusterList.{ClusterList}
use Rattle.nt_pagelists.specs.PageLists.{ProgressCounts}
use Rattle.nt_file_meaning.specs.Envelopes.{Sealed, IsEnvelope, header_kind, footer_kind}
use Rattle.nt_pagelists.specs.Objects.{page_list_kind}
use Rattle.nt_file_meaning.specs.Outlines.{Outline, header_block, footer_block, list_block, known_columns, no_progress, clusters_of_block}
use Rattle.nt_payloads.specs.Conditions.{IsPageList}
use Rattle.nt_payloads.specs.Descriptions.{IsHeaderPayload}
use Rattle.nt_payloads.specs.Footers.{IsFooter}

-- the link of a group leads to its page list, which lists these clusters behind those before
pub record IsGroupListed (file : List ℕ) (sum : ℕ) (columns : List KnownColumn) (g : Group) (before : ProgressCounts)
    (ks : List ClusterList) (after : ProgressCounts) : Type 0 where
  pub list : Sealed
  pub inside : List ClusterList
  pub there : IsEnvelope file page_list_kind (list_block g.link) list
  pub lists : IsPageList sum g columns before 0 list.payload (inside, after)
  pub are : ks ≡ clusters_of_block (list_block g.link) inside

-- the links of groups lead to page lists, which list these clusters one group behind the other
pub data AreGroupsListed (file : List ℕ) (sum : ℕ) (columns : List KnownColumn)
    : List Group → ProgressCounts → List ClusterList → Type 0 where
  no_group : {p : ProgressCounts} → AreGroupsListed file sum columns [] p []
  and_group : {g : Group} {gs : List Group} {p q : ProgressCounts} {ks others : List ClusterList}
      → IsGroupListed file sum columns g p ks q → AreGroupsListed file sum columns gs q others
      → AreGroupsListed file sum columns (g ∷ gs) p (ks ++ others)

-- a file is outlined so: the container embeds an anchor, the anchor leads to header and footer, whose payloads describe the rows and the
-- groups of clusters, and the links of the groups lead to their page lists
pub record IsOutlined (file : List ℕ) (o : Outline) : Type 0 where
  pub anchor : Anchor
  pub header : Sealed
  pub footer : Sealed
  pub first : Table
  pub groups : List Group
  pub embeds : Embeds file anchor
  pub header_there : IsEnvelope file header_kind (header_block anchor) header
  pub describes : IsHeaderPayload 0 header.payload first
  pub footer_there : IsEnvelope file footer_kind (footer_block anchor) footer
  pub extends : IsFooter header.sum first 0 footer.payload (o.table, groups)
  pub lists : AreGroupsListed file header.sum (known_columns o.table) groups (no_progress (length o.table.columns)) o.clusters
