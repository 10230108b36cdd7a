-- A file has an outline exactly where it is outlined by the grammar of its payloads.
use Rattle.std.proofs.Common.{ℕ, List, [], ◌∷◌}
use Rattle.nt_format.specs.Reading.{IsBytes}
use Rattle.nt_format.specs.Relations.{Agrees}
use Rattle.nt_format.proofs.Relations.{in_words}
use Rattle.nt_pagelists.specs.declared.group.Group.{Group}
use Rattle.nt_pagelists.specs.declared.column.KnownColumn.{KnownColumn}
use Rattle.nt_pagelists.specs.declared.cluster.ClusterList.{ClusterList}
use Rattle.nt_pagelists.specs.PageLists.{ProgressCounts}
use Rattle.nt_file_meaning.specs.Envelopes.{header_kind, footer_kind}
use Rattle.nt_pagelists.specs.Objects.{page_list_kind}
use Rattle.nt_file_meaning.specs.Outlines.{Outline, header_block, footer_block, list_block, known_columns, outline_of}
use Rattle.nt_file_meaning.specs.Describes.{ListsGroup, ListsGroups, no_more, and_more, HasOutline}
use Rattle.nt_file_meaning.proofs.OutlinesBack.{outlined}
use Rattle.nt_payloads.specs.Outlines.{IsGroupListed, AreGroupsListed, no_group, and_group, IsOutlined}
use Rattle.nt_payloads.proofs.Files.{payload_bytes, header_words, footer_words, page_list_words}

group_to : (file : List ℕ) (sum : ℕ) (columns : List KnownColumn) (g : Group) (p q : ProgressCounts)
    (ks : List ClusterList) → IsBytes file
    → ListsGroup file sum columns g p ks q → IsGroupListed file sum columns g p ks q
group_to file sum columns g p q ks bytes l =
    let payload = payload_bytes file page_list_kind (list_block g.link) l.list bytes l.there in
    record {
      list = l.list;
      inside = l.inside;
      there = l.there;
      lists = (page_list_words l.list.payload sum columns g p q l.inside payload).0 l.lists;
      are = l.are;
    }

group_from : (file : List ℕ) (sum : ℕ) (columns : List KnownColumn) (g : Group) (p q : ProgressCounts)
    (ks : List ClusterList) → IsBytes file
    → IsGroupListed file sum columns g p ks q → ListsGroup file sum columns g p ks q
group_from file sum columns g p q ks bytes l =
    let payload = payload_bytes file page_list_kind (list_block g.link) l.list bytes l.there in
    record {
      list = l.list;
      inside = l.inside;
      there = l.there;
      lists = (page_list_words l.list.payload sum columns g p q l.inside payload).1 l.lists;
      are = l.are;
    }

groups_to : (file : List ℕ) (sum : ℕ) (columns : List KnownColumn) (gs : List Group) (p : ProgressCounts)
    (ks : List ClusterList) → IsBytes file
    → ListsGroups file sum columns gs p ks → AreGroupsListed file sum columns gs p ks
groups_to file sum columns [] p ks bytes no_more = no_group
groups_to file sum columns (g ∷ gs) p ks bytes (and_more {q = q} {ks = one} {others = others} first more) =
    and_group (group_to file sum columns g p q one bytes first) (groups_to file sum columns gs q others bytes more)

groups_from : (file : List ℕ) (sum : ℕ) (columns : List KnownColumn) (gs : List Group) (p : ProgressCounts)
    (ks : List ClusterList) → IsBytes file
    → AreGroupsListed file sum columns gs p ks → ListsGroups file sum columns gs p ks
groups_from file sum columns [] p ks bytes no_group = no_more
groups_from file sum columns (g ∷ gs) p ks bytes (and_group {q = q} {ks = one} {others = others} first more) =
    and_more (group_from file sum columns g p q one bytes first) (groups_from file sum columns gs q others bytes more)

pub outline_to : (file : List ℕ) (o : Outline) → IsBytes file → HasOutline file o → IsOutlined file o
outline_to file o bytes h =
    let header = payload_bytes file header_kind (header_block h.anchor) h.header bytes h.header_there in
    let footer = payload_bytes file footer_kind (footer_block h.anchor) h.footer bytes h.footer_there in
    record {
      anchor = h.anchor;
      header = h.header;
      footer = h.footer;
      first = h.first;
      groups = h.groups;
      embeds = h.embeds;
      header_there = h.header_there;
      describes = (header_words h.header.payload h.first header).0 h.describes;
      footer_there = h.footer_there;
      extends = (footer_words h.footer.payload h.header.sum h.first o.table h.groups footer).0 h.extends;
      lists = groups_to file h.header.sum (known_columns o.table) h.groups _ o.clusters bytes h.lists;
    }

pub outline_from : (file : List ℕ) (o : Outline) → IsBytes file → IsOutlined file o → HasOutline file o
outline_from file o bytes h =
    let header = payload_bytes file header_kind (header_block h.anchor) h.header bytes h.header_there in
    let footer = payload_bytes file footer_kind (footer_block h.anchor) h.footer bytes h.footer_there in
    record {
      anchor = h.anchor;
      header = h.header;
      footer = h.footer;
      first = h.first;
      groups = h.groups;
      embeds = h.embeds;
      header_there = h.header_there;
      describes = (header_words h.header.payload h.first header).1 h.describes;
      footer_there = h.footer_there;
      extends = (footer_words h.footer.payload h.header.sum h.first o.table h.groups footer).1 h.extends;
      lists = groups_from file h.header.sum (known_columns o.table) h.groups _ o.clusters bytes h.lists;
    }

pub outline_words : (file : List ℕ) (o : Outline) → IsBytes file
    → (HasOutline file o → IsOutlined file o) × (IsOutlined file o → HasOutline file o)
outline_words file o bytes = (outline_to file o bytes, outline_from file o bytes)

pub outline : (file : List ℕ) → IsBytes file → Agrees (outline_of file) (IsOutlined file)
outline file bytes = in_words (λ o h. outline_to file o bytes h) (λ o h. outline_from file o bytes h) (outlined file bytes)
