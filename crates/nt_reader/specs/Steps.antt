-- The outline of a file in the steps in which it is read.
use Rattle.std.specs.Prelude.{ℕ, ◌≡◌, ◌+◌, ◌<◌, ◌^◌, List, [], ◌∷◌, ◌++◌, length, Result, Ok}
use Rattle.nt_num.specs.declared.fault.ReadError.{ReadError}
use Rattle.nt_lists.specs.Chaining.{◌>>=◌}
use Rattle.nt_format.specs.Reading.{standing}
use Rattle.nt_container.specs.declared.anchor.Anchor.{Anchor}
use Rattle.nt_grammar.specs.Table.{Table}
use Rattle.nt_pagelists.specs.declared.group.Group.{Group}
use Rattle.nt_pagelists.specs.declared.column.KnownColumn.{KnownColumn}
use Rattle.nt_pagelists.specs.declared.cluster.ClusterList.{ClusterList}
use Rattle.nt_pagelists.specs.PageLists.{ProgressCounts}
use Rattle.nt_pagelists.specs.Footers.{footer_at}
use Rattle.nt_file_meaning.specs.Envelopes.{header_kind, footer_kind, envelope_of, inside_of}
use Rattle.nt_file_meaning.specs.Headers.{header_payload_at}
use Rattle.nt_file_meaning.specs.Outlines.{header_block, footer_block, group_clusters, groups_clusters}

-- the rows that the header describes, and the header's checksum
abbrev pub header_said : Anchor → List ℕ → Result (Table × ℕ) ReadError
header_said a file =
    envelope_of file header_kind (header_block a) >>= λ header. inside_of (header_block a) (header_payload_at (standing 0 header.payload))
    >>= λ first. Ok (first, header.sum)

-- the same rows with those of the footer's extension, and the groups
abbrev pub footer_said : Anchor → Table × ℕ → List ℕ → Result (Table × List Group × ℕ) ReadError
footer_said a first file =
    envelope_of file footer_kind (footer_block a) >>= λ footer. inside_of (footer_block a)
    (footer_at first.1 first.0 (standing 0 footer.payload))
    >>= λ whole. Ok (whole.0, whole.1, first.1)

-- the clusters of a group behind these
abbrev pub clusters_with : ℕ → List KnownColumn → Group → ProgressCounts → List ClusterList → List ℕ
    → Result (List ClusterList × ProgressCounts) ReadError
clusters_with sum columns g p before file = group_clusters file sum columns g p >>= λ read. Ok (before ++ read.0, read.1)

-- the clusters of these groups behind these
abbrev pub clusters_behind : ℕ → List KnownColumn → List Group → ProgressCounts → List ClusterList → List ℕ
    → Result (List ClusterList) ReadError
clusters_behind sum columns gs p before file = groups_clusters file sum columns gs p >>= λ others. Ok (before ++ others)

-- a group's entries and clusters can be counted behind so many
pub record CanBeCounted (entries clusters : ℕ) (g : Group) : Type 0 where
  pub low : entries + g.span < 2 ^ 64
  pub few : clusters + g.clusters < 2 ^ 32

-- the group can be counted behind what was read of these columns
pub record CanFollow (columns : List KnownColumn) (p : ProgressCounts) (g : Group) : Type 0 where
  pub same : length p.elements ≡ length columns
  pub room : CanBeCounted p.entries p.clusters g

-- groups can be counted, one behind the other, behind so many entries and clusters
abbrev pub AreCounted : ℕ → ℕ → List Group → Type 0
AreCounted entries clusters [] = Unit {0}
AreCounted entries clusters (g ∷ gs) = CanBeCounted entries clusters g × AreCounted (entries + g.span) (clusters + g.clusters) gs

-- a group was counted, and has as many clusters as it says
pub record IsGroupCounted (g : Group) (p : ProgressCounts) (ks : List ClusterList) (q : ProgressCounts)
    (all : List ClusterList) : Type 0 where
  pub clusters : q.clusters ≡ p.clusters + g.clusters
  pub entries : q.entries ≡ p.entries + g.span
  pub columns : length q.elements ≡ length p.elements
  pub listed : length all ≡ length ks + g.clusters
