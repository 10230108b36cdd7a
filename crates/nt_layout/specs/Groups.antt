-- The page lists of a book, a group of clusters each, one behind the other (RNTuple Binary Format Specification 1.0.0.0, sections Page List
-- Envelope and Cluster Group Record Frame).
use Rattle.std.specs.Prelude.{ℕ, ◌+◌, ◌-◌, List, [], ◌∷◌, map, length}
use Rattle.nt_machine.specs.History.{Cluster}
use Rattle.nt_book.specs.declared.meta.ClusterMeta.{ClusterMeta}
use Rattle.nt_book.specs.Books.{BookData, first_entry, cluster_at}
use Rattle.nt_pagelists.specs.declared.group.Group.{Group}
use Rattle.nt_pagelists.specs.Blobs.{blob, object_place}
use Rattle.nt_pagelists.specs.Objects.{ClusterSpan, list_object, list_len}
use Rattle.nt_lists.specs.Parts.{Part, part_bytes}

-- a page list: where its blob begins, and the clusters that it lists
pub record PlacedList : Type 0 where
  pub place : ℕ
  pub span : ClusterSpan

-- where the range of a cluster ends
abbrev pub range_end : Cluster ClusterMeta → ℕ
range_end c = c.start + c.len

-- the page list of these clusters stands behind the last one of them
abbrev pub place_beside : BookData → ClusterSpan → PlacedList
place_beside book s = record { place = range_end (cluster_at book (s.from + s.count - 1)); span = s }

-- page lists beside their clusters
abbrev pub places_beside : BookData → List ClusterSpan → List PlacedList
places_beside book ss = map (place_beside book) ss

-- page lists one behind the other, from a place on
abbrev pub places_behind : ℕ → BookData → ℕ → List ClusterSpan → List PlacedList
places_behind sum book place [] = []
places_behind sum book place (s ∷ ss) = record { place = place; span = s } ∷ places_behind sum book (place + list_len sum book s) ss

-- the part of a page list
abbrev pub list_part : ℕ → BookData → PlacedList → Part
list_part sum book l = record { place = l.place; bytes = blob l.place (list_object sum book l.span) }

-- the parts of page lists
abbrev pub list_parts : ℕ → BookData → List PlacedList → List Part
list_parts sum book ls = map (list_part sum book) ls

-- the entries of these clusters
abbrev pub span_entries : BookData → ClusterSpan → ℕ
span_entries book s = first_entry book (s.from + s.count) - first_entry book s.from

-- the group of these clusters, whose page list has its blob at a place
abbrev pub span_group : ℕ → BookData → ℕ → ClusterSpan → Group
span_group sum book place s = record {
  first = first_entry book s.from;
  span = span_entries book s;
  clusters = s.count;
  link = record {
    length = length (list_object sum book s);
    at = record {
      size = length (list_object sum book s);
      place = object_place place;
    };
  };
}

-- the group of a page list
abbrev pub list_group : ℕ → BookData → PlacedList → Group
list_group sum book l = span_group sum book l.place l.span

-- the groups of page lists
abbrev pub list_groups : ℕ → BookData → List PlacedList → List Group
list_groups sum book ls = map (list_group sum book) ls

-- the blobs of page lists, one behind the other, from a place on
abbrev pub lists_from : ℕ → BookData → ℕ → List ClusterSpan → List (List ℕ)
lists_from sum book place ss = part_bytes (list_parts sum book (places_behind sum book place ss))

-- and their groups
abbrev pub groups_from : ℕ → BookData → ℕ → List ClusterSpan → List Group
groups_from sum book place ss = list_groups sum book (places_behind sum book place ss)
