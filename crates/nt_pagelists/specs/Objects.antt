-- The page lists of a book, as objects of its file (RNTuple Binary Format Specification 1.0.0.0, section Page List Envelope).
use Rattle.std.specs.Prelude.{ℕ, ◌-◌, ◌*◌, min, List, map, length}
use Rattle.std.specs.Int.{div_ceil}
use Rattle.std.specs.List.{range_with_len}
use Rattle.nt_format.specs.Envelopes.{envelope}
use Rattle.nt_book.specs.Books.{BookData}
use Rattle.nt_pagelists.specs.Blobs.{blob_len}
use Rattle.nt_pagelists.specs.Books.{listed_clusters}
use Rattle.nt_pagelists.specs.Writing.{page_list_text}

-- the kind of envelope
abbrev pub page_list_kind : ℕ
page_list_kind = 3

-- so many clusters from this number on
pub record ClusterSpan : Type 0 where
  pub from : ℕ
  pub count : ℕ

-- group i of so many clusters, of which each group has at most so many
abbrev pub cluster_span : ℕ → ℕ → ℕ → ClusterSpan
cluster_span most clusters i = record { from = i * most; count = min most (clusters - i * most) }

-- the groups of so many clusters, of which each has at most so many
abbrev pub group_spans : ℕ → ℕ → List ClusterSpan
group_spans most clusters = map (cluster_span most clusters) (range_with_len 0 (div_ceil clusters most))

-- the page list of these clusters of a book, under the header of this checksum
unfoldable pub list_object : ℕ → BookData → ClusterSpan → List ℕ
list_object sum book s = envelope page_list_kind (page_list_text sum (listed_clusters book s.from s.count))

-- how many bytes its blob has
abbrev pub list_len : ℕ → BookData → ClusterSpan → ℕ
list_len sum book s = blob_len (length (list_object sum book s))
