-- A finished file: file header and directory, the header, the ranges of the clusters with their page lists, the footer, the anchor and
-- the lists of keys and of free pieces (RNTuple Binary Format Specification 1.0.0.0; the container as nt_container says).
use Rattle.std.specs.Prelude.{ℕ, ◌+◌, Bool, true, false, List, [], ◌∷◌, ◌++◌, length, take, drop}
use Rattle.std.specs.List.{concat, sum_by}
use Rattle.nt_format.specs.Envelopes.{envelope}
use Rattle.nt_container.specs.declared.anchor.Anchor.{Anchor}
use Rattle.nt_container.specs.Lengths.{begun_len, anchor_part_len, key_list_part_len, free_list_part_len}
use Rattle.nt_container.specs.Spelling.{header_part, record_part, anchor_part, key_list_part, free_list_part}
use Rattle.nt_container.specs.Finished.{finished_file}
use Rattle.nt_grammar.specs.Table.{Table}
use Rattle.nt_machine.specs.History.{Cluster, ranges_of}
use Rattle.nt_machine.specs.Legal.{end_after}
use Rattle.nt_book.specs.declared.meta.ClusterMeta.{ClusterMeta}
use Rattle.nt_book.specs.Books.{BookData, book_clusters}
use Rattle.nt_file_meaning.specs.Envelopes.{footer_kind}
use Rattle.nt_pagelists.specs.declared.group.Group.{Group}
use Rattle.nt_pagelists.specs.FooterWriting.{footer_text}
use Rattle.nt_pagelists.specs.Blobs.{blob, blob_len, object_place}
use Rattle.nt_lists.specs.Parts.{Part, part_bytes}
use Rattle.nt_layout.specs.Headers.{header_object, header_sum, header_blob}
use Rattle.nt_pagelists.specs.Objects.{ClusterSpan, group_spans, list_len}
use Rattle.nt_layout.specs.Groups.{PlacedList, places_beside, places_behind, list_part, list_parts}
use Rattle.nt_layout.specs.Groups.{list_groups}

-- the groups of a book's clusters, at most so many clusters each
abbrev pub spans : BookData → ℕ → List ClusterSpan
spans book most = group_spans most (length (book_clusters book))

-- where the page lists of a book stand: behind all ranges where its clusters are staged, else each behind its last cluster
abbrev pub list_places : Bool → Table → BookData → ℕ → List PlacedList
list_places true t book most =
    places_behind (header_sum t) book (end_after book.begin (ranges_of book.history)) (spans book most)
list_places false t book most = places_beside book (spans book most)

-- the page lists of a book behind all ranges
abbrev pub lists_behind : Table → BookData → ℕ → List PlacedList
lists_behind t book most = list_places true t book most

-- the ranges of clusters, with these bytes
abbrev pub range_parts : List (Cluster ClusterMeta) → List (List ℕ) → List Part
range_parts [] ranges = []
range_parts (c ∷ cs) [] = []
range_parts (c ∷ cs) (range ∷ ranges) = record { place = c.start; bytes = range } ∷ range_parts cs ranges

-- ranges, and behind the last one that a page list lists that list
abbrev pub parts_beside : ℕ → BookData → List PlacedList → List Part → List Part
parts_beside sum book [] ranges = ranges
parts_beside sum book (l ∷ ls) ranges =
    take l.span.count ranges ++ (list_part sum book l ∷ parts_beside sum book ls (drop l.span.count ranges))

-- what stands between header and footer
abbrev pub middle : Bool → Table → BookData → ℕ → List (List ℕ) → List Part
middle true t book most ranges =
    range_parts (ranges_of book.history) ranges ++ list_parts (header_sum t) book (list_places true t book most)
middle false t book most ranges =
    parts_beside (header_sum t) book (list_places false t book most) (range_parts (ranges_of book.history) ranges)

-- the blobs of page lists
abbrev pub list_blobs : Table → BookData → List PlacedList → List (List ℕ)
list_blobs t book ls = part_bytes (list_parts (header_sum t) book ls)

-- the groups of page lists
abbrev pub groups : Table → BookData → List PlacedList → List Group
groups t book ls = list_groups (header_sum t) book ls

-- the footer of a file with these page lists
unfoldable pub footer_object : Table → BookData → List PlacedList → List ℕ
footer_object t book ls = envelope footer_kind (footer_text (header_sum t) t (groups t book ls))

-- where its blob begins: behind all ranges and page lists
unfoldable pub footer_place : Table → BookData → List PlacedList → ℕ
footer_place t book ls =
    end_after book.begin (ranges_of book.history) + sum_by (λ (l : PlacedList). list_len (header_sum t) book l.span) ls

-- the footer's blob
abbrev pub footer_blob : Table → BookData → List PlacedList → List ℕ
footer_blob t book ls = blob (footer_place t book ls) (footer_object t book ls)

-- what the anchor says: where header and footer stand, each stored as it is
abbrev pub anchor_of_file : Table → BookData → List PlacedList → Anchor
anchor_of_file t book ls = record {
  header = object_place begun_len;
  header_size = length (header_object t);
  header_len = length (header_object t);
  footer = object_place (footer_place t book ls);
  footer_size = length (footer_object t book ls);
  footer_len = length (footer_object t book ls);
}

-- the blobs of a file, between its container's parts
abbrev pub blobs : Table → BookData → List PlacedList → List Part → List (List ℕ)
blobs t book ls parts = header_blob t ∷ (part_bytes parts ++ footer_blob t book ls ∷ [])

-- the finished file of a schema and a book, with these parts between header and footer, the page lists among them
abbrev pub finished_with : Table → BookData → List PlacedList → List Part → List ℕ
finished_with t book ls parts = finished_file (anchor_of_file t book ls) (blobs t book ls parts)

-- with at most so many clusters a group, and these bytes in the ranges
abbrev pub finished : Bool → Table → BookData → ℕ → List (List ℕ) → List ℕ
finished staged t book most ranges = finished_with t book (list_places staged t book most) (middle staged t book most ranges)

-- where the anchor begins
unfoldable pub anchor_start : Table → BookData → List PlacedList → ℕ
anchor_start t book ls = footer_place t book ls + blob_len (length (footer_object t book ls))

-- where the list of keys begins
abbrev pub keys_start : Table → BookData → List PlacedList → ℕ
keys_start t book ls = anchor_start t book ls + anchor_part_len

-- where the list of free pieces begins
abbrev pub free_start : Table → BookData → List PlacedList → ℕ
free_start t book ls = keys_start t book ls + key_list_part_len

-- how many bytes the file has
abbrev pub file_len : Table → BookData → List PlacedList → ℕ
file_len t book ls = free_start t book ls + free_list_part_len

-- what stands behind the ranges and page lists
unfoldable pub ending : Table → BookData → List PlacedList → List ℕ
ending t book ls =
    footer_blob t book ls
    ++ (anchor_part (anchor_start t book ls) (anchor_of_file t book ls)
    ++ (key_list_part (keys_start t book ls) (anchor_start t book ls)
    ++ free_list_part (free_start t book ls) (file_len t book ls)))

-- what stands behind the ranges of the clusters where these page lists do
abbrev pub tail : Table → BookData → List PlacedList → List ℕ
tail t book ls = concat (list_blobs t book ls) ++ ending t book ls

-- what stands in front of the header's blob, without the first byte
unfoldable pub front : Table → BookData → List PlacedList → List ℕ
front t book ls = drop 1 (header_part (file_len t book ls) (free_start t book ls)) ++ record_part (keys_start t book ls)
