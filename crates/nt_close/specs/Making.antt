-- What closing writes behind a file's clusters, made part by part.
use Rattle.std.specs.Prelude.{◌≡◌, ℕ, ◌+◌, ◌-◌, ◌<◌, ◌≤◌, ◌^◌, Bool, true, false, List, [], ◌∷◌, ◌++◌, map, length, drop}
use Rattle.std.specs.Prelude.{Option, Some, None}
use Rattle.std.specs.List.{concat}
use Rattle.nt_lists.specs.Parts.{part_bytes}
use Rattle.nt_format.specs.Envelopes.{envelope}
use Rattle.nt_file_meaning.specs.Envelopes.{footer_kind}
use Rattle.nt_container.specs.declared.anchor.Anchor.{Anchor}
use Rattle.nt_container.specs.declared.parts.FileFields.{FileFields}
use Rattle.nt_container.specs.Lengths.{begun_len, anchor_part_len, key_list_part_len, free_list_part_len}
use Rattle.nt_container.specs.Spelling.{header_part, record_part, anchor_part, key_list_part, free_list_part}
use Rattle.nt_grammar.specs.Table.{Table}
use Rattle.nt_schema.specs.Whole.{AreWhole}
use Rattle.nt_book.specs.declared.limits.Limits.{Limits}
use Rattle.nt_book.specs.declared.limits.LimitError.{LimitError}
use Rattle.nt_book.specs.declared.limits.LimitError.TheVariants as limit
use Rattle.nt_book.specs.declared.list.NotedList.{NotedList}
use Rattle.nt_book.specs.declared.params.Params.{Params}
use Rattle.nt_machine.specs.History.{ranges_of}
use Rattle.nt_machine.specs.Legal.{end_after}
use Rattle.nt_book.specs.Books.{BookData, book_end, cluster_at, first_entry}
use Rattle.nt_pagelists.specs.declared.group.Group.{Group}
use Rattle.nt_pagelists.specs.FooterWriting.{footer_text}
use Rattle.nt_pagelists.specs.Blobs.{blob, object_place}
use Rattle.nt_layout.specs.Headers.{header_object, header_sum}
use Rattle.nt_pagelists.specs.Objects.{ClusterSpan, list_object, list_len}
use Rattle.nt_layout.specs.Groups.{PlacedList, range_end, span_group, places_beside, places_behind, list_parts, list_groups}
use Rattle.nt_layout.specs.Groups.{lists_from, groups_from}
use Rattle.nt_tfile.specs.Places.{ArePlaces}
use Rattle.nt_layout.specs.Finished.{spans, list_places, list_blobs, footer_blob, anchor_of_file, keys_start, free_start, file_len}
use Rattle.nt_layout.specs.Arranged.{group_for, lists_after}
use Rattle.nt_close.specs.declared.error.CloseError.{CloseError}
use Rattle.nt_close.specs.declared.error.CloseError.TheVariants.{Spoiled, Torn, Unpublished, Memory, RangeTooLarge, FileTooLarge, Fault}
use Rattle.nt_close.specs.Passing.{first_passed}
use Rattle.nt_close.specs.Filled.{AreListsNoted, closing_tail}

-- memory is wanting, or this limit is passed
abbrev pub IsPassed : Option LimitError → CloseError → Type 0
IsPassed passed (Spoiled cluster faults) = ⊥
IsPassed passed (Torn group faults) = ⊥
IsPassed passed (Unpublished range) = ⊥
IsPassed passed Memory = Unit {0}
IsPassed passed (RangeTooLarge len most) = passed ≡ Some (limit.RangeTooLarge len most)
IsPassed passed (FileTooLarge end most) = passed ≡ Some (limit.FileTooLarge end most)
IsPassed passed Fault = ⊥

-- memory is wanting, or the first limit that a file passes is passed by one of its first blobs, which are so long
abbrev pub ArePassedBy : Limits → List ℕ → CloseError → Type 0
ArePassedBy limits lens e = (more : List ℕ) (end : ℕ) → IsPassed (first_passed limits (lens ++ more) end) e

-- the same of one blob
abbrev pub IsPassedBy : Limits → ℕ → CloseError → Type 0
IsPassedBy limits len e = ArePassedBy limits (len ∷ []) e

-- no limit is passed by blobs of these lengths: it is by what comes behind them, if it is
abbrev pub NonePassed : Limits → List ℕ → Type 0
NonePassed limits lens = (more : List ℕ) (end : ℕ) → first_passed limits (lens ++ more) end ≡ first_passed limits more end

-- a schema's header, and its checksum
pub record IsHeaderOf (t : Table) (bytes : List ℕ) (sum : ℕ) : Type 0 where
  pub bytes_are : bytes ≡ header_object t
  pub sum_is : sum ≡ header_sum t

-- a group of so many clusters from this one on, whose page list is noted with its size and stands behind the last range
abbrev pub noted_group : BookData → ℕ → ℕ → NotedList → Group
noted_group book most from l = record {
  first = first_entry book from;
  span = first_entry book (from + most) - first_entry book from;
  clusters = most;
  link = record {
    length = l.at.size;
    at = record { size = l.at.size; place = object_place (range_end (cluster_at book (from + most - 1))) };
  };
}

-- the groups of these notes, one behind the other
abbrev pub noted_groups : BookData → ℕ → ℕ → List NotedList → List Group
noted_groups book most from [] = []
noted_groups book most from (l ∷ ls) = noted_group book most from l ∷ noted_groups book most (from + most) ls

-- the page lists of a book that are left to be written, under a header of this checksum: all behind the ranges, where its clusters are
-- staged; else those that aren't noted, each behind the last cluster of its group
abbrev pub left_lists : Bool → ℕ → BookData → ℕ → List PlacedList
left_lists true sum book most = places_behind sum book (end_after book.begin (ranges_of book.history)) (spans book most)
left_lists false sum book most = drop (length book.lists) (places_beside book (spans book most))

-- their blobs, and the groups of all page lists, which a footer can name
pub record AreListsLeft (sum : ℕ) (book : BookData) (most : ℕ) (bytes : List ℕ) (groups : List Group) : Type 0 where
  pub bytes_are : bytes ≡ concat (part_bytes (list_parts sum book (left_lists book.staged sum book most)))
  pub groups_are : groups ≡ noted_groups book most 0 book.lists ++ list_groups sum book (left_lists book.staged sum book most)
  pub few : length groups < 2 ^ 32

-- the lengths of their blobs
abbrev pub left_lens : ℕ → BookData → ℕ → List ℕ
left_lens sum book most = map (λ (l : PlacedList). list_len sum book l.span) (left_lists book.staged sum book most)

-- the blob of the page list of these clusters stands behind the bytes that begin at the end of the book, and their group behind the others
pub record AddsList (sum : ℕ) (book : BookData) (s : ClusterSpan) (old new : List ℕ) (groups more : List Group) : Type 0 where
  pub bytes : new ≡ old ++ blob (book_end book + length old) (list_object sum book s)
  pub group : more ≡ groups ++ span_group sum book (book_end book + length old) s ∷ []

-- the groups whose page lists aren't noted, and how long the blobs of the page lists of some groups are
abbrev pub spans_left : BookData → ℕ → List ClusterSpan
spans_left book most = drop (length book.lists) (spans book most)

abbrev pub list_lens : ℕ → BookData → List ClusterSpan → List ℕ
list_lens sum book ss = map (list_len sum book) ss

-- the same of the page lists of these groups, one behind the other
pub record AddsLists (sum : ℕ) (book : BookData) (ss : List ClusterSpan) (old new : List ℕ) (groups more : List Group) : Type 0 where
  pub bytes : new ≡ old ++ concat (lists_from sum book (book_end book + length old) ss)
  pub group : more ≡ groups ++ groups_from sum book (book_end book + length old) ss

-- the page lists that are left can be made, for groups of so many clusters under a header of this checksum: none failed
pub record CanBeListed (book : BookData) (most sum : ℕ) : Type 0 where
  pub group : book.group ≡ group_for book.staged most sum
  pub some : 0 < most
  pub untorn : book.torn ≡ None

-- what is left to be written behind a book's clusters can be made: what is noted is right, none failed, and a description holds the rows
-- whole
pub record CanBeEnded (t : Table) (p : Params) (book : BookData) : Type 0 where
  pub whole : AreWhole t
  pub noted : AreListsNoted t p book
  pub untorn : book.torn ≡ None

-- a footer of these groups can be written behind bytes that begin at a place, for this header
pub record CanHaveFooter (t : Table) (start : ℕ) (gs : List Group) (header : List ℕ) (sum : ℕ) : Type 0 where
  pub low : start ≤ 2 ^ 56
  pub few : length gs < 2 ^ 32
  pub header_is : IsHeaderOf t header sum
  pub whole : AreWhole t

-- the footer of these groups
unfoldable pub footer_with : Table → List Group → List ℕ
footer_with t gs = envelope footer_kind (footer_text (header_sum t) t gs)

-- the anchor of a file whose footer is this object, with its blob at a place
abbrev pub anchor_to : Table → ℕ → List ℕ → Anchor
anchor_to t place footer = record {
  header = object_place begun_len;
  header_size = length (header_object t);
  header_len = length (header_object t);
  footer = object_place place;
  footer_size = length footer;
  footer_len = length footer;
}

-- the footer's blob stands behind the bytes that begin at a place, and the anchor leads to it
pub record AddsFooter (t : Table) (start : ℕ) (gs : List Group) (old new : List ℕ) (a : Anchor) : Type 0 where
  pub bytes_are : new ≡ old ++ blob (start + length old) (footer_with t gs)
  pub anchor_is : a ≡ anchor_to t (start + length old) (footer_with t gs)

-- anchor, list of keys and list of free pieces from a place on
abbrev pub container_behind : ℕ → Anchor → List ℕ
container_behind place a =
    anchor_part place a
    ++ (key_list_part (place + anchor_part_len) place
    ++ free_list_part (place + anchor_part_len + key_list_part_len) (place + anchor_part_len + key_list_part_len + free_list_part_len))

-- where the lists and the end of a file are whose anchor begins there
abbrev pub fields_behind : ℕ → FileFields
fields_behind place = record {
  end = place + anchor_part_len + key_list_part_len + free_list_part_len;
  keys = place + anchor_part_len;
  free = place + anchor_part_len + key_list_part_len;
}

-- where the lists and the end of the finished file are
abbrev pub fields_of : Bool → Table → BookData → ℕ → FileFields
fields_of staged t book most = record {
  end = file_len t book (list_places staged t book most);
  keys = keys_start t book (list_places staged t book most);
  free = free_start t book (list_places staged t book most);
}

-- the page lists that are left and the footer stand behind the book's clusters, and the anchor leads to header and footer
pub record AreBlobsBehind (staged : Bool) (t : Table) (book : BookData) (most : ℕ) (bytes : List ℕ) (a : Anchor) : Type 0 where
  pub bytes_are : bytes ≡ concat (list_blobs t book (lists_after staged t book most)) ++ footer_blob t book (list_places staged t book most)
  pub anchor_is : a ≡ anchor_of_file t book (list_places staged t book most)

-- all of it stands behind them, where file header and directory say so; the file ends behind it
pub record IsEnding (staged : Bool) (t : Table) (book : BookData) (most : ℕ) (bytes : List ℕ) (f : FileFields) : Type 0 where
  pub bytes_are : bytes ≡ closing_tail staged t book most
  pub fields_are : f ≡ fields_of staged t book most
  pub places : ArePlaces f
  pub end : f.end ≡ book_end book + length bytes

-- what stands in front of the header's blob, without the first byte, if file header and directory say so
abbrev pub front_with : FileFields → List ℕ
front_with f = drop 1 (header_part f.end f.free) ++ record_part f.keys
