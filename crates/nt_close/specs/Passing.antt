-- The first limit that a file passes, whose parts have so many bytes.
use Rattle.std.specs.Prelude.{ℕ, Bool, List, [], ◌∷◌, ◌++◌, map, length, nat_lt, if◌then◌else◌, Option, Some, None}
use Rattle.nt_grammar.specs.Table.{Table}
use Rattle.nt_book.specs.declared.limits.Limits.{Limits}
use Rattle.nt_book.specs.declared.limits.LimitError.{LimitError}
use Rattle.nt_book.specs.declared.limits.LimitError.TheVariants.{RangeTooLarge, FileTooLarge}
use Rattle.nt_book.specs.declared.params.Params.{Params}
use Rattle.nt_book.specs.Books.{BookData}
use Rattle.nt_pagelists.specs.Blobs.{blob_len}
use Rattle.nt_layout.specs.Headers.{header_object, header_sum, clusters_place}
use Rattle.nt_pagelists.specs.Objects.{list_len}
use Rattle.nt_layout.specs.Groups.{PlacedList}
use Rattle.nt_layout.specs.Finished.{list_places, footer_object, file_len}
use Rattle.nt_layout.specs.Arranged.{lists_after}
use Rattle.nt_layout.specs.Laid.{Measures}

-- the first blob, of these lengths in the order of the file, that is longer than a range may get; or else the end of the file, if
-- it may not end there
abbrev pub first_passed : Limits → List ℕ → ℕ → Option LimitError
first_passed limits [] end = if nat_lt limits.file end then Some (FileTooLarge end limits.file) else None
first_passed limits (len ∷ lens) end =
    if nat_lt limits.range len then Some (RangeTooLarge len limits.range) else first_passed limits lens end

-- by a file that is begun: its header's blob, and the end behind it
abbrev pub passed_by_begin : Limits → Table → Option LimitError
passed_by_begin limits t = first_passed limits (blob_len (length (header_object t)) ∷ []) (clusters_place t)

-- the lengths of the blobs that closing writes: the page lists that are left, and the footer
abbrev pub blobs_left : Bool → Table → BookData → ℕ → List ℕ
blobs_left staged t book most =
    map (λ (l : PlacedList). list_len (header_sum t) book l.span) (lists_after staged t book most)
    ++ blob_len (length (footer_object t book (list_places staged t book most))) ∷ []

-- by a file that is closed: these blobs, and the end behind all parts
abbrev pub passed_by_close : Params → Table → BookData → Option LimitError
passed_by_close p t book =
    first_passed p.limits (blobs_left p.staged t book p.group) (file_len t book (list_places p.staged t book p.group))

-- how a file is laid out by these parameters
abbrev pub measures_of : Params → Measures
measures_of p = record { staged = p.staged; page = p.page; group = p.group; range = p.limits.range; file = p.limits.file }
