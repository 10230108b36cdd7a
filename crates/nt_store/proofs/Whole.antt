-- A file whose clusters are the chunks of texts, finished within the limits.
use Rattle.std.proofs.Common.{◌≡◌, ◌∙◌, ℕ, ◌≤◌, Bool, true, false, List, [], length, replicate, map, Option, Some, None, refl, arith}
use Rattle.std.specs.Prelude.{nat_lt, if◌then◌else◌}
use Rattle.std.proofs.lemmas.Bool.Decides.{nat_tests}
use Rattle.nt_types.specs.ShapeData.{MemberData}
use Rattle.nt_types.specs.Rules.{AreFields}
use Rattle.nt_types.specs.TreeData.{TreesData}
use Rattle.nt_grammar.specs.declared.rows.ColumnRow.{ColumnRow}
use Rattle.nt_grammar.specs.Table.{Table}
use Rattle.nt_grammar.specs.Rows.{Rows}
use Rattle.nt_book.specs.declared.params.Params.{Params}
use Rattle.nt_book.specs.declared.limits.Limits.{Limits}
use Rattle.nt_book.specs.declared.limits.LimitError.{LimitError}
use Rattle.nt_book.specs.Books.{BookData}
use Rattle.nt_book.specs.Kept.{IsBookKept}
use Rattle.nt_file_meaning.specs.Files.{Means}
use Rattle.nt_pagelists.proofs.Named.{clusters-unstaged}
use Rattle.nt_pagelists.specs.Blobs.{blob_len}
use Rattle.nt_layout.specs.Headers.{header_object, clusters_place}
use Rattle.nt_layout.specs.Laid.{Measures, AreMeasures, IsBookOf, IsLaid}
use Rattle.nt_finished.specs.Filled.{IsArrangedBook}
use Rattle.nt_finished.specs.Ranged.{IsRangedBook}
use Rattle.nt_close.specs.Passing.{first_passed, passed_by_begin, measures_of}
use Rattle.nt_close.proofs.Within.{has_lists}
use Rattle.nt_store.specs.Laws.{HoldsChunks, RangesAreAsLong, FinishedAreStored}

-- the laws of finished files that are cited here
abbrev pub BooksAreOf : Type 0
BooksAreOf =
    (fields : List MemberData) (plain : Bool) (t : Table) (book : BookData) → Rows fields plain t → IsBookKept book
    → book.begin ≡ clusters_place t → book.firsts ≡ replicate (length t.columns) 0 → IsBookOf t book

abbrev pub AreRanged : Type 0
AreRanged =
    (staged : Bool) (t : Table) (most : ℕ) (book : BookData) (ranges : List (List ℕ)) → IsArrangedBook staged t most book ranges
    → map (λ (c : ColumnRow). c.first) t.columns ≡ book.firsts → IsRangedBook staged t most book ranges

abbrev pub FilesMean : Type 0
FilesMean =
    (fields : List MemberData) (plain : Bool) (file : List ℕ) (t : Table) (clusters : List (List TreesData)) (m : Measures)
    → AreFields fields → Rows fields plain t → AreMeasures m → IsLaid file t clusters m → Means file t clusters

not_above : (most n : ℕ) (b : Bool) (l : LimitError) (more : Option LimitError) → nat_lt most n ≡ b
    → (if b then Some l else more) ≡ None → n ≤ most
not_above most n true l more above none = absurd (cc none)
not_above most n false l more above none = grind (arith, nat_tests, above)

-- the header of a file that is begun is within the limits
header_within : (limits : Limits) (t : Table) → passed_by_begin limits t ≡ None → blob_len (length (header_object t)) ≤ limits.range
header_within limits t none =
    not_above limits.range (blob_len (length (header_object t))) (nat_lt limits.range (blob_len (length (header_object t)))) _
    (first_passed limits [] (clusters_place t)) refl none

-- parameters keep the largest limits
pub measures : (p : Params) → AreMeasures (measures_of p)
measures p = record {
  page = omega (arith, p.page_range.0);
  group = omega (arith, p.group_range.0);
  range = p.limits.range_bound;
  file = p.limits.file_bound;
}

-- the book is one of the schema
pub book_of : BooksAreOf
    → (fields : List MemberData) (p : Params) (texts : List (List ℕ)) (t : Table) (book : BookData) (ranges : List (List ℕ))
    → HoldsChunks fields p texts t book ranges → IsBookOf t book
book_of books fields p texts t book ranges holds =
    books fields p.plain t book holds.rows holds.kept holds.book_on.begin holds.book_on.firsts

pub as_long : RangesAreAsLong
as_long fields p texts t book ranges holds = holds.are.lens

pub ranged : RangesAreAsLong → (fields : List MemberData) (p : Params) (texts : List (List ℕ)) (t : Table) (book : BookData)
    (ranges : List (List ℕ)) → HoldsChunks fields p texts t book ranges → IsArrangedBook p.staged t p.group book ranges
ranged long fields p texts t book ranges holds = record {
  kept = holds.kept;
  lists = has_lists t p book holds.kept holds.noted holds.untorn;
  begin = holds.book_on.begin;
  lens = long fields p texts t book ranges holds;
}

pub stored_whole : BooksAreOf → AreRanged → FilesMean → FinishedAreStored
stored_whole books stand mean fields p texts t book ranges bytes holds stays is =
    let of = book_of books fields p texts t book ranges holds in
    let stands = stand p.staged t p.group book ranges (ranged as_long fields p texts t book ranges holds) of.firsts in
    let laid : IsLaid bytes t holds.are.dealt (measures_of p) = record {
      book = book;
      is_of = of;
      within = stays (header_within p.limits t holds.within);
      whole = record { all = holds.are.all; in_order = λ not. clusters-unstaged book (holds.noted.staged ∙ not) };
      ranges = ranges;
      lens = holds.are.lens;
      blobs_are = holds.are.blobs_are;
      behind = stands.behind;
      is = is;
    } in
    record {
      sound = holds.sound;
      uses = holds.are.uses;
      dealt = holds.are.dealt;
      is_deal = holds.are.is_deal;
      table = t;
      rows = holds.rows;
      laid = laid;
      short = holds.short;
      means = mean fields p.plain bytes t holds.are.dealt (measures_of p) holds.rules holds.rows (measures p) laid;
    }
