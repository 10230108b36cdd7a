-- The columns that a schema got with a field.
use Rattle.std.specs.Prelude.{ℕ, ◌+◌, ◌<◌, ◌≤◌, ◌≡◌, ◌^◌, false, List, map, drop, length, Some, slice_get}
use Rattle.nt_grammar.specs.declared.rows.ColumnRow.{ColumnRow}
use Rattle.nt_grammar.specs.Table.{Table}
use Rattle.nt_book.specs.Books.{BookData, book_clusters, entry_count}
use Rattle.nt_book.specs.Widening.{AreLateFirsts}
use Rattle.nt_fill.specs.Context.{HasKnownType}

-- the index of the first element of each of these columns
abbrev pub first_elements : List ColumnRow → List ℕ
first_elements rows = map (λ (c : ColumnRow). c.first) rows

-- a book that isn't staged can get the columns of a schema from this one on
pub record MayWiden (t : Table) (from : ℕ) (book : BookData) : Type 0 where
  pub not_staged : book.staged ≡ false
  pub known : (k : ℕ) (r : ColumnRow) → slice_get t.columns k ≡ Some r → HasKnownType r
  pub inside : from ≤ length t.columns
  pub late : AreLateFirsts (entry_count (book_clusters book)) (first_elements (drop from t.columns))
  pub few : length book.firsts + length (first_elements (drop from t.columns)) < 2 ^ 32
