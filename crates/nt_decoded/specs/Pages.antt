-- Columns that grow by the elements of pages.
use Rattle.std.specs.Prelude.{ℕ, ◌≡◌, List, take, Result, Ok}
use Rattle.nt_num.specs.declared.fault.ReadError.{ReadError}
use Rattle.nt_lists.specs.Chaining.{◌>>=◌}
use Rattle.nt_format.specs.Demands.{demand}
use Rattle.nt_encode.specs.Pages.{page_size}
use Rattle.nt_outside.specs.File.{FileState}
use Rattle.nt_decoded.specs.declared.window.Window.{Window}
use Rattle.nt_decoded.specs.Windows.{IsSeenBy, LiesIn}
use Rattle.nt_encode.specs.Elements.{page_elements}
use Rattle.nt_column.specs.Column.{Column, empty, with_more}
use Rattle.nt_types.specs.declared.column_type.ColumnType.{ColumnType}
use Rattle.nt_pagelists.specs.Columns.{in_column}
use Rattle.nt_pagelists.specs.declared.page.PageItem.{PageItem}
use Rattle.nt_file_meaning.specs.Clusters.{is_checked, sum_fault, page_of_column, pages_of_column}

-- the column with the elements of a page whose bytes are these
abbrev pub column_with_bytes : ℕ → ℕ → PageItem → Column → List ℕ → Result Column ReadError
column_with_bytes number id p c stored =
    demand (is_checked p stored) (in_column number id (sum_fault p stored)) >>= λ u. Ok
    (with_more c (page_elements c.kind p.count (take p.size stored)))

-- the column with the elements of a page of the file
abbrev pub column_with_page : ℕ → ℕ → PageItem → Column → List ℕ → Result Column ReadError
column_with_page number id p c file = page_of_column file number id c.kind p >>= λ es. Ok (with_more c es)

-- the column with the elements of these pages
abbrev pub column_with_pages : ℕ → ℕ → List PageItem → Column → List ℕ → Result Column ReadError
column_with_pages number id ps c file = pages_of_column file number id c.kind ps >>= λ es. Ok (with_more c es)

-- a file is seen through the window, and the column is empty
pub record CanRead (file : FileState) (w : Window) (c : Column) : Type 0 where
  pub seen : IsSeenBy file w
  pub none : c ≡ empty c.kind

-- the page lies in the window and has the size of its elements
pub record IsAtHand (p : PageItem) (w : Window) (kind : ColumnType) : Type 0 where
  pub lies : LiesIn p w
  pub size : p.size ≡ page_size kind p.count

-- the column has the same type, and keeps as many zeros as a count
pub record KeepsKind (c d : Column) : Type 0 where
  pub kind : d.kind ≡ c.kind
  pub zeros : d.zeros ≡ c.zeros
