-- The pages of a column in a cluster, read from bytes (RNTuple Binary Format Specification 1.0.0.0, section Page Locations). A
-- reading answers what stands there and the place behind it, or the first fault in the order of the bytes; a fault stands where the
-- last byte is that shows it. What a frame has behind the contents that are known is skipped.
use Rattle.std.specs.Prelude.{ℕ, zero, suc, ◌-◌, ◌^◌, ◌==◌, List, [], ◌∷◌, ◌++◌, length, slice_index_or, nat_le, if◌then◌else◌, Result, Ok}
use Rattle.std.specs.Prelude.{Err}
use Rattle.std.specs.Int.{w32, w64, cast_signed}
use Rattle.nt_num.specs.Place.{At}
use Rattle.nt_num.specs.Cursor.{little}
use Rattle.nt_num.specs.Codes.{bad_page_list}
use Rattle.nt_num.specs.Faults.{fault}
use Rattle.nt_num.specs.declared.fault.ReadError.{ReadError}
use Rattle.nt_lists.specs.Chaining.{◌>>=◌}
use Rattle.nt_format.specs.Reading.{placed}
use Rattle.nt_format.specs.Frames.{list_at}
use Rattle.nt_pagelists.specs.declared.column.KnownColumn.{KnownColumn}
use Rattle.nt_pagelists.specs.declared.cluster.ClusterSummary.{ClusterSummary}
use Rattle.nt_pagelists.specs.declared.cluster.ColumnList.{ColumnList}
use Rattle.nt_pagelists.specs.declared.page.PageItem.{PageItem}
use Rattle.nt_pagelists.specs.Columns.{in_column, unknown_column, judged}

-- the word of a number of elements; that number has a sign, and the least one is refused (own profile)
unfoldable pub page_count_at : ℕ → ℕ → At → Result (ℕ × At) ReadError
page_count_at cluster column here = do
  word ← placed (little w32 here)
  if word.0 == 2 ^ 31 then Err (in_column cluster column (fault bad_page_list here.place)) else Ok word

-- the size of the page whose item begins at that place; with its top bit set the locator is of another type
unfoldable pub page_size_at : ℕ → ℕ → ℕ → At → Result (ℕ × At) ReadError
page_size_at cluster column item here = do
  word ← placed (little w32 here)
  if nat_le (2 ^ 31) word.0 then Err (in_column cluster column (fault bad_page_list item)) else Ok word

-- the page with this word of a number of elements: a negative number says that a checksum follows the page
abbrev pub page_item_of : ℕ → ℕ → ℕ → PageItem
page_item_of word size place =
    record { count = (if nat_le (2 ^ 31) word then 2 ^ 32 - word else word); place = place; size = size; checked = nat_le (2 ^ 31) word }

-- the page whose item begins here
unfoldable pub page_item_at : ℕ → ℕ → At → Result (PageItem × At) ReadError
page_item_at cluster column here = do
  word ← page_count_at cluster column here
  size ← page_size_at cluster column here.place word.1
  place ← placed (little w64 size.1)
  Ok (page_item_of word.0 size.0 place.0, place.1)

-- so many pages behind these
abbrev pub page_items_on : ℕ → ℕ → ℕ → List PageItem → At → Result (List PageItem × At) ReadError
page_items_on cluster column zero pages here = Ok (pages, here)
page_items_on cluster column (suc n) pages here =
    page_item_at cluster column here >>= λ page. page_items_on cluster column n (pages ++ page.0 ∷ []) page.1

-- the word of the index of a column's first element, and the compression setting behind it; an open column has no negative index (own
-- profile), and behind a negative one there is no setting
unfoldable pub element_offset_at : ClusterSummary → ℕ → KnownColumn → ℕ → At → Result (ℕ × At) ReadError
element_offset_at k id c frame here = do
  word ← placed (little w64 here)
  setting ← (if nat_le (2 ^ 63) word.0 then
      (if c.is_open then Err (in_column k.number id (fault bad_page_list frame)) else Ok (0, word.1))
      else placed (little w32 word.1))
  Ok (word.0, setting.1)

-- the pages of the column with this id in a cluster, whose frame begins here
unfoldable pub column_list_at : ClusterSummary → ℕ → KnownColumn → ℕ → At → Result (ColumnList × At) ReadError
column_list_at k id c before here = do
  list ← placed (list_at here)
  pages ← page_items_on k.number id list.0.0 [] list.0.1
  offset ← element_offset_at k id c here.place pages.1
  sound ← judged k id c before here.place pages.0 offset.0
  Ok (record { inner = here.place; offset = cast_signed w64 offset.0; pages = pages.0 }, list.1)

-- so many columns behind these; the number of earlier elements of each column is given
abbrev pub column_lists_on : ClusterSummary → List KnownColumn → List ℕ → ℕ → List ColumnList → At → Result (List ColumnList × At) ReadError
column_lists_on k columns elements zero lists here = Ok (lists, here)
column_lists_on k columns elements (suc n) lists here =
    column_list_at k (length lists) (slice_index_or columns (length lists) unknown_column) (slice_index_or elements (length lists) 0) here
    >>= λ list. column_lists_on k columns elements n (lists ++ list.0 ∷ []) list.1
