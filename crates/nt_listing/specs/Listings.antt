-- The pages of a cluster that are loaded at once, up to the first of a wrong size (RNTuple Binary Format Specification 1.0.0.0, section
-- Page List Envelope).
use Rattle.std.specs.Prelude.{ℕ, ◌≡◌, ◌+◌, nat_eq, List, [], ◌∷◌, ◌++◌, map, take, if◌then◌else◌, Option, Some, None, Result, Ok, Err}
use Rattle.std.specs.List.{range_with_len}
use Rattle.nt_num.specs.Codes.{compressed, out_of_file, bad_page}
use Rattle.nt_num.specs.Faults.{fault, with_values}
use Rattle.nt_num.specs.declared.fault.ReadError.{ReadError}
use Rattle.nt_xxh3.specs.Sum.{xxh3}
use Rattle.nt_lists.specs.Chaining.{◌>>=◌}
use Rattle.nt_format.specs.Demands.{demand, found_or}
use Rattle.nt_format.specs.Pieces.{piece}
use Rattle.nt_types.specs.declared.column_type.ColumnType.{ColumnType}
use Rattle.nt_encode.specs.Pages.{page_size}
use Rattle.nt_encode.specs.Elements.{Element}
use Rattle.nt_view.specs.declared.page_place.PagePlace.{PagePlace}
use Rattle.nt_view.specs.declared.page_place.ZeroColumn.{ZeroColumn}
use Rattle.nt_view.specs.Loaded.{Loaded, loaded_elements}
use Rattle.nt_view.specs.Loads.{loaded_len}
use Rattle.nt_view.specs.Stored.{sum_behind, has_its_sum}
use Rattle.nt_grammar.specs.Table.{Table}
use Rattle.nt_grammar.specs.declared.rows.ColumnRow.{ColumnRow}
use Rattle.nt_plans.specs.Needs.{need_of}
use Rattle.nt_pagelists.specs.Columns.{in_column}
use Rattle.nt_pagelists.specs.declared.column.KnownColumn.{KnownColumn}
use Rattle.nt_pagelists.specs.declared.page.PageItem.{PageItem}
use Rattle.nt_pagelists.specs.declared.cluster.ClusterList.{ClusterList}
use Rattle.nt_file_meaning.specs.Outlines.{known_column}
use Rattle.nt_file_meaning.specs.Clusters.{kind_of_code, pages_listed, begins_behind, columns_by_id}

-- pages and columns of zeros, and the fault of the page behind them, if that has a wrong size
pub record Listed : Type 0 where
  pub pages : List PagePlace
  pub zeros : List ZeroColumn
  pub wrong : Option ReadError

-- nothing
abbrev pub nothing_listed : Listed
nothing_listed = record { pages = []; zeros = []; wrong = None }

-- one page more in front
abbrev pub with_front : PagePlace → Listed → Listed
with_front p l = record { pages = p ∷ l.pages; zeros = l.zeros; wrong = l.wrong }

-- one column of zeros more in front
abbrev pub with_zeros : ZeroColumn → Listed → Listed
with_zeros z l = record { pages = l.pages; zeros = z ∷ l.zeros; wrong = l.wrong }

-- a page of a wrong size: nothing behind it is listed
abbrev pub stopped : ReadError → Listed
stopped e = record { pages = []; zeros = []; wrong = Some e }

-- a page of a column, and where it stands
abbrev pub place_of_page : ℕ → ColumnType → PageItem → PagePlace
place_of_page id kind p = record { column = id; kind = kind; count = p.count; place = p.place; size = p.size; checked = p.checked }

-- a page has another size than its elements
abbrev pub size_fault : ℕ → ℕ → ColumnType → PageItem → ReadError
size_fault number id kind p = in_column number id (with_values (page_size kind p.count) p.size (fault compressed p.place))

-- the pages of a column, and what is listed behind them
abbrev pub pages_onto : ℕ → ℕ → ColumnType → List PageItem → Listed → Listed
pages_onto number id kind [] rest = rest
pages_onto number id kind (p ∷ ps) rest =
    if nat_eq p.size (page_size kind p.count) then with_front (place_of_page id kind p) (pages_onto number id kind ps rest)
    else stopped (size_fault number id kind p)

-- the same, of a column whose type may be none
abbrev pub typed_onto : ℕ → ℕ → Option ColumnType → List PageItem → Listed → Listed
typed_onto number id None ps rest = rest
typed_onto number id (Some kind) ps rest = pages_onto number id kind ps rest

-- what is loaded for a column, and what is listed behind it
abbrev pub column_onto : ℕ → ClusterList → ℕ → KnownColumn → ℕ → Listed → Listed
column_onto number k id c code rest =
    if c.is_open then
    (if begins_behind k c then with_zeros (record { column = id; count = k.entries }) rest
    else typed_onto number id (kind_of_code code) (pages_listed k id) rest)
    else rest

-- what is loaded for columns whose ids go on from this one
abbrev pub columns_listed : ℕ → ClusterList → Table → ℕ → List ColumnRow → Listed
columns_listed number k t id [] = nothing_listed
columns_listed number k t id (c ∷ cs) =
    column_onto number k id (known_column (need_of t id) c) c.code (columns_listed number k t (id + 1) cs)

-- pages and zeros in front of what is listed, where nothing is wrong with them
abbrev pub listed_behind : List PagePlace → List ZeroColumn → Option ReadError → Listed → Listed
listed_behind ps zs None rest = record { pages = ps ++ rest.pages; zeros = zs ++ rest.zeros; wrong = rest.wrong }
listed_behind ps zs (Some e) rest = record { pages = ps; zeros = zs; wrong = Some e }

-- the stored bytes of a page of a cluster, or its fault
abbrev pub page_kept : List ℕ → ℕ → PagePlace → Result (List ℕ) ReadError
page_kept file number p =
    found_or (in_column number p.column (fault out_of_file p.place)) (piece file p.place (loaded_len p)) >>= λ stored.
    demand (has_its_sum p.checked p.size stored)
    (in_column number p.column (with_values (sum_behind p.size stored) (xxh3 (take p.size stored)) (fault bad_page p.place)))
    >>= λ u. Ok stored

-- those of pages, or the first fault
abbrev pub pages_kept : List ℕ → ℕ → List PagePlace → Result (List (List ℕ)) ReadError
pages_kept file number [] = Ok []
pages_kept file number (p ∷ ps) =
    page_kept file number p >>= λ first. pages_kept file number ps >>= λ others. Ok (first ∷ others)

-- nothing is wrong, or there is this fault
abbrev pub none_wrong : Option ReadError → Result (Unit {0}) ReadError
none_wrong None = Ok tt
none_wrong (Some e) = Err e

-- the stored bytes of what is listed: the first fault of a page, or then that of the page of a wrong size
abbrev pub listed_bytes : List ℕ → ℕ → Listed → Result (List (List ℕ)) ReadError
listed_bytes file number l = pages_kept file number l.pages >>= λ stored. none_wrong l.wrong >>= λ u. Ok stored

-- the elements of so many columns from this id on
abbrev pub columns_of_loaded : ℕ → ℕ → Loaded → List (List Element)
columns_of_loaded id n l = map (λ j. loaded_elements l j) (range_with_len id n)

-- of so many columns each has its elements by its id, and there is no other
abbrev pub AreColumnsOf : ℕ → Loaded → Type 0
AreColumnsOf n l = (k : ℕ) → columns_by_id (columns_of_loaded 0 n l) k ≡ loaded_elements l k
