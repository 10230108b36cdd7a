-- The steps in which pages are listed.
use Rattle.std.proofs.Common.{◌≡◌, ℕ, zero, suc, ◌+◌, ◌<◌, ◌≤◌, true, false, eqb, eq-eqb, ne_eqb, List, [], ◌∷◌, ◌++◌, length, drop, get_or}
use Rattle.std.proofs.Common.{slice_get, Option, Some, None, refl, sym, ap, ◌∙◌, arith, append_assoc}
use Rattle.std.proofs.lemmas.List.{append-nil, drop_more, drop_all}
use Rattle.std.proofs.lemmas.Option.{slice_get-get_or}
use Rattle.nt_num.specs.declared.fault.ReadError.{ReadError}
use Rattle.nt_types.specs.declared.column_type.ColumnType.{ColumnType}
use Rattle.nt_encode.specs.Pages.{page_size}
use Rattle.nt_view.specs.declared.page_place.PagePlace.{PagePlace}
use Rattle.nt_view.specs.declared.page_place.ZeroColumn.{ZeroColumn}
use Rattle.nt_grammar.specs.Table.{Table}
use Rattle.nt_grammar.specs.declared.rows.ColumnRow.{ColumnRow}
use Rattle.nt_plans.specs.Needs.{need_of}
use Rattle.nt_pagelists.specs.declared.column.KnownColumn.{KnownColumn}
use Rattle.nt_pagelists.specs.declared.page.PageItem.{PageItem}
use Rattle.nt_pagelists.specs.declared.cluster.ClusterList.{ClusterList}
use Rattle.nt_file_meaning.specs.Outlines.{known_column}
use Rattle.nt_file_meaning.specs.Clusters.{kind_of_code, pages_listed, begins_behind}
use Rattle.nt_listing.specs.Listings.{Listed, place_of_page, size_fault, pages_onto, typed_onto}
use Rattle.nt_listing.specs.Listings.{column_onto, columns_listed, listed_behind}

abbrev pub any_row : ColumnRow
any_row = record { code = 0; bits = 0; field = 0; flags = 0; representation = 0; first = 0 }

-- one page more
pub page-listed : (number id : ℕ) (kind : ColumnType) (ps : List PageItem) (i : ℕ) (p : PageItem) (before now : List PagePlace)
    (zs : List ZeroColumn) (rest : Listed) → i < length ps → p ≡ get_or ps i p → p.size ≡ page_size kind p.count
    → now ≡ before ++ place_of_page id kind p ∷ []
    → listed_behind before zs None (pages_onto number id kind (drop i ps) rest)
    ≡ listed_behind now zs None (pages_onto number id kind (drop (i + 1) ps) rest)
page-listed number id kind ps i p before now zs rest lt is size more =
    let here : drop i ps ≡ p ∷ drop (i + 1) ps = drop_more ps i p lt ∙ ap (λ (q : PageItem). q ∷ drop (i + 1) ps) (sym is) in
    let right : eqb p.size (page_size kind p.count) ≡ true = eq-eqb p.size (page_size kind p.count) size in
    let behind = pages_onto number id kind (drop (i + 1) ps) rest in
    let front : before ++ place_of_page id kind p ∷ behind.pages ≡ now ++ behind.pages =
    sym (append_assoc before (place_of_page id kind p ∷ []) behind.pages) ∙ ap (λ (l : List PagePlace). l ++ behind.pages) (sym more) in
    rw (here, right, front) refl

-- a page of a wrong size
pub page-stops : (number id : ℕ) (kind : ColumnType) (ps : List PageItem) (i : ℕ) (p : PageItem) (before : List PagePlace)
    (zs : List ZeroColumn) (rest : Listed) → i < length ps → p ≡ get_or ps i p → (p.size ≡ page_size kind p.count → ⊥)
    → listed_behind before zs None (pages_onto number id kind (drop i ps) rest)
    ≡ listed_behind before zs (Some (size_fault number id kind p)) rest
page-stops number id kind ps i p before zs rest lt is size =
    let here : drop i ps ≡ p ∷ drop (i + 1) ps = drop_more ps i p lt ∙ ap (λ (q : PageItem). q ∷ drop (i + 1) ps) (sym is) in
    let wrong : eqb p.size (page_size kind p.count) ≡ false = ne_eqb p.size (page_size kind p.count) size in
    rw (here, wrong, append-nil before, append-nil zs) refl

-- no page more
pub pages-done : (number id : ℕ) (kind : ColumnType) (ps : List PageItem) (i : ℕ) (before : List PagePlace)
    (zs : List ZeroColumn) (rest : Listed) → length ps ≤ i
    → listed_behind before zs None (pages_onto number id kind (drop i ps) rest) ≡ listed_behind before zs None rest
pages-done number id kind ps i before zs rest past = rw (drop_all i ps past) refl

-- a closed column
pub closed-onto : (number : ℕ) (k : ClusterList) (id : ℕ) (c : KnownColumn) (code : ℕ) (rest : Listed) → c.is_open ≡ false
    → column_onto number k id c code rest ≡ rest
closed-onto number k id c code rest closed = rw closed refl

-- a column of zeros
pub zeros-onto : (number : ℕ) (k : ClusterList) (id : ℕ) (c : KnownColumn) (code : ℕ) (before : List PagePlace) (zs now : List ZeroColumn)
    (rest : Listed) → c.is_open ≡ true → begins_behind k c ≡ true → now ≡ zs ++ record { column = id; count = k.entries } ∷ []
    → listed_behind before zs None (column_onto number k id c code rest) ≡ listed_behind before now None rest
zeros-onto number k id c code before zs now rest open_is behind more =
    let z : ZeroColumn = record { column = id; count = k.entries } in
    let front : zs ++ z ∷ rest.zeros ≡ now ++ rest.zeros =
    sym (append_assoc zs (z ∷ []) rest.zeros) ∙ ap (λ (l : List ZeroColumn). l ++ rest.zeros) (sym more) in
    rw (open_is, behind, front) refl

-- a column of pages
pub typed-onto : (number : ℕ) (k : ClusterList) (id : ℕ) (c : KnownColumn) (code : ℕ) (kind : Option ColumnType) (rest : Listed)
    → c.is_open ≡ true → begins_behind k c ≡ false → kind_of_code code ≡ kind
    → column_onto number k id c code rest ≡ typed_onto number id kind (pages_listed k id) rest
typed-onto number k id c code kind rest open_is behind is = rw (open_is, behind, is) refl

-- one column more
pub column-listed : (number : ℕ) (k : ClusterList) (t : Table) (rows : List ColumnRow) (id : ℕ) (row : ColumnRow) → slice_get rows id
    ≡ Some row
    → columns_listed number k t id (drop id rows)
    ≡ column_onto number k id (known_column (need_of t id) row) row.code (columns_listed number k t (id + 1) (drop (id + 1) rows))
column-listed number k t rows id row there = rw (drop-at rows id row there) refl
  where
    drop-at : (rows : List ColumnRow) (i : ℕ) (row : ColumnRow) → slice_get rows i ≡ Some row → drop i rows ≡ row ∷ drop (i + 1) rows
    drop-at [] i row is = absurd cc
    drop-at (r ∷ rs) zero row is = let same : r ≡ row = cc in ap (λ (x : ColumnRow). x ∷ rs) same
    drop-at (r ∷ rs) (suc i) row is =
        let next : suc i + 1 ≡ suc (i + 1) = omega arith in
        rw next (drop-at rs i row is)

-- nothing is listed behind a page of a wrong size
pub listed-stopped : (ps : List PagePlace) (zs : List ZeroColumn) (wrong : Option ReadError) (e : ReadError) (rest : Listed) → wrong
    ≡ Some e
    → listed_behind ps zs wrong rest ≡ record { pages = ps; zeros = zs; wrong = wrong }
listed-stopped ps zs wrong e rest is = rw is refl

pub row-there : (rows : List ColumnRow) (id : ℕ) → id < length rows → slice_get rows id ≡ Some (get_or rows id any_row)
row-there rows id lt = slice_get-get_or rows id any_row lt
