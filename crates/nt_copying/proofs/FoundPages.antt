-- The pages of a loaded cluster are those that are stored in its file.
use Rattle.std.proofs.Common.{◌≡◌, ◌∙◌, ap, sym, refl, subst, ℕ, zero, suc, ◌+◌, ◌<◌, ◌≤◌, Bool, true, false, cond, eqb, ne_eqb, eq-eqb}
use Rattle.std.proofs.Common.{List, [], ◌∷◌, ◌++◌, length, map, get_or, Option, Some, None, Ok, arith}
use Rattle.std.specs.Prelude.{◌&&◌, not, if◌then◌else◌}
use Rattle.std.specs.List.{range_with_len}
use Rattle.nt_lists.specs.Chaining.{◌>>=◌}
use Rattle.nt_lists.proofs.Chaining.{bind_ok}
use Rattle.nt_lists.proofs.Variants.{ok_is}
use Rattle.nt_types.specs.declared.column_type.ColumnType.{ColumnType}
use Rattle.nt_encode.specs.Pages.{page_size}
use Rattle.nt_grammar.specs.Table.{Table}
use Rattle.nt_grammar.specs.declared.rows.ColumnRow.{ColumnRow}
use Rattle.nt_plans.specs.Needs.{need_of}
use Rattle.nt_pagelists.specs.declared.column.KnownColumn.{KnownColumn}
use Rattle.nt_pagelists.specs.declared.page.PageItem.{PageItem}
use Rattle.nt_pagelists.specs.declared.cluster.ClusterList.{ClusterList}
use Rattle.nt_file_meaning.specs.Outlines.{known_column}
use Rattle.nt_file_meaning.specs.Clusters.{kind_of_code, pages_listed, begins_behind}
use Rattle.nt_view.specs.declared.page_place.PagePlace.{PagePlace}
use Rattle.nt_view.specs.Loaded.{Loaded, pages_with}
use Rattle.nt_view.specs.Loads.{pages_found}
use Rattle.nt_view.proofs.Columns.{pages-none}
use Rattle.nt_listing.specs.Listings.{Listed, with_front, with_zeros, stopped, size_fault, place_of_page, pages_onto, typed_onto}
use Rattle.nt_listing.specs.Listings.{columns_listed}
use Rattle.nt_listing.specs.Loading.{IsLoadedFrom}
use Rattle.nt_listing.proofs.ColumnsBehind.{columns-after}
use Rattle.nt_copied.specs.Stored.{StoredPage}
use Rattle.nt_copied.specs.Copies.{filled_pages, read_pages, page_there, columns_there, stored_columns}
use Rattle.nt_copying.specs.Copied.{copied_page, copied_pages, copied_columns, all_loaded, HaveTheirSums}
use Rattle.nt_copying.proofs.PagesFound.{IsFound, AreFound, pages-found, sums-found, copied-there}

-- the columns of pages from this id on
abbrev columns_of_pages : List PagePlace → List (List ℕ) → ℕ → ℕ → List (List StoredPage)
columns_of_pages ps bs id n = map (λ k. copied_pages (pages_with k ps bs)) (range_with_len id n)

same-columns : (f g : ℕ → List StoredPage) (id n : ℕ) → ((k : ℕ) → id ≤ k → f k ≡ g k)
    → map f (range_with_len id n) ≡ map g (range_with_len id n)
same-columns f g id zero same = refl
same-columns f g id (suc n) same =
    rw (same id (omega arith), same-columns f g (id + 1) n (λ k le. same k (omega (arith, le)))) refl

-- no page of columns before those that are listed
none-listed : (k id : ℕ) (ps : List PagePlace) (bs : List (List ℕ)) → k < id
    → ((m : ℕ) (d : PagePlace) → m < length ps → id ≤ (get_or ps m d).column) → pages_with k ps bs ≡ []
none-listed k id ps bs less from = pages-none k ps bs (λ m d lt is. absurd (omega (arith, from m d lt, is, less)))

-- the first column has no page
columns-none : (ps : List PagePlace) (bs : List (List ℕ)) (id n : ℕ) (rest : List (List StoredPage))
    → ((m : ℕ) (d : PagePlace) → m < length ps → id + 1 ≤ (get_or ps m d).column) → columns_of_pages ps bs (id + 1) n ≡ rest
    → columns_of_pages ps bs id (suc n) ≡ [] ∷ rest
columns-none ps bs id n rest from behind =
    ap (λ (es : List (PagePlace × List ℕ)). copied_pages es ∷ columns_of_pages ps bs (id + 1) n)
    (none-listed id (id + 1) ps bs (omega arith) from)
    ∙ ap (λ (l : List (List StoredPage)). [] ∷ l) behind

-- pages of the first column in front of those behind it
abbrev pages_first : ℕ → ColumnType → List PageItem → List PagePlace → List PagePlace
pages_first id kind [] qs = qs
pages_first id kind (p ∷ ps) qs = place_of_page id kind p ∷ pages_first id kind ps qs

-- the pages that are listed of a column, where none has a wrong size
onto-first : (number id : ℕ) (kind : ColumnType) (ps : List PageItem) (rest : Listed) → (pages_onto number id kind ps rest).wrong ≡ None
    → ((pages_onto number id kind ps rest).pages ≡ pages_first id kind ps rest.pages) × (rest.wrong ≡ None)
onto-first number id kind [] rest right = (refl, right)
onto-first number id kind (p ∷ ps) rest right =
    by_size (λ none. onto-first number id kind ps rest none) (eqb p.size (page_size kind p.count)) right
  where
    by_size : ((pages_onto number id kind ps rest).wrong ≡ None
        → ((pages_onto number id kind ps rest).pages ≡ pages_first id kind ps rest.pages) × (rest.wrong ≡ None)) → (b : Bool)
        → (cond b (with_front (place_of_page id kind p) (pages_onto number id kind ps rest)) (stopped (size_fault number id kind p))).wrong
        ≡ None
        → ((cond b (with_front (place_of_page id kind p) (pages_onto number id kind ps rest)) (stopped (size_fault number id kind p))).pages
        ≡ pages_first id kind (p ∷ ps) rest.pages) × (rest.wrong ≡ None)
    by_size behind true right =
        let more = behind right in
        (ap (λ (l : List PagePlace). place_of_page id kind p ∷ l) more.0, more.1)
    by_size behind false right = absurd (cc right)

-- the bytes behind those of so many pages
abbrev bytes_behind : List PageItem → List (List ℕ) → List (List ℕ)
bytes_behind [] bs = bs
bytes_behind (p ∷ ps) [] = []
bytes_behind (p ∷ ps) (b ∷ bs) = bytes_behind ps bs

found-behind : (file : List ℕ) (id : ℕ) (kind : ColumnType) (ps : List PageItem) (qs : List PagePlace) (bs : List (List ℕ))
    → AreFound file (pages_first id kind ps qs) bs → AreFound file qs (bytes_behind ps bs)
found-behind file id kind [] qs bs found = found
found-behind file id kind (p ∷ ps) qs [] found = absurd found
found-behind file id kind (p ∷ ps) qs (b ∷ bs) found = found-behind file id kind ps qs bs found.1

first-pages : (file : List ℕ) (id : ℕ) (kind : ColumnType) (ps : List PageItem) (qs : List PagePlace) (bs : List (List ℕ))
    → ((m : ℕ) (d : PagePlace) → m < length qs → id + 1 ≤ (get_or qs m d).column) → AreFound file (pages_first id kind ps qs) bs
    → copied_pages (pages_with id (pages_first id kind ps qs) bs) ≡ map (page_there file) (filled_pages ps)
first-pages file id kind [] qs bs from found = ap copied_pages (none-listed id (id + 1) qs bs (omega arith) from)
first-pages file id kind (p ∷ ps) qs [] from found = absurd found
first-pages file id kind (p ∷ ps) qs (b ∷ bs) from found =
    let own : eqb id id ≡ true = eq-eqb id id refl in
    ap (λ (t : Bool). copied_pages (cond t ((place_of_page id kind p, b) ∷ []) [] ++ pages_with id (pages_first id kind ps qs) bs)) own
    ∙ by_count (first-pages file id kind ps qs bs from found.1) (copied-there file id kind p b found.0) (eqb p.count 0)
  where
    by_count : copied_pages (pages_with id (pages_first id kind ps qs) bs) ≡ map (page_there file) (filled_pages ps)
        → copied_page (place_of_page id kind p, b) ≡ page_there file p → (t : Bool)
        → cond t (copied_pages (pages_with id (pages_first id kind ps qs) bs))
        (copied_page (place_of_page id kind p, b) ∷ copied_pages (pages_with id (pages_first id kind ps qs) bs))
        ≡ map (page_there file) (cond t (filled_pages ps) (p ∷ filled_pages ps))
    by_count rest one true = rest
    by_count rest one false =
        ap (λ (x : StoredPage). x ∷ copied_pages (pages_with id (pages_first id kind ps qs) bs)) one
        ∙ ap (λ (l : List StoredPage). page_there file p ∷ l) rest

other-pages : (k id : ℕ) (kind : ColumnType) (ps : List PageItem) (qs : List PagePlace) (bs : List (List ℕ)) → id + 1 ≤ k
    → pages_with k (pages_first id kind ps qs) bs ≡ pages_with k qs (bytes_behind ps bs)
other-pages k id kind [] qs bs le = refl
other-pages k id kind (p ∷ ps) [] [] le = refl
other-pages k id kind (p ∷ ps) (q ∷ qs) [] le = refl
other-pages k id kind (p ∷ ps) qs (b ∷ bs) le =
    let not : eqb id k ≡ false = ne_eqb id k (λ is. absurd (omega (arith, is, le))) in
    ap (λ (t : Bool). cond t ((place_of_page id kind p, b) ∷ []) [] ++ pages_with k (pages_first id kind ps qs) bs) not
    ∙ other-pages k id kind ps qs bs le

-- ---- all columns

-- the pages that are read of those that are listed
abbrev read_by : Option ColumnType → Bool → List PageItem → List PageItem
read_by None read ps = []
read_by (Some kind) read ps = if read then filled_pages ps else []

read-same : (k : ClusterList) (id : ℕ) (c : KnownColumn) (kind : Option ColumnType)
    → read_pages k id c kind ≡ read_by kind (c.is_open && not (begins_behind k c)) (pages_listed k id)
read-same k id c None = refl
read-same k id c (Some kind) = refl

module _ (file : List ℕ) (number : ℕ) (k : ClusterList) (t : Table) where
  none-read : (kind : Option ColumnType) (ps : List PageItem) → map (page_there file) (read_by kind false ps) ≡ []
  none-read None ps = refl
  none-read (Some kind) ps = refl

  column-step : (id n : ℕ) (kind : Option ColumnType) (is_open is_behind : Bool) (rest : Listed) (bs : List (List ℕ))
      (others : List (List StoredPage))
      → ((m : ℕ) (d : PagePlace) → m < length rest.pages → id + 1 ≤ (get_or rest.pages m d).column)
      → ((cs : List (List ℕ)) → rest.wrong ≡ None → AreFound file rest.pages cs → columns_of_pages rest.pages cs (id + 1) n ≡ others)
      → (cond is_open (cond is_behind (with_zeros (record { column = id; count = k.entries }) rest)
      (typed_onto number id kind (pages_listed k id) rest)) rest).wrong ≡ None
      → AreFound file (cond is_open (cond is_behind (with_zeros (record { column = id; count = k.entries }) rest)
      (typed_onto number id kind (pages_listed k id) rest)) rest).pages bs
      → columns_of_pages (cond is_open (cond is_behind (with_zeros (record { column = id; count = k.entries }) rest)
      (typed_onto number id kind (pages_listed k id) rest)) rest).pages bs id (suc n)
      ≡ map (page_there file) (read_by kind (is_open && not is_behind) (pages_listed k id)) ∷ others
  column-step id n kind false is_behind rest bs others from behind right found =
      columns-none rest.pages bs id n others from (behind bs right found)
      ∙ ap (λ (l : List StoredPage). l ∷ others) (sym (none-read kind (pages_listed k id)))
  column-step id n kind true true rest bs others from behind right found =
      columns-none rest.pages bs id n others from (behind bs right found)
      ∙ ap (λ (l : List StoredPage). l ∷ others) (sym (none-read kind (pages_listed k id)))
  column-step id n None true false rest bs others from behind right found =
      columns-none rest.pages bs id n others from (behind bs right found)
  column-step id n (Some kind) true false rest bs others from behind right found =
      let onto = onto-first number id kind (pages_listed k id) rest right in
      let first = pages_first id kind (pages_listed k id) rest.pages in
      let there : AreFound file first bs = subst (λ (ps : List PagePlace). AreFound file ps bs) onto.0 found in
      ap (λ (ps : List PagePlace). columns_of_pages ps bs id (suc n)) onto.0
      ∙ ap (λ (l : List StoredPage). l ∷ columns_of_pages first bs (id + 1) n)
      (first-pages file id kind (pages_listed k id) rest.pages bs from there)
      ∙ ap (λ (l : List (List StoredPage)). map (page_there file) (filled_pages (pages_listed k id)) ∷ l)
      (same-columns (λ (j : ℕ). copied_pages (pages_with j first bs))
      (λ (j : ℕ). copied_pages (pages_with j rest.pages (bytes_behind (pages_listed k id) bs))) (id + 1) n
      (λ j le. ap copied_pages (other-pages j id kind (pages_listed k id) rest.pages bs le))
      ∙ behind (bytes_behind (pages_listed k id) bs) onto.1 (found-behind file id kind (pages_listed k id) rest.pages bs there))

  columns-are : (id : ℕ) (cs : List ColumnRow) (bs : List (List ℕ)) → (columns_listed number k t id cs).wrong ≡ None
      → AreFound file (columns_listed number k t id cs).pages bs
      → columns_of_pages (columns_listed number k t id cs).pages bs id (length cs) ≡ columns_there file k t id cs
  columns-are id [] bs right found = refl
  columns-are id (c ∷ cs) bs right found =
      let known = known_column (need_of t id) c in
      let rest = columns_listed number k t (id + 1) cs in
      column-step id (length cs) (kind_of_code c.code) known.is_open (begins_behind k known) rest bs (columns_there file k t (id + 1) cs)
      (λ m d less. ((columns-after number k t (id + 1) cs).pages m d less).0)
      (λ others none all. columns-are (id + 1) cs others none all) right found
      ∙ ap (λ (ps : List PageItem). map (page_there file) ps ∷ columns_there file k t (id + 1) cs)
      (sym (read-same k id known (kind_of_code c.code)))

  module _ (l : Loaded) (is : IsLoadedFrom (Some file) number k t l) where
    found : AreFound file l.pages l.stored
    found =
        let stored = bind_ok (pages_found file 0 l.pages) _ l (is.bytes file refl) in
        let same : stored.0 ≡ l.stored = ap (λ (x : Loaded). x.stored) (ok_is _ l stored.2) in
        subst (AreFound file l.pages) same (pages-found file 0 l.pages stored.0 stored.1)

    -- each page has its checksum
    pub loaded-sums : HaveTheirSums (all_loaded l)
    loaded-sums = sums-found file l.pages l.stored found

    -- the columns are copied as they are stored
    pub loaded-columns : copied_columns l 0 (length t.columns) ≡ stored_columns (record { file = file; table = t; list = k })
    loaded-columns =
        ap (λ (ps : List PagePlace). columns_of_pages ps l.stored 0 (length t.columns)) is.pages
        ∙ columns-are 0 t.columns l.stored is.whole (subst (λ (ps : List PagePlace). AreFound file ps l.stored) is.pages found)
