-- The elements of loaded columns are of the types of their rows.
use Rattle.std.proofs.Common.{◌≡◌, ℕ, zero, suc, ◌+◌, ◌<◌, Bool, true, false, cond, eqb, List, [], ◌∷◌, ◌++◌, length, get_or, replicate}
use Rattle.std.proofs.Common.{slice_get, Option}
use Rattle.std.proofs.Common.{None, Some, refl, sym, ap, subst, ◌∙◌, arith}
use Rattle.std.proofs.lemmas.Bool.{eqb-true}
use Rattle.nt_lists.proofs.Variants.{some_is}
use Rattle.nt_types.specs.declared.column_type.ColumnType.{ColumnType}
use Rattle.nt_encode.specs.Pages.{page_size}
use Rattle.nt_encode.specs.Elements.{plain, AreElementsOf}
use Rattle.nt_encode.proofs.Elements.{zeros-are_elements}
use Rattle.nt_view.specs.declared.page_place.PagePlace.{PagePlace}
use Rattle.nt_view.specs.Loaded.{Loaded, loaded_elements, loaded_kind, loaded_pages, elements_with, kind_with, pages_with, zeros_listed}
use Rattle.nt_grammar.specs.Table.{Table}
use Rattle.nt_grammar.specs.declared.rows.ColumnRow.{ColumnRow}
use Rattle.nt_plans.specs.Needs.{need_of}
use Rattle.nt_pagelists.specs.declared.page.PageItem.{PageItem}
use Rattle.nt_pagelists.specs.declared.cluster.ClusterList.{ClusterList}
use Rattle.nt_fitting.specs.Fitting.{AreOfRows}
use Rattle.nt_file_meaning.specs.Outlines.{known_column}
use Rattle.nt_file_meaning.specs.Clusters.{kind_of_code, pages_listed, begins_behind}
use Rattle.nt_listing.specs.Loading.{AreOfRowTypes}
use Rattle.nt_listing.specs.Listings.{Listed, with_front, with_zeros, stopped, place_of_page, size_fault, pages_onto, typed_onto}
use Rattle.nt_listing.specs.Listings.{columns_listed}
use Rattle.nt_listing.proofs.ColumnKinds.{kind-found}

-- each page is of the type that its column's code says
abbrev HaveCodes : (ℕ → ℕ) → List PagePlace → Type 0
HaveCodes code ps = (m : ℕ) (d : PagePlace) → m < length ps → kind_of_code (code (get_or ps m d).column) ≡ Some (get_or ps m d).kind

pages-coded : (code : ℕ → ℕ) (number id : ℕ) (kind : ColumnType) (ps : List PageItem) (l : Listed) → kind_of_code (code id) ≡ Some kind
    → HaveCodes code l.pages → HaveCodes code (pages_onto number id kind ps l).pages
pages-coded code number id kind [] l here is = is
pages-coded code number id kind (p ∷ ps) l here is =
    by_size (pages-coded code number id kind ps l here is) (eqb p.size (page_size kind p.count))
  where
    by_size : HaveCodes code (pages_onto number id kind ps l).pages → (b : Bool)
        → HaveCodes code (cond b (with_front (place_of_page id kind p) (pages_onto number id kind ps l))
        (stopped (size_fault number id kind p))).pages
    by_size after true zero d lt = here
    by_size after true (suc m) d lt = after m d (omega (arith, lt))
    by_size after false m d lt = absurd (omega (arith, lt))

column-coded : (code : ℕ → ℕ) (number : ℕ) (k : ClusterList) (id : ℕ) (l : Listed) (is_open is_behind : Bool) (kind : Option ColumnType)
    → kind_of_code (code id) ≡ kind → HaveCodes code l.pages
    → HaveCodes code (cond is_open (cond is_behind (with_zeros (record { column = id; count = k.entries }) l)
    (typed_onto number id kind (pages_listed k id) l)) l).pages
column-coded code number k id l false is_behind kind here is = is
column-coded code number k id l true true kind here is = is
column-coded code number k id l true false None here is = is
column-coded code number k id l true false (Some kind) here is = pages-coded code number id kind (pages_listed k id) l here is

columns-coded : (code : ℕ → ℕ) (number : ℕ) (k : ClusterList) (t : Table) (id : ℕ) (cs : List ColumnRow)
    → ((j : ℕ) (row : ColumnRow) → slice_get cs j ≡ Some row → code (id + j) ≡ row.code)
    → HaveCodes code (columns_listed number k t id cs).pages
columns-coded code number k t id [] said = λ m d lt. absurd (omega (arith, lt))
columns-coded code number k t id (c ∷ cs) said =
    let known = known_column (need_of t id) c in
    let at : id + 0 ≡ id = omega arith in
    let own : code id ≡ c.code = rw at at (said 0 c refl) in
    column-coded code number k id (columns_listed number k t (id + 1) cs) known.is_open (begins_behind k known) (kind_of_code c.code)
    (ap kind_of_code own)
    (columns-coded code number k t (id + 1) cs (λ j row is.
    let next : id + suc j ≡ id + 1 + j = omega arith in
    rw next at (said (suc j) row is)))

-- the code of a row, by its id
abbrev code_of_row : Option ColumnRow → ℕ
code_of_row None = 0
code_of_row (Some row) = row.code

kind-coded : (code : ℕ → ℕ) (k : ℕ) (t : ColumnType) (ps : List PagePlace) (bs : List (List ℕ)) → HaveCodes code ps
    → kind_with (pages_with k ps bs) ≡ Some t → kind_of_code (code k) ≡ Some t
kind-coded code k t [] bs have is = absurd cc
kind-coded code k t (p ∷ ps) [] have is = absurd cc
kind-coded code k t (p ∷ ps) (b ∷ bs) have is =
    by_column (λ h. kind-coded code k t ps bs (λ m d lt. have (suc m) d (omega (arith, lt))) h) (eqb p.column k) refl is
  where
    by_column : (kind_with (pages_with k ps bs) ≡ Some t → kind_of_code (code k) ≡ Some t) → (c : Bool) → eqb p.column k ≡ c
        → kind_with ((cond c ((p, b) ∷ []) []) ++ pages_with k ps bs) ≡ Some t → kind_of_code (code k) ≡ Some t
    by_column rest true same h =
        ap (λ (j : ℕ). kind_of_code (code j)) (sym (eqb-true p.column k same)) ∙ have 0 p (omega arith) ∙ h
    by_column rest false other h = rest h

-- a loaded column with pages is of the type of its row
pub listed-types : (number : ℕ) (k : ClusterList) (t : Table) (l : Listed) (c : Loaded) → l ≡ columns_listed number k t 0 t.columns
    → c.pages ≡ l.pages → AreOfRowTypes t.columns c
listed-types number k t l c is pages j row kind at of =
    let code : ℕ → ℕ = λ i. code_of_row (slice_get t.columns i) in
    let said : (i : ℕ) (r : ColumnRow) → slice_get t.columns i ≡ Some r → code (0 + i) ≡ r.code = λ i r there.
    let same : 0 + i ≡ i = omega arith in
    rw same (ap code_of_row there) in
    let have : HaveCodes code c.pages =
    subst (HaveCodes code) (sym (pages ∙ ap (λ (x : Listed). x.pages) is)) (columns-coded code number k t 0 t.columns said) in
    sym (ap (λ (r : Option ColumnRow). kind_of_code (code_of_row r)) at) ∙ kind-coded code j kind c.pages c.stored have of

-- its elements are of this type
pub loaded-typed : (rows : List ColumnRow) (c : Loaded) → AreOfRowTypes rows c
    → ((k : ℕ) (t : ColumnType) → loaded_kind c k ≡ Some t → AreElementsOf t (loaded_elements c k))
    → AreOfRows rows (λ k. loaded_elements c k)
loaded-typed rows c types each k row kind at code = by_pages (loaded_pages c k) refl
  where
    by_pages : (ms : List (PagePlace × List ℕ)) → loaded_pages c k ≡ ms → AreElementsOf kind (loaded_elements c k)
    by_pages [] is =
        subst (λ (ms : List (PagePlace × List ℕ)). AreElementsOf kind (elements_with ms ++ replicate (zeros_listed 0 k c.zeros) (plain 0)))
        (sym is) (zeros-are_elements kind (zeros_listed 0 k c.zeros))
    by_pages (m ∷ ms) is =
        let own : loaded_kind c k ≡ Some m.0.kind = ap kind_with is in
        let same : m.0.kind ≡ kind =
        some_is m.0.kind kind (sym (types k row m.0.kind at own) ∙ ap kind_of_code code ∙ kind-found kind) in
        subst (λ (t : ColumnType). AreElementsOf t (loaded_elements c k)) same (each k m.0.kind own)
