-- The columns of a cluster are those of its pages, which are listed first and loaded then.
use Rattle.std.proofs.Common.{◌≡◌, ℕ, suc, ◌+◌, ◌<◌, ◌≤◌, Bool, true, false, cond, eqb, eq-eqb, ne_eqb, List, [], ◌∷◌, ◌++◌, length, map}
use Rattle.std.proofs.Common.{take, get_or}
use Rattle.std.proofs.Common.{zero, replicate, Option, Some, None, Result, Ok, Err, refl, sym, ap, ◌∙◌, arith, append_assoc}
use Rattle.std.specs.List.{range_with_len}
use Rattle.nt_num.specs.Codes.{out_of_file}
use Rattle.nt_num.specs.Faults.{fault}
use Rattle.nt_num.specs.declared.fault.ReadError.{ReadError}
use Rattle.nt_lists.specs.Chaining.{◌>>=◌}
use Rattle.nt_format.specs.Demands.{demand, found_or}
use Rattle.nt_format.specs.Pieces.{piece}
use Rattle.nt_types.specs.declared.column_type.ColumnType.{ColumnType}
use Rattle.nt_encode.specs.Pages.{page_size}
use Rattle.nt_encode.specs.Elements.{Element, plain, page_elements}
use Rattle.nt_view.specs.declared.page_place.PagePlace.{PagePlace}
use Rattle.nt_view.specs.declared.page_place.ZeroColumn.{ZeroColumn}
use Rattle.nt_view.specs.Loaded.{Loaded, loaded_elements, loaded_with, elements_with, pages_with, zeros_listed}
use Rattle.nt_pagelists.specs.Columns.{in_column}
use Rattle.nt_pagelists.specs.declared.column.KnownColumn.{KnownColumn}
use Rattle.nt_pagelists.specs.declared.page.PageItem.{PageItem}
use Rattle.nt_pagelists.specs.declared.cluster.ClusterList.{ClusterList}
use Rattle.nt_file_meaning.specs.Clusters.{pages_listed, zero_elements, stored_len, is_checked, sum_fault}
use Rattle.nt_file_meaning.specs.Clusters.{page_of_column, pages_of_column, pages_of_kind}
use Rattle.nt_listing.specs.Listings.{Listed, with_front, with_zeros, stopped, place_of_page, size_fault, pages_onto, typed_onto}
use Rattle.nt_listing.specs.Listings.{page_kept, pages_kept, none_wrong, listed_bytes, columns_of_loaded}

-- nothing is listed of columns before this one
pub record IsFrom (id : ℕ) (l : Listed) : Type 0 where
  pub pages : (m : ℕ) (d : PagePlace) → m < length l.pages → id ≤ (get_or l.pages m d).column
  pub zeros : (m : ℕ) (d : ZeroColumn) → m < length l.zeros → id ≤ (get_or l.zeros m d).column

-- what is loaded of what is listed
abbrev pub loaded_as : Listed → List (List ℕ) → Loaded
loaded_as l bs = loaded_with l.pages bs l.zeros

no-pages : (k id : ℕ) (ps : List PagePlace) (bs : List (List ℕ)) → k < id
    → ((m : ℕ) (d : PagePlace) → m < length ps → id ≤ (get_or ps m d).column) → pages_with k ps bs ≡ []
no-pages k id [] bs lt from = refl
no-pages k id (p ∷ ps) [] lt from = refl
no-pages k id (p ∷ ps) (b ∷ bs) lt from =
    let here = from 0 p (omega arith) in
    let not : eqb p.column k ≡ false = ne_eqb p.column k (λ is. absurd (omega (arith, here, is, lt))) in
    rw not (no-pages k id ps bs lt (λ m d h. from (suc m) d (omega (arith, h))))

no-zeros : (k id : ℕ) (zs : List ZeroColumn) → k < id
    → ((m : ℕ) (d : ZeroColumn) → m < length zs → id ≤ (get_or zs m d).column) → (n : ℕ) → zeros_listed n k zs ≡ n
no-zeros k id [] lt from n = refl
no-zeros k id (z ∷ zs) lt from n =
    let here = from 0 z (omega arith) in
    let not : eqb z.column k ≡ false = ne_eqb z.column k (λ is. absurd (omega (arith, here, is, lt))) in
    rw not (no-zeros k id zs lt (λ m d h. from (suc m) d (omega (arith, h))) n)

-- a column before those that are listed has no elements
pub none-before : (k id : ℕ) (l : Listed) (bs : List (List ℕ)) → k < id → IsFrom id l → loaded_elements (loaded_as l bs) k ≡ []
none-before k id l bs lt from =
    rw (no-pages k id l.pages bs lt from.pages, no-zeros k id l.zeros lt from.zeros 0) refl

-- columns that are the same from a place on
same-from : (f g : ℕ → List Element) (id n : ℕ) → ((k : ℕ) → id ≤ k → f k ≡ g k) → map f (range_with_len id n) ≡ map g (range_with_len id n)
same-from f g id zero same = refl
same-from f g id (suc n) same =
    rw (same id (omega arith), same-from f g (id + 1) n (λ k le. same k (omega (arith, le)))) refl

-- one page more
front-here : (id : ℕ) (kind : ColumnType) (p : PageItem) (l : Listed) (b : List ℕ) (bs : List (List ℕ))
    → loaded_elements (loaded_as (with_front (place_of_page id kind p) l) (b ∷ bs)) id
    ≡ page_elements kind p.count (take p.size b) ++ loaded_elements (loaded_as l bs) id
front-here id kind p l b bs =
    let is : eqb id id ≡ true = eq-eqb id id refl in
    let es = page_elements kind p.count (take p.size b) in
    rw is (append_assoc es (elements_with (pages_with id l.pages bs)) (replicate (zeros_listed 0 id l.zeros) (plain 0)))

front-else : (id k : ℕ) (kind : ColumnType) (p : PageItem) (l : Listed) (b : List ℕ) (bs : List (List ℕ)) → id + 1 ≤ k
    → loaded_elements (loaded_as (with_front (place_of_page id kind p) l) (b ∷ bs)) k ≡ loaded_elements (loaded_as l bs) k
front-else id k kind p l b bs le =
    let not : eqb id k ≡ false = ne_eqb id k (λ is. absurd (omega (arith, is, le))) in
    rw not refl

-- elements more of the first column
abbrev head_with : List Element → List (List Element) → List (List Element)
head_with es [] = []
head_with es (x ∷ xs) = (es ++ x) ∷ xs

front-columns : (id n : ℕ) (kind : ColumnType) (p : PageItem) (l : Listed) (b : List ℕ) (bs : List (List ℕ))
    → columns_of_loaded id (suc n) (loaded_as (with_front (place_of_page id kind p) l) (b ∷ bs))
    ≡ head_with (page_elements kind p.count (take p.size b)) (columns_of_loaded id (suc n) (loaded_as l bs))
front-columns id n kind p l b bs =
    rw (
      front-here id kind p l b bs,
      same-from (λ k. loaded_elements (loaded_as (with_front (place_of_page id kind p) l) (b ∷ bs)) k)
          (λ k. loaded_elements (loaded_as l bs) k) (id + 1) n (λ k le. front-else id k kind p l b bs le),
    ) refl

-- a page in steps
page-steps : (e : ReadError) (f : List ℕ → ReadError) (found : Option (List ℕ)) (t : List ℕ → Bool) (g : List ℕ → List Element)
    → (found_or e found >>= λ stored. demand (t stored) (f stored) >>= λ u. Ok (g stored))
    ≡ ((found_or e found >>= λ stored. demand (t stored) (f stored) >>= λ u. Ok stored) >>= λ stored. Ok (g stored))
page-steps e f None t g = refl
page-steps e f (Some stored) t g = tested (demand (t stored) (f stored))
  where
    tested : (r : Result (Unit {0}) ReadError) → (r >>= λ u. Ok (g stored)) ≡ ((r >>= λ u. Ok stored) >>= λ s. Ok (g s))
    tested (Ok u) = refl
    tested (Err d) = refl

page-right : (file : List ℕ) (number id : ℕ) (kind : ColumnType) (p : PageItem) → eqb p.size (page_size kind p.count) ≡ true
    → page_of_column file number id kind p
    ≡ (page_kept file number (place_of_page id kind p) >>= λ b. Ok (page_elements kind p.count (take p.size b)))
unfolding page_of_column
page-right file number id kind p right =
    rw right (page-steps (in_column number id (fault out_of_file p.place)) (λ stored. in_column number id (sum_fault p stored))
    (piece file p.place (stored_len p)) (λ stored. is_checked p stored) (λ stored. page_elements kind p.count (take p.size stored)))

page-wrong : (file : List ℕ) (number id : ℕ) (kind : ColumnType) (p : PageItem) → eqb p.size (page_size kind p.count) ≡ false
    → page_of_column file number id kind p ≡ Err (size_fault number id kind p)
unfolding page_of_column
page-wrong file number id kind p wrong = rw wrong refl

-- a page and what is read behind it, as columns
page-behind : (id n : ℕ) (kind : ColumnType) (p : PageItem) (l : Listed) (r : Result (List ℕ) ReadError)
    (s : Result (List (List ℕ)) ReadError)
    (w : Result (Unit {0}) ReadError) (pages : Result (List Element) ReadError) (behind : Result (List (List Element)) ReadError)
    → (pages >>= λ first. behind >>= λ others. Ok (first ∷ others))
    ≡ ((s >>= λ bs. w >>= λ u. Ok bs) >>= λ bs. Ok (columns_of_loaded id (suc n) (loaded_as l bs)))
    → (((r >>= λ b. Ok (page_elements kind p.count (take p.size b))) >>= λ first. pages >>= λ others. Ok (first ++ others))
    >>= λ first. behind >>= λ others. Ok (first ∷ others))
    ≡ (((r >>= λ b. s >>= λ bs. Ok (b ∷ bs)) >>= λ bs. w >>= λ u. Ok bs)
    >>= λ bs. Ok (columns_of_loaded id (suc n) (loaded_as (with_front (place_of_page id kind p) l) bs)))
page-behind id n kind p l (Err e) s w pages behind h = refl
page-behind id n kind p l (Ok b) s w pages behind h =
    left pages behind ∙ ap (λ (x : Result (List (List Element)) ReadError). x >>= λ cs. Ok (head_with es cs)) h ∙ right s w
  where
    es : List Element
    es = page_elements kind p.count (take p.size b)

    left : (pages : Result (List Element) ReadError) (behind : Result (List (List Element)) ReadError)
        → ((pages >>= λ others. Ok (es ++ others)) >>= λ first. behind >>= λ others. Ok (first ∷ others))
        ≡ ((pages >>= λ first. behind >>= λ others. Ok (first ∷ others)) >>= λ cs. Ok (head_with es cs))
    left (Err e) behind = refl
    left (Ok x) (Err e) = refl
    left (Ok x) (Ok xs) = refl

    right : (s : Result (List (List ℕ)) ReadError) (w : Result (Unit {0}) ReadError)
        → (((s >>= λ bs. w >>= λ u. Ok bs) >>= λ bs. Ok (columns_of_loaded id (suc n) (loaded_as l bs))) >>= λ cs. Ok (head_with es cs))
        ≡ (((s >>= λ bs. Ok (b ∷ bs)) >>= λ bs. w >>= λ u. Ok bs)
        >>= λ bs. Ok (columns_of_loaded id (suc n) (loaded_as (with_front (place_of_page id kind p) l) bs)))
    right (Err e) w = refl
    right (Ok bs) (Err e) = refl
    right (Ok bs) (Ok u) = ap (λ (cs : List (List Element)). Ok cs) (sym (front-columns id n kind p l b bs))

-- the first column has nothing more than what is listed behind it
empty-first : (id n : ℕ) (l : Listed) (s : Result (List (List ℕ)) ReadError) (w : Result (Unit {0}) ReadError) → IsFrom (id + 1) l
    → (((s >>= λ bs. w >>= λ u. Ok bs) >>= λ bs. Ok (columns_of_loaded (id + 1) n (loaded_as l bs))) >>= λ others. Ok ([] ∷ others))
    ≡ ((s >>= λ bs. w >>= λ u. Ok bs) >>= λ bs. Ok (columns_of_loaded id (suc n) (loaded_as l bs)))
empty-first id n l (Err e) w from = refl
empty-first id n l (Ok bs) (Err e) from = refl
empty-first id n l (Ok bs) (Ok u) from = rw (none-before id (id + 1) l bs (omega arith) from) refl

zeros-here : (id m : ℕ) (l : Listed) (bs : List (List ℕ)) → IsFrom (id + 1) l
    → loaded_elements (loaded_as (with_zeros (record { column = id; count = m }) l) bs) id ≡ zero_elements m
zeros-here id m l bs from =
    let is : eqb id id ≡ true = eq-eqb id id refl in
    let picked : cond (eqb id id) m 0 ≡ m = ap (λ (b : Bool). cond b m 0) is in
    let count : zeros_listed (cond (eqb id id) m 0) id l.zeros ≡ m =
    no-zeros id (id + 1) l.zeros (omega arith) from.zeros (cond (eqb id id) m 0) ∙ picked in
    ap (λ (ms : List (PagePlace × List ℕ)). elements_with ms ++ replicate (zeros_listed (cond (eqb id id) m 0) id l.zeros) (plain 0))
    (no-pages id (id + 1) l.pages bs (omega arith) from.pages)
    ∙ ap zero_elements count

zeros-else : (id k m : ℕ) (l : Listed) (bs : List (List ℕ)) → id + 1 ≤ k
    → loaded_elements (loaded_as (with_zeros (record { column = id; count = m }) l) bs) k ≡ loaded_elements (loaded_as l bs) k
zeros-else id k m l bs le =
    let not : eqb id k ≡ false = ne_eqb id k (λ is. absurd (omega (arith, is, le))) in
    ap (λ (b : Bool). elements_with (pages_with k l.pages bs) ++ replicate (zeros_listed (cond b m 0) k l.zeros) (plain 0)) not

zeros-first : (id n m : ℕ) (l : Listed) (s : Result (List (List ℕ)) ReadError) (w : Result (Unit {0}) ReadError) → IsFrom (id + 1) l
    → (((s >>= λ bs. w >>= λ u. Ok bs) >>= λ bs. Ok (columns_of_loaded (id + 1) n (loaded_as l bs))) >>= λ others. Ok
    (zero_elements m ∷ others))
    ≡ ((s >>= λ bs. w >>= λ u. Ok bs)
    >>= λ bs. Ok (columns_of_loaded id (suc n) (loaded_as (with_zeros (record { column = id; count = m }) l) bs)))
zeros-first id n m l (Err e) w from = refl
zeros-first id n m l (Ok bs) (Err e) from = refl
zeros-first id n m l (Ok bs) (Ok u) from =
    let z : ZeroColumn = record { column = id; count = m } in
    rw (
      zeros-here id m l bs from,
      same-from (λ k. loaded_elements (loaded_as (with_zeros z l) bs) k) (λ k. loaded_elements (loaded_as l bs) k) (id + 1) n
          (λ k le. zeros-else id k m l bs le),
    ) refl

-- the pages of a column and what is read behind them
pages-behind : (file : List ℕ) (number id n : ℕ) (kind : ColumnType) (ps : List PageItem) (l : Listed)
    (behind : Result (List (List Element)) ReadError) → IsFrom (id + 1) l
    → behind ≡ (listed_bytes file number l >>= λ bs. Ok (columns_of_loaded (id + 1) n (loaded_as l bs)))
    → (pages_of_column file number id kind ps >>= λ first. behind >>= λ others. Ok (first ∷ others))
    ≡ (listed_bytes file number (pages_onto number id kind ps l)
    >>= λ bs. Ok (columns_of_loaded id (suc n) (loaded_as (pages_onto number id kind ps l) bs)))
pages-behind file number id n kind [] l behind from is =
    ap (λ (r : Result (List (List Element)) ReadError). r >>= λ others. Ok ([] ∷ others)) is
    ∙ empty-first id n l (pages_kept file number l.pages) (none_wrong l.wrong) from
pages-behind file number id n kind (p ∷ ps) l behind from is =
    by_size (pages-behind file number id n kind ps l behind from is) (eqb p.size (page_size kind p.count)) refl
  where
    by_size : (pages_of_column file number id kind ps >>= λ first. behind >>= λ others. Ok (first ∷ others))
        ≡ (listed_bytes file number (pages_onto number id kind ps l)
        >>= λ bs. Ok (columns_of_loaded id (suc n) (loaded_as (pages_onto number id kind ps l) bs)))
        → (b : Bool) → eqb p.size (page_size kind p.count) ≡ b
        → (pages_of_column file number id kind (p ∷ ps) >>= λ first. behind >>= λ others. Ok (first ∷ others))
        ≡ (listed_bytes file number
        (cond b (with_front (place_of_page id kind p) (pages_onto number id kind ps l)) (stopped (size_fault number id kind p)))
        >>= λ bs. Ok (columns_of_loaded id (suc n) (loaded_as
        (cond b (with_front (place_of_page id kind p) (pages_onto number id kind ps l)) (stopped (size_fault number id kind p))) bs)))
    by_size after true right =
        ap (λ (r : Result (List Element) ReadError).
        (r >>= λ first. pages_of_column file number id kind ps >>= λ others. Ok (first ++ others))
        >>= λ first. behind >>= λ others. Ok (first ∷ others)) (page-right file number id kind p right)
        ∙ page-behind id n kind p (pages_onto number id kind ps l) (page_kept file number (place_of_page id kind p))
        (pages_kept file number (pages_onto number id kind ps l).pages) (none_wrong (pages_onto number id kind ps l).wrong)
        (pages_of_column file number id kind ps) behind after
    by_size after false wrong =
        ap (λ (r : Result (List Element) ReadError).
        (r >>= λ first. pages_of_column file number id kind ps >>= λ others. Ok (first ++ others))
        >>= λ first. behind >>= λ others. Ok (first ∷ others)) (page-wrong file number id kind p wrong)

pub column-behind : (file : List ℕ) (number : ℕ) (k : ClusterList) (id n : ℕ) (c : KnownColumn) (code : ℕ) (l : Listed)
    (behind : Result (List (List Element)) ReadError) (is_open is_behind : Bool) (kind : Option ColumnType) → IsFrom (id + 1) l
    → behind ≡ (listed_bytes file number l >>= λ bs. Ok (columns_of_loaded (id + 1) n (loaded_as l bs)))
    → (cond is_open (cond is_behind (Ok (zero_elements k.entries)) (pages_of_kind file number id kind (pages_listed k id))) (Ok [])
    >>= λ first. behind >>= λ others. Ok (first ∷ others))
    ≡ (listed_bytes file number (cond is_open (cond is_behind (with_zeros (record { column = id; count = k.entries }) l)
    (typed_onto number id kind (pages_listed k id) l)) l)
    >>= λ bs. Ok (columns_of_loaded id (suc n)
    (loaded_as (cond is_open (cond is_behind (with_zeros (record { column = id; count = k.entries }) l)
    (typed_onto number id kind (pages_listed k id) l)) l) bs)))
column-behind file number k id n c code l behind false is_behind kind from is =
    ap (λ (r : Result (List (List Element)) ReadError). r >>= λ others. Ok ([] ∷ others)) is
    ∙ empty-first id n l (pages_kept file number l.pages) (none_wrong l.wrong) from
column-behind file number k id n c code l behind true true kind from is =
    ap (λ (r : Result (List (List Element)) ReadError). r >>= λ others. Ok (zero_elements k.entries ∷ others)) is
    ∙ zeros-first id n k.entries l (pages_kept file number l.pages) (none_wrong l.wrong) from
column-behind file number k id n c code l behind true false None from is =
    ap (λ (r : Result (List (List Element)) ReadError). r >>= λ others. Ok ([] ∷ others)) is
    ∙ empty-first id n l (pages_kept file number l.pages) (none_wrong l.wrong) from
column-behind file number k id n c code l behind true false (Some kind) from is =
    pages-behind file number id n kind (pages_listed k id) l behind from is
