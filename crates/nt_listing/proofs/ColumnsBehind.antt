-- Listed columns behind others, and that what is listed of all columns is what a reader loads.
use Rattle.std.proofs.Common.{◌≡◌, ℕ, suc, ◌+◌, ◌<◌, ◌≤◌, Bool, true, false, cond, eqb, ne_eqb, List, [], ◌∷◌, length, map, get_or}
use Rattle.std.proofs.Common.{zero, inl, inr, ◌⊎◌, ⊎_elim, Option, Some, None, Ok, refl, sym, ◌∙◌, arith}
use Rattle.std.specs.List.{range_with_len}
use Rattle.std.proofs.lemmas.List.{get_or_past}
use Rattle.std.proofs.lemmas.List.FromFn.{get_or-map-range_with_len, length-map-range_with_len}
use Rattle.std.proofs.lemmas.Bool.{cases_lt, eqb-true}
use Rattle.nt_lists.specs.Chaining.{◌>>=◌}
use Rattle.nt_types.specs.declared.column_type.ColumnType.{ColumnType}
use Rattle.nt_encode.specs.Pages.{page_size}
use Rattle.nt_encode.specs.Elements.{Element}
use Rattle.nt_view.specs.declared.page_place.PagePlace.{PagePlace}
use Rattle.nt_view.specs.declared.page_place.ZeroColumn.{ZeroColumn}
use Rattle.nt_view.specs.Loaded.{loaded_elements, pages_with, zeros_listed, MayStandBehind, AreLoadable}
use Rattle.nt_grammar.specs.Table.{Table}
use Rattle.nt_grammar.specs.declared.rows.ColumnRow.{ColumnRow}
use Rattle.nt_plans.specs.Needs.{need_of}
use Rattle.nt_pagelists.specs.declared.page.PageItem.{PageItem}
use Rattle.nt_pagelists.specs.declared.cluster.ClusterList.{ClusterList}
use Rattle.nt_file_meaning.specs.Outlines.{known_column}
use Rattle.nt_file_meaning.specs.Clusters.{kind_of_code, pages_listed, begins_behind}
use Rattle.nt_file_meaning.specs.Clusters.{columns_from, columns_by_id}
use Rattle.nt_listing.specs.Listings.{Listed, with_front, with_zeros, place_of_page, pages_onto, typed_onto}
use Rattle.nt_listing.specs.Listings.{columns_listed, listed_bytes, columns_of_loaded}
use Rattle.nt_listing.proofs.ListedColumns.{IsFrom, loaded_as, column-behind}

-- listed pages and zeros are those of columns from this one to before another, and can be loaded
pub record IsAfter (id end : ℕ) (l : Listed) : Type 0 where
  pub loadable : AreLoadable l.pages l.zeros
  pub pages : (m : ℕ) (d : PagePlace) → m < length l.pages → (id ≤ (get_or l.pages m d).column) × ((get_or l.pages m d).column < end)
  pub zeros : (m : ℕ) (d : ZeroColumn) → m < length l.zeros → (id ≤ (get_or l.zeros m d).column) × ((get_or l.zeros m d).column < end)

-- the same behind pages of one column of this type
record IsAround (id end : ℕ) (kind : ColumnType) (l : Listed) : Type 0 where
  loadable : AreLoadable l.pages l.zeros
  pages : (m : ℕ) (d : PagePlace) → m < length l.pages
      → (((get_or l.pages m d).column ≡ id) × ((get_or l.pages m d).kind ≡ kind)) ⊎ (id + 1 ≤ (get_or l.pages m d).column)
  few : (m : ℕ) (d : PagePlace) → m < length l.pages → (get_or l.pages m d).column < end
  zeros : (m : ℕ) (d : ZeroColumn) → m < length l.zeros → (id + 1 ≤ (get_or l.zeros m d).column) × ((get_or l.zeros m d).column < end)

around : (id end : ℕ) (kind : ColumnType) (l : Listed) → IsAfter (id + 1) end l → IsAround id end kind l
around id end kind l is = record {
  loadable = is.loadable;
  pages = λ m d lt. inr (is.pages m d lt).0;
  few = λ m d lt. (is.pages m d lt).1;
  zeros = is.zeros;
}

after : (id end : ℕ) (kind : ColumnType) (l : Listed) → IsAround id end kind l → IsAfter id end l
after id end kind l is = record {
  loadable = is.loadable;
  pages = λ m d lt. (⊎_elim (λ here. omega (arith, here.0)) (λ past. omega (arith, past)) (is.pages m d lt), is.few m d lt);
  zeros = λ m d lt. let z = is.zeros m d lt in (omega (arith, z.0), z.1);
}

weaker : (id end : ℕ) (l : Listed) → IsAfter (id + 1) end l → IsAfter id end l
weaker id end l is = record {
  loadable = is.loadable;
  pages = λ m d lt. let p = is.pages m d lt in (omega (arith, p.0), p.1);
  zeros = λ m d lt. let z = is.zeros m d lt in (omega (arith, z.0), z.1);
}

loadable-front : (id end : ℕ) (kind : ColumnType) (p : PageItem) (l : Listed) → p.size ≡ page_size kind p.count
    → IsAround id end kind l → AreLoadable (place_of_page id kind p ∷ l.pages) l.zeros
loadable-front id end kind p l size is = record { sized = sized; order = order; apart = apart }
  where
    sized : (m : ℕ) (d : PagePlace) → m < length (place_of_page id kind p ∷ l.pages)
        → (get_or (place_of_page id kind p ∷ l.pages) m d).size
        ≡ page_size (get_or (place_of_page id kind p ∷ l.pages) m d).kind (get_or (place_of_page id kind p ∷ l.pages) m d).count
    sized zero d lt = size
    sized (suc m) d lt = is.loadable.sized m d (omega (arith, lt))

    order : (i : ℕ) (d : PagePlace) → i + 1 < length (place_of_page id kind p ∷ l.pages)
        → MayStandBehind (get_or (place_of_page id kind p ∷ l.pages) i d) (get_or (place_of_page id kind p ∷ l.pages) (i + 1) d)
    order zero d lt = ⊎_elim (λ here. inr (sym here.0, sym here.1)) (λ past. inl (omega (arith, past))) (is.pages 0 d (omega (arith, lt)))
    order (suc i) d lt =
        let next : suc i + 1 ≡ suc (i + 1) = omega arith in
        rw next (is.loadable.order i d (omega (arith, lt)))

    apart : (i : ℕ) (z : ZeroColumn) → i < length l.zeros → (m : ℕ) (d : PagePlace) → m < length (place_of_page id kind p ∷ l.pages)
        → (get_or (place_of_page id kind p ∷ l.pages) m d).column ≡ (get_or l.zeros i z).column → ⊥
    apart i z lt zero d h same = absurd (omega (arith, same, (is.zeros i z lt).0))
    apart i z lt (suc m) d h same = is.loadable.apart i z lt m d (omega (arith, h)) same

front-around : (id end : ℕ) (kind : ColumnType) (p : PageItem) (l : Listed) → id < end → p.size ≡ page_size kind p.count
    → IsAround id end kind l → IsAround id end kind (with_front (place_of_page id kind p) l)
front-around id end kind p l lt size is = record
    { loadable = loadable-front id end kind p l size is; pages = pages; few = few; zeros = is.zeros }
  where
    pages : (m : ℕ) (d : PagePlace) → m < length (place_of_page id kind p ∷ l.pages)
        → (((get_or (place_of_page id kind p ∷ l.pages) m d).column ≡ id) × ((get_or (place_of_page id kind p ∷ l.pages) m d).kind ≡ kind))
        ⊎ (id + 1 ≤ (get_or (place_of_page id kind p ∷ l.pages) m d).column)
    pages zero d h = inl (refl, refl)
    pages (suc m) d h = is.pages m d (omega (arith, h))

    few : (m : ℕ) (d : PagePlace) → m < length (place_of_page id kind p ∷ l.pages)
        → (get_or (place_of_page id kind p ∷ l.pages) m d).column < end
    few zero d h = lt
    few (suc m) d h = is.few m d (omega (arith, h))

nothing-loadable : AreLoadable [] []
nothing-loadable = record {
  sized = λ m d lt. absurd (omega (arith, lt));
  order = λ m d lt. absurd (omega (arith, lt));
  apart = λ m d lt. absurd (omega (arith, lt));
}

pages-around : (number id end : ℕ) (kind : ColumnType) (ps : List PageItem) (l : Listed) → id < end → IsAround id end kind l
    → IsAround id end kind (pages_onto number id kind ps l)
pages-around number id end kind [] l lt is = is
pages-around number id end kind (p ∷ ps) l lt is =
    by_size (pages-around number id end kind ps l lt is) (eqb p.size (page_size kind p.count)) refl
  where
    by_size : IsAround id end kind (pages_onto number id kind ps l) → (b : Bool) → eqb p.size (page_size kind p.count) ≡ b
        → IsAround id end kind (pages_onto number id kind (p ∷ ps) l)
    by_size after true right =
        rw right (front-around id end kind p (pages_onto number id kind ps l) lt (eqb-true p.size (page_size kind p.count) right) after)
    by_size after false wrong = rw wrong (record {
      loadable = nothing-loadable;
      pages = λ m d h. absurd (omega (arith, h));
      few = λ m d h. absurd (omega (arith, h));
      zeros = λ m d h. absurd (omega (arith, h));
    })

zeros-after : (id end n : ℕ) (l : Listed) → id < end → IsAfter (id + 1) end l
    → IsAfter id end (with_zeros (record { column = id; count = n }) l)
zeros-after id end n l lt is = record {
  loadable = record { sized = is.loadable.sized; order = is.loadable.order; apart = apart };
  pages = λ m d h. let p = is.pages m d h in (omega (arith, p.0), p.1);
  zeros = zeros;
}
  where
    here : ZeroColumn
    here = record { column = id; count = n }

    apart : (i : ℕ) (z : ZeroColumn) → i < length (here ∷ l.zeros) → (m : ℕ) (d : PagePlace) → m < length l.pages
        → (get_or l.pages m d).column ≡ (get_or (here ∷ l.zeros) i z).column → ⊥
    apart zero z h m d g same = absurd (omega (arith, same, (is.pages m d g).0))
    apart (suc i) z h m d g same = is.loadable.apart i z (omega (arith, h)) m d g same

    zeros : (m : ℕ) (d : ZeroColumn) → m < length (here ∷ l.zeros)
        → (id ≤ (get_or (here ∷ l.zeros) m d).column) × ((get_or (here ∷ l.zeros) m d).column < end)
    zeros zero d h = (omega arith, lt)
    zeros (suc m) d h = let z = is.zeros m d (omega (arith, h)) in (omega (arith, z.0), z.1)

column-after : (number : ℕ) (k : ClusterList) (id end : ℕ) (l : Listed) (is_open is_behind : Bool) (kind : Option ColumnType) → id < end
    → IsAfter (id + 1) end l
    → IsAfter id end (cond is_open (cond is_behind (with_zeros (record { column = id; count = k.entries }) l)
    (typed_onto number id kind (pages_listed k id) l)) l)
column-after number k id end l false is_behind kind lt is = weaker id end l is
column-after number k id end l true true kind lt is = zeros-after id end k.entries l lt is
column-after number k id end l true false None lt is = weaker id end l is
column-after number k id end l true false (Some kind) lt is =
    after id end kind (pages_onto number id kind (pages_listed k id) l)
    (pages-around number id end kind (pages_listed k id) l lt (around id end kind l is))

pub columns-after : (number : ℕ) (k : ClusterList) (t : Table) (id : ℕ) (cs : List ColumnRow)
    → IsAfter id (id + length cs) (columns_listed number k t id cs)
columns-after number k t id [] = record {
  loadable = nothing-loadable;
  pages = λ m d h. absurd (omega (arith, h));
  zeros = λ m d h. absurd (omega (arith, h));
}
columns-after number k t id (c ∷ cs) =
    let known = known_column (need_of t id) c in
    let end : id + 1 + length cs ≡ id + length (c ∷ cs) = omega arith in
    column-after number k id (id + length (c ∷ cs)) (columns_listed number k t (id + 1) cs) known.is_open (begins_behind k known)
    (kind_of_code c.code) (omega arith) (rw end at (columns-after number k t (id + 1) cs))

from-after : (id end : ℕ) (l : Listed) → IsAfter id end l → IsFrom id l
from-after id end l is = record { pages = λ m d h. (is.pages m d h).0; zeros = λ m d h. (is.zeros m d h).0 }

-- the elements of columns are those of what is listed of them, once that is loaded
pub columns-listed : (file : List ℕ) (number : ℕ) (k : ClusterList) (t : Table) (id : ℕ) (cs : List ColumnRow)
    → columns_from file number k t id cs
    ≡ (listed_bytes file number (columns_listed number k t id cs)
    >>= λ bs. Ok (columns_of_loaded id (length cs) (loaded_as (columns_listed number k t id cs) bs)))
columns-listed file number k t id [] = refl
columns-listed file number k t id (c ∷ cs) =
    let known = known_column (need_of t id) c in
    let rest = columns_listed number k t (id + 1) cs in
    column-behind file number k id (length cs) known c.code rest (columns_from file number k t (id + 1) cs) known.is_open
    (begins_behind k known) (kind_of_code c.code) (from-after (id + 1) (id + 1 + length cs) rest (columns-after number k t (id + 1) cs))
    (columns-listed file number k t (id + 1) cs)

-- a column behind all has no elements
past-pages : (k end : ℕ) (ps : List PagePlace) (bs : List (List ℕ)) → end ≤ k
    → ((m : ℕ) (d : PagePlace) → m < length ps → (get_or ps m d).column < end) → pages_with k ps bs ≡ []
past-pages k end [] bs le few = refl
past-pages k end (p ∷ ps) [] le few = refl
past-pages k end (p ∷ ps) (b ∷ bs) le few =
    let here = few 0 p (omega arith) in
    let not : eqb p.column k ≡ false = ne_eqb p.column k (λ is. absurd (omega (arith, here, is, le))) in
    rw not (past-pages k end ps bs le (λ m d h. few (suc m) d (omega (arith, h))))

past-zeros : (k end n : ℕ) (zs : List ZeroColumn) → end ≤ k
    → ((m : ℕ) (d : ZeroColumn) → m < length zs → (get_or zs m d).column < end) → zeros_listed n k zs ≡ n
past-zeros k end n [] le few = refl
past-zeros k end n (z ∷ zs) le few =
    let here = few 0 z (omega arith) in
    let not : eqb z.column k ≡ false = ne_eqb z.column k (λ is. absurd (omega (arith, here, is, le))) in
    rw not (past-zeros k end n zs le (λ m d h. few (suc m) d (omega (arith, h))))

-- each column by its id
pub columns-are : (end : ℕ) (l : Listed) (bs : List (List ℕ)) → IsAfter 0 end l
    → (k : ℕ) → columns_by_id (columns_of_loaded 0 end (loaded_as l bs)) k ≡ loaded_elements (loaded_as l bs) k
columns-are end l bs is k =
    let f : ℕ → List Element = λ j. loaded_elements (loaded_as l bs) j in
    ⊎_elim
    (λ lt. get_or-map-range_with_len f 0 end k k [] lt (omega arith))
    (λ past.
    let none : loaded_elements (loaded_as l bs) k ≡ [] =
    rw (past-pages k end l.pages bs past (λ m d h. (is.pages m d h).1), past-zeros k end 0 l.zeros past (λ m d h. (is.zeros m d h).1))
    refl in
    get_or_past (map f (range_with_len 0 end)) k [] (omega (arith, length-map-range_with_len f 0 end, past)) ∙ sym none)
    (cases_lt k end)
