-- Pages that stand elsewhere too give the same elements there.
use Rattle.std.proofs.Common.{◌≡◌, ℕ, zero, suc, ◌+◌, ◌<◌, ◌≤◌, eqb, Bool, true, false, cond, List, [], ◌∷◌, ◌++◌, map, length, take, drop}
use Rattle.std.proofs.Common.{refl, sym, ap, subst, ◌∙◌, arith, ◌≢◌}
use Rattle.std.specs.Int.{w64, to_le_bytes, from_le_bytes}
use Rattle.std.specs.List.{AllByRecursion, zip}
use Rattle.std.proofs.lemmas.Bool.{eq-eqb, eqb-true}
use Rattle.std.proofs.lemmas.List.{length-append, length-map, length-take, take_at, take-take, drop_at, nil_from_length}
use Rattle.std.proofs.lemmas.List.Sums.{sum_by-cons}
use Rattle.nt_types.specs.declared.column_type.ColumnType.{ColumnType}
use Rattle.nt_types.specs.declared.column_type.ColumnType.TheVariants.{Switch}
use Rattle.nt_xxh3.specs.Sum.{xxh3}
use Rattle.nt_format.specs.Pieces.{piece, window}
use Rattle.nt_format.proofs.Numbers.{little_64}
use Rattle.nt_format.proofs.Sum.{xxh3_below}
use Rattle.nt_format.proofs.Pieces.{piece_parts, piece_window}
use Rattle.nt_encode.specs.Pages.{page_values}
use Rattle.nt_encode.specs.Elements.{Element, plain, page_elements}
use Rattle.nt_encode.specs.Switch.{switch_index, switch_tag}
use Rattle.nt_encode.proofs.Lists.{length-list_of}
use Rattle.nt_encode.proofs.Values.{length-page_values}
use Rattle.nt_encode.proofs.Elements.{page_elements-values}
use Rattle.nt_book.specs.declared.meta.PageMeta.{PageMeta}
use Rattle.nt_book.specs.Pages.{element_count}
use Rattle.nt_pagelists.specs.declared.page.PageItem.{PageItem}
use Rattle.nt_pagelists.specs.Books.{page_item}
use Rattle.nt_file_meaning.specs.Clusters.{kept_sum, stored_len}
use Rattle.nt_file_meaning.specs.Holds.{HoldsPage, HoldsPages, no_page, and_page}
use Rattle.nt_finished.proofs.Standing.{StandsThere, front_stands, back_stands}
use Rattle.nt_copied.specs.Stored.{StoredPage, with_sum, stored_column, stored_page_metas}
use Rattle.nt_copied.specs.Copies.{filled_pages, page_there}

-- ---- the checksum behind a page

sum-kept : (page : List ℕ) → kept_sum (length page) (page ++ to_le_bytes w64 (xxh3 page)) ≡ xxh3 page
sum-kept page =
    ap (λ (l : List ℕ). from_le_bytes w64 l) (drop_at page (to_le_bytes w64 (xxh3 page)) (length page) refl) ∙ little_64.again (xxh3 page)
    (xxh3_below page)

sum-checked : (page : List ℕ)
    → eqb (kept_sum (length page) (page ++ to_le_bytes w64 (xxh3 page)))
    (xxh3 (take (length page) (page ++ to_le_bytes w64 (xxh3 page)))) ≡ true
sum-checked page =
    eq-eqb _ _ (sum-kept page ∙ sym (ap (λ (l : List ℕ). xxh3 l) (take_at page (to_le_bytes w64 (xxh3 page)) (length page) refl)))

pub length-with_sum : (p : StoredPage) → length (with_sum p) ≡ length p.bytes + 8
length-with_sum p = length-append p.bytes (to_le_bytes w64 (xxh3 p.bytes))

-- ---- a page has as many elements as it says

length-zipped : (xs ys : List ℕ) → length ys ≡ length xs → length (zip xs ys) ≡ length xs
length-zipped [] ys e = refl
length-zipped (x ∷ xs) [] e = absurd cc
length-zipped (x ∷ xs) (y ∷ ys) e = ap (λ (n : ℕ). suc n) (length-zipped xs ys (omega (arith, e)))

length-values : (kind : ColumnType) (n : ℕ) (bytes : List ℕ) → kind ≢ Switch → length (page_elements kind n bytes) ≡ n
length-values kind n bytes other =
    ap length (page_elements-values kind n bytes other)
    ∙ (length-map (page_values kind n bytes) plain ∙ length-page_values kind n bytes)

length-elements : (kind : ColumnType) (n : ℕ) (bytes : List ℕ) → length (page_elements kind n bytes) ≡ n
length-elements Switch n bytes =
    length-zipped _ _ (length-list_of n (switch_tag bytes) ∙ sym (length-list_of n (switch_index bytes)))
    ∙ length-list_of n (switch_index bytes)
length-elements kind n bytes = length-values kind n bytes (λ same. cc same)

-- ---- one page

size-first : (b : Bool) (n : ℕ) → n ≤ cond b (n + 8) n
size-first true n = omega arith
size-first false n = omega arith

module _ (from to : List ℕ) (kind : ColumnType) where
  -- the bytes of a page, as they stand
  pub bytes-are : (p : PageItem) (es : List Element) (h : HoldsPage from kind p es)
      → (window p.size from p.place ≡ take p.size h.stored) × (length (window p.size from p.place) ≡ p.size)
  bytes-are p es h =
      let less : p.size ≤ stored_len p = size-first p.checked p.size in
      let whole : window (stored_len p) from p.place ≡ h.stored = piece_window from h.stored p.place (stored_len p) h.there in
      let long : length h.stored ≡ stored_len p = (piece_parts from h.stored p.place (stored_len p) h.there).2 in
      let cut : take p.size h.stored ≡ window p.size from p.place =
      ap (λ (l : List ℕ). take p.size l) (sym whole) ∙ take-take p.size (stored_len p) (drop p.place from) less in (
        sym cut,
        ap length (sym cut) ∙ omega (arith, length-take p.size h.stored, long, less),
      )

  page_copied : (p : PageItem) (es : List Element) (base place : ℕ) → HoldsPage from kind p es
      → StandsThere to (base + place) (with_sum (page_there from p))
      → HoldsPage to kind (page_item base (record { count = p.count; place = place; size = length (window p.size from p.place) })) es
  page_copied p es base place h there =
      let bytes : List ℕ = window p.size from p.place in
      let are = bytes-are p es h in
      record {
        stored = with_sum (page_there from p);
        size = are.1 ∙ h.size;
        there = ap (λ (n : ℕ). piece to (base + place) n) (sym (length-with_sum (page_there from p))) ∙ there;
        checked = sum-checked (window p.size from p.place);
        gives = h.gives
            ∙ (ap (λ (l : List ℕ). page_elements kind p.count l) (sym are.0)
            ∙ sym (ap (λ (l : List ℕ). page_elements kind p.count l)
            (take_at bytes (to_le_bytes w64 (xxh3 bytes)) (length bytes) refl)));
      }

  -- a page has its elements; an empty one none
  pub long-page : (p : PageItem) (es : List Element) → HoldsPage from kind p es → length es ≡ p.count
  long-page p es h = ap length h.gives ∙ length-elements kind p.count (take p.size h.stored)

  empty-page : (p : PageItem) (es : List Element) → HoldsPage from kind p es → eqb p.count 0 ≡ true → es ≡ []
  empty-page p es h none = nil_from_length es (long-page p es h ∙ eqb-true p.count 0 none)

  -- ---- the pages of a column

  abbrev there_of : List PageItem → List StoredPage
  there_of ps = map (page_there from) ps

  pub pages_copied : (ps : List PageItem) (es : List Element) (base place : ℕ) → HoldsPages from kind ps es
      → StandsThere to (base + place) (stored_column (there_of (filled_pages ps)))
      → HoldsPages to kind (map (page_item base) (stored_page_metas place (there_of (filled_pages ps)))) es
  pages_copied [] es base place no_page there = no_page
  pages_copied (p ∷ ps) es base place (and_page {es = one} {others = others} first more) there =
      by (λ at stand. pages_copied ps others base at more stand) (eqb p.count 0) refl there
    where
      by : ((at : ℕ) → StandsThere to (base + at) (stored_column (there_of (filled_pages ps)))
          → HoldsPages to kind (map (page_item base) (stored_page_metas at (there_of (filled_pages ps)))) others)
          → (b : Bool) → eqb p.count 0 ≡ b
          → StandsThere to (base + place) (stored_column (there_of (cond b (filled_pages ps) (p ∷ filled_pages ps))))
          → HoldsPages to kind (map (page_item base) (stored_page_metas place (there_of (cond b (filled_pages ps) (p ∷ filled_pages ps)))))
          (one ++ others)
      by later true none stand =
          subst (λ (l : List Element). HoldsPages to kind (map (page_item base) (stored_page_metas place (there_of (filled_pages ps))))
          (l ++ others)) (sym (empty-page p one first none)) (later place stand)
      by later false some stand =
          let own : List ℕ = with_sum (page_there from p) in
          let rest : List ℕ = stored_column (there_of (filled_pages ps)) in
          and_page (page_copied p one base place first (front_stands to own rest (base + place) stand))
          (later (place + length own)
          (back_stands to own rest (base + place) (base + (place + length own)) (omega arith) stand))

  pub pages_counted : (ps : List PageItem) (es : List Element) (place : ℕ) → HoldsPages from kind ps es
      → element_count (stored_page_metas place (there_of (filled_pages ps))) ≡ length es
  pages_counted [] es place no_page = refl
  pages_counted (p ∷ ps) es place (and_page {es = one} {others = others} first more) =
      by (λ at. pages_counted ps others at more) (eqb p.count 0) refl
    where
      by : ((at : ℕ) → element_count (stored_page_metas at (there_of (filled_pages ps))) ≡ length others) → (b : Bool) → eqb p.count 0 ≡ b
          → element_count (stored_page_metas place (there_of (cond b (filled_pages ps) (p ∷ filled_pages ps)))) ≡ length (one ++ others)
      by later true none =
          later place ∙ ap (λ (l : List Element). length (l ++ others)) (sym (empty-page p one first none))
      by later false some =
          let own : List ℕ = with_sum (page_there from p) in
          let m : PageMeta = record { count = p.count; place = place; size = length (window p.size from p.place) } in
          omega (
            arith,
            sum_by-cons (λ (q : PageMeta). q.count) m (stored_page_metas (place + length own) (there_of (filled_pages ps))),
            later (place + length own),
            long-page p one first,
            length-append one others,
          )

-- no page that is copied is empty
pub pages_filled : (from : List ℕ) (ps : List PageItem) (place : ℕ)
    → AllByRecursion (λ (q : PageMeta). 0 < q.count) (stored_page_metas place (map (page_there from) (filled_pages ps)))
pages_filled from [] place = tt
pages_filled from (p ∷ ps) place = by (λ at. pages_filled from ps at) (eqb p.count 0) refl
  where
    some_of : (n : ℕ) → eqb n 0 ≡ false → 0 < n
    some_of zero e = absurd cc
    some_of (suc n) e = omega arith

    by : ((at : ℕ) → AllByRecursion (λ (q : PageMeta). 0 < q.count) (stored_page_metas at (map (page_there from) (filled_pages ps))))
        → (b : Bool) → eqb p.count 0 ≡ b
        → AllByRecursion (λ (q : PageMeta). 0 < q.count)
        (stored_page_metas place (map (page_there from) (cond b (filled_pages ps) (p ∷ filled_pages ps))))
    by later true none = later place
    by later false some = (some_of p.count some, later (place + length (with_sum (page_there from p))))
