-- A column whose pages are laid into the table.
use Rattle.std.proofs.Common.{◌≡◌, ℕ, zero, suc, ◌+◌, ◌-◌, ◌<◌, ◌≤◌, Bool, true, false, List}
use Rattle.std.proofs.Common.{[], ◌∷◌, ◌++◌, length, map, take, drop, get_or}
use Rattle.std.proofs.Common.{if◌then◌else◌, Some, refl, sym, ap, ◌∙◌, arith}
use Rattle.std.specs.List.{slice_range}
use Rattle.std.proofs.lemmas.List.{append_assoc, length-append, take_all, take_more, drop_at}
use Rattle.std.proofs.lemmas.List.Sums.{sum_by-cons, sum_by_more}
use Rattle.nt_types.specs.declared.column_type.ColumnType.{ColumnType}
use Rattle.nt_types.specs.declared.column_type.ColumnType.TheVariants.{Bit}
use Rattle.nt_encode.specs.Pages.{page_size}
use Rattle.nt_encode.specs.Elements.{Element}
use Rattle.nt_column.specs.Column.{Buffer, empty, with_more}
use Rattle.nt_view.specs.declared.page_place.PagePlace.{PagePlace}
use Rattle.nt_view.specs.declared.place.PageAt.{PageAt}
use Rattle.nt_view.specs.Loads.{loaded_len}
use Rattle.nt_view.specs.Loaded.{elements_with, kind_with}
use Rattle.nt_view.specs.Pages.{elements_of_pages, count_of, ArePages, IsSplitIndex}
use Rattle.nt_view.specs.Stores.{lens_of}
use Rattle.nt_view.specs.Table.{laid_from, elements_counted, pages_at, IsColumnAt, LieInPages, AreAddedUp}
use Rattle.nt_view.proofs.Taking.{count-taken}
use Rattle.nt_view.proofs.Columns.{elements-laid, counts-laid, length-laid, count-laid, at-laid, first-laid, end-laid}

-- a page that is listed nowhere
abbrev pub no_page : PagePlace
no_page = record { column = 0; kind = Bit; count = 0; place = 0; size = 0; checked = false }

abbrev pub no_place : PageAt
no_place = record { first = 0; count = 0; at = 0 }

same-place : (a b c d n : ℕ) → a ≡ b → c ≡ d
    → ◌≡◌ {A = PageAt} (record { first = a; count = n; at = c }) (record { first = b; count = n; at = d })
same-place a b c d n e f = rw (e, f) refl

-- the place of one page more
laid-push : (ps : List PagePlace) (p : PagePlace) (first at : ℕ)
    → laid_from first at (ps ++ p ∷ [])
    ≡ laid_from first at ps ++ record { first = first + elements_counted ps; count = p.count; at = at + lens_of ps } ∷ []
laid-push [] p first at = ap (λ (x : PageAt). x ∷ [])
    (same-place first (first + elements_counted []) at (at + lens_of []) p.count (omega arith) (omega arith))
laid-push (q ∷ ps) p first at =
    let head : PageAt = record { first = first; count = q.count; at = at } in
    let sum : elements_counted (q ∷ ps) ≡ q.count + elements_counted ps = sum_by-cons (λ (x : PagePlace). x.count) q ps in
    ap (λ (l : List PageAt). head ∷ l) (laid-push ps p (first + q.count) (at + loaded_len q)
    ∙ ap (λ (x : PageAt). laid_from (first + q.count) (at + loaded_len q) ps ++ x ∷ [])
    (same-place (first + q.count + elements_counted ps) (first + elements_counted (q ∷ ps))
    (at + loaded_len q + lens_of ps) (at + lens_of (q ∷ ps)) p.count
    (omega (arith, sum)) (omega arith)))

pub places-more : (old now pushed : List PageAt) (ps : List PagePlace) (i at first here : ℕ) → i < length ps
    → now ≡ old ++ laid_from 0 at (take i ps) → first ≡ elements_counted (take i ps) → here ≡ at + lens_of (take i ps)
    → pushed ≡ now ++ record { first = first; count = (get_or ps i no_page).count; at = here } ∷ []
    → pushed ≡ old ++ laid_from 0 at (take (i + 1) ps)
places-more old now pushed ps i at first here lt before sum place is =
    let p = get_or ps i no_page in
    let whole : laid_from 0 at (take (i + 1) ps) ≡ laid_from 0 at (take i ps) ++ record { first = first; count = p.count; at = here } ∷ [] =
    ap (λ (l : List PagePlace). laid_from 0 at l) (take_more ps i no_page lt) ∙ laid-push (take i ps) p 0 at
    ∙ ap (λ (x : PageAt). laid_from 0 at (take i ps) ++ x ∷ [])
    (same-place (0 + elements_counted (take i ps)) first (at + lens_of (take i ps)) here p.count (omega (arith, sum)) (sym place)) in
    is ∙ ap (λ (l : List PageAt). l ++ record { first = first; count = p.count; at = here } ∷ []) before
    ∙ append_assoc old (laid_from 0 at (take i ps)) (record { first = first; count = p.count; at = here } ∷ [])
    ∙ ap (λ (l : List PageAt). old ++ l) (sym whole)

pub counted-more : (ps : List PagePlace) (i : ℕ) → i < length ps
    → elements_counted (take (i + 1) ps) ≡ elements_counted (take i ps) + (get_or ps i no_page).count
counted-more ps i lt = sum_by_more (λ (p : PagePlace). p.count) ps i no_page lt

-- what stands behind a list
pub slice-behind : {A : Type 0} (xs ys zs : List A) (a b : ℕ) → zs ≡ xs ++ ys → a ≡ length xs → b ≡ length zs → slice_range zs a b ≡ ys
slice-behind {A = A} xs ys zs a b is from to =
    let n : b - a ≡ length ys = omega (arith, from, to, ap (λ (l : List A). length l) is, length-append xs ys) in
    ap (λ (l : List A). take (b - a) (drop a l)) is ∙ ap (λ (l : List A). take (b - a) l) (drop_at xs ys a (sym from))
    ∙ take_all (b - a) ys (omega (arith, n))

count-at : (ps : List PagePlace) (first at m : ℕ) (d : PageAt) (e : PagePlace) → m < length ps
    → (get_or (laid_from first at ps) m d).count ≡ (get_or ps m e).count
count-at [] first at m d e lt = absurd (omega (arith, lt))
count-at (p ∷ ps) first at zero d e lt = refl
count-at (p ∷ ps) first at (suc m) d e lt = count-at ps (first + p.count) (at + loaded_len p) m d e (omega (arith, lt))

len-le : (checked : Bool) (size : ℕ) → size ≤ (if checked then size + 8 else size)
len-le true size = omega arith
len-le false size = omega arith

-- the pages of a column lie in the store where they are laid
pub are-laid : (store : List ℕ) (ps : List PagePlace) (at : ℕ) (kind : ColumnType) → IsColumnAt store ps at
    → kind ≡ (get_or ps 0 no_page).kind → ArePages kind store (laid_from 0 at ps)
are-laid store ps at kind h is = record {
  lie = λ j d lt.
      let there : j < length ps = omega (arith, lt, length-laid ps 0 at) in
      let p = get_or ps j no_page in
      let size : p.size ≡ page_size kind p.count =
      h.sized j no_page there ∙ ap (λ (t : ColumnType). page_size t p.count) (h.same j no_page there ∙ sym is) in
      let count : page_size kind (get_or (laid_from 0 at ps) j d).count ≡ page_size kind p.count =
      ap (λ (n : ℕ). page_size kind n) (count-at ps 0 at j d no_page there) in
      omega (arith, at-laid ps 0 at j d there, count, size, len-le p.checked p.size, end-laid ps j no_page there, h.within);
  follow = λ j d lt.
      first-laid ps 0 at j d (omega (arith, lt, length-laid ps 0 at)) ∙ omega arith;
}

pub kind-laid : (store : List ℕ) (ps : List PagePlace) (at : ℕ) → 0 < length ps
    → kind_with (pages_at store ps at) ≡ Some (get_or ps 0 no_page).kind
kind-laid store [] at some = absurd (omega (arith, some))
kind-laid store (p ∷ ps) at some = refl

first-is : (qs : List PagePlace) (d : PagePlace) → 0 < length qs → get_or qs 0 d ≡ get_or qs 0 no_page
first-is [] d lt = absurd (omega (arith, lt))
first-is (q ∷ qs) d lt = refl

pub elements-at : (store : List ℕ) (ps : List PagePlace) (at : ℕ) (kind : ColumnType) → IsColumnAt store ps at
    → kind ≡ (get_or ps 0 no_page).kind → elements_with (pages_at store ps at) ≡ elements_of_pages kind store (laid_from 0 at ps)
elements-at store ps at kind h is =
    elements-laid kind store ps 0 at
    (λ m d lt. h.same m d lt ∙ ap (λ (p : PagePlace). p.kind) (first-is ps d h.some) ∙ sym is)
    (λ m d lt. h.sized m d lt)

-- what is held of a column in pages
pub pages-lie : (store : List ℕ) (ps : List PagePlace) (at : ℕ) (kind : ColumnType) (old new : List PageAt) (begin end count : ℕ)
    → IsColumnAt store ps at → kind ≡ (get_or ps 0 no_page).kind → new ≡ old ++ laid_from 0 at ps → begin ≡ length old → end ≡ length new
    → count ≡ elements_counted ps → (IsSplitIndex kind → ⊥) → LieInPages store new kind begin end count (pages_at store ps at)
pages-lie store ps at kind old new begin end count h is more from to sum other =
    let part : slice_range new begin end ≡ laid_from 0 at ps = slice-behind old (laid_from 0 at ps) new begin end more from to in
    record {
      order = omega (arith, from, to, ap (λ (l : List PageAt). length l) more, length-append old (laid_from 0 at ps));
      within = omega (arith, to);
      are = rw part (are-laid store ps at kind h is);
      gives = elements-at store ps at kind h is ∙ ap (elements_of_pages kind store) (sym part);
      counts = counts-laid store ps 0 at ∙ ap (λ (l : List PageAt). map (λ (p : PageAt). p.count) l) (sym part);
      all = sum ∙ sym (count-laid ps 0 at) ∙ ap count_of (sym part);
      of_kind = kind-laid store ps at h.some ∙ ap (λ (t : ColumnType). Some t) (sym is);
      single = other;
    }

-- what is held of a column whose numbers were added up
pub sums-are : (store : List ℕ) (ps : List PagePlace) (at : ℕ) (kind : ColumnType) (old new : List Buffer) (buffer : Buffer) (s : ℕ)
    → IsColumnAt store ps at → kind ≡ (get_or ps 0 no_page).kind → new ≡ old ++ buffer ∷ [] → s ≡ length old
    → buffer.column ≡ with_more (empty kind) (elements_of_pages kind store (laid_from 0 at ps)) → IsSplitIndex kind
    → AreAddedUp new s (pages_at store ps at)
sums-are store ps at kind old new buffer s h is more place column split = record {
  there = omega (arith, place, ap (λ (l : List Buffer). length l) more, length-append old (buffer ∷ []));
  kind = kind;
  of_kind = kind-laid store ps at h.some ∙ ap (λ (t : ColumnType). Some t) (sym is);
  split = split;
  gives = λ d.
      ap (λ (b : Buffer). b.column) (ap (λ (l : List Buffer). get_or l s d) more ∙ last old s place d) ∙ column
      ∙ ap (λ (es : List Element). with_more (empty kind) es) (sym (elements-at store ps at kind h is));
}
  where
    last : (bs : List Buffer) (n : ℕ) → n ≡ length bs → (d : Buffer) → get_or (bs ++ buffer ∷ []) n d ≡ buffer
    last [] zero e d = refl
    last [] (suc n) e d = absurd (omega (arith, e))
    last (b ∷ bs) zero e d = absurd (omega (arith, e))
    last (b ∷ bs) (suc n) e d = last bs n (omega (arith, e)) d

pub lens-taken : (ps : List PagePlace) (i : ℕ) → i < length ps → lens_of (take (i + 1) ps)
    ≡ lens_of (take i ps) + loaded_len (get_or ps i no_page)
lens-taken ps i lt = sym (count-taken ps i no_page (lens_of (take i ps)) _ lt refl refl)
