-- The pages of columns among those of a cluster, and their places in its store.
use Rattle.std.proofs.Common.{◌≡◌, ℕ, zero, suc, ◌+◌, ◌<◌, ◌≤◌, Bool, true, false, eqb, eq-eqb, ne_eqb, List, [], ◌∷◌, ◌++◌, length, map}
use Rattle.std.proofs.Common.{if◌then◌else◌, take, drop, get_or, refl, sym, ap, ◌∙◌, arith}
use Rattle.std.specs.List.{zip}
use Rattle.std.proofs.lemmas.List.{take-take, drop-drop}
use Rattle.std.proofs.lemmas.List.Sums.{sum_by-cons}
use Rattle.nt_types.specs.declared.column_type.ColumnType.{ColumnType}
use Rattle.nt_encode.specs.Pages.{page_size}
use Rattle.nt_encode.specs.Elements.{Element, page_elements}
use Rattle.nt_view.specs.declared.page_place.PagePlace.{PagePlace}
use Rattle.nt_view.specs.declared.place.PageAt.{PageAt}
use Rattle.nt_view.specs.Loads.{loaded_len}
use Rattle.nt_view.specs.Loaded.{pages_with, elements_with, counts_with, stored_elements}
use Rattle.nt_view.specs.Pages.{elements_of_pages, count_of}
use Rattle.nt_view.specs.Stores.{lens_of, cut_up}
use Rattle.nt_view.specs.Table.{laid_from, elements_counted, pages_at}

-- the stored bytes of pages behind others
pub cut-append : (ps qs : List PagePlace) (bytes : List ℕ)
    → cut_up (ps ++ qs) bytes ≡ cut_up ps bytes ++ cut_up qs (drop (lens_of ps) bytes)
cut-append [] qs bytes = refl
cut-append (p ∷ ps) qs bytes =
    ap (λ (l : List (List ℕ)). take (loaded_len p) bytes ∷ l) (cut-append ps qs (drop (loaded_len p) bytes)
    ∙ ap (λ (l : List ℕ). cut_up ps (drop (loaded_len p) bytes) ++ cut_up qs l) (drop-drop (lens_of ps) (loaded_len p) bytes))

pub length-cut : (ps : List PagePlace) (bytes : List ℕ) → length (cut_up ps bytes) ≡ length ps
length-cut [] bytes = refl
length-cut (p ∷ ps) bytes = ap suc (length-cut ps (drop (loaded_len p) bytes))

with-step : (x : PagePlace × List ℕ) (t : Bool) (all front rest : List (PagePlace × List ℕ)) → all ≡ front ++ rest
    → (if t then x ∷ [] else []) ++ all ≡ ((if t then x ∷ [] else []) ++ front) ++ rest
with-step x true all front rest is = ap (λ (l : List (PagePlace × List ℕ)). x ∷ l) is
with-step x false all front rest is = is

-- the pages of a column among pages and those behind them
with-append : (k : ℕ) (ps qs : List PagePlace) (bs cs : List (List ℕ)) → length bs ≡ length ps
    → pages_with k (ps ++ qs) (bs ++ cs) ≡ pages_with k ps bs ++ pages_with k qs cs
with-append k [] qs [] cs e = refl
with-append k [] qs (b ∷ bs) cs e = absurd (omega (arith, e))
with-append k (p ∷ ps) qs [] cs e = absurd (omega (arith, e))
with-append k (p ∷ ps) qs (b ∷ bs) cs e = with-step (p, b) (eqb p.column k) (pages_with k (ps ++ qs) (bs ++ cs)) (pages_with k ps bs)
    (pages_with k qs cs) (with-append k ps qs bs cs (omega (arith, e)))

pub pages-append : (k : ℕ) (ps qs : List PagePlace) (store : List ℕ)
    → pages_with k (ps ++ qs) (cut_up (ps ++ qs) store)
    ≡ pages_with k ps (cut_up ps store) ++ pages_with k qs (cut_up qs (drop (lens_of ps) store))
pages-append k ps qs store =
    ap (λ (l : List (List ℕ)). pages_with k (ps ++ qs) l) (cut-append ps qs store)
    ∙ with-append k ps qs (cut_up ps store) (cut_up qs (drop (lens_of ps) store)) (length-cut ps store)

-- pages of other columns are none of this
pub pages-none : (k : ℕ) (ps : List PagePlace) (bs : List (List ℕ))
    → ((m : ℕ) (d : PagePlace) → m < length ps → (get_or ps m d).column ≡ k → ⊥) → pages_with k ps bs ≡ []
pages-none k [] bs other = refl
pages-none k (p ∷ ps) [] other = refl
pages-none k (p ∷ ps) (b ∷ bs) other =
    let not : eqb p.column k ≡ false = ne_eqb p.column k (other 0 p (omega arith)) in
    rw not (pages-none k ps bs (λ m d lt. other (suc m) d (omega (arith, lt))))

-- pages of this column are all
pub pages-all : (k : ℕ) (ps : List PagePlace) (bs : List (List ℕ))
    → ((m : ℕ) (d : PagePlace) → m < length ps → (get_or ps m d).column ≡ k) → pages_with k ps bs ≡ zip ps bs
pages-all k [] bs same = refl
pages-all k (p ∷ ps) [] same = refl
pages-all k (p ∷ ps) (b ∷ bs) same =
    let is : eqb p.column k ≡ true = eq-eqb p.column k (same 0 p (omega arith)) in
    rw is (ap (λ (l : List (PagePlace × List ℕ)). (p, b) ∷ l) (pages-all k ps bs (λ m d lt. same (suc m) d (omega (arith, lt)))))

-- pages that stand in the store one behind the other have the elements of their places
pub elements-laid : (kind : ColumnType) (store : List ℕ) (ps : List PagePlace) (first at : ℕ)
    → ((m : ℕ) (d : PagePlace) → m < length ps → (get_or ps m d).kind ≡ kind)
    → ((m : ℕ) (d : PagePlace) → m < length ps → (get_or ps m d).size ≡ page_size (get_or ps m d).kind (get_or ps m d).count)
    → elements_with (pages_at store ps at) ≡ elements_of_pages kind store (laid_from first at ps)
elements-laid kind store [] first at same sized = refl
elements-laid kind store (p ∷ ps) first at same sized =
    let n = loaded_len p in
    let is : p.kind ≡ kind = same 0 p (omega arith) in
    let size : p.size ≡ page_size kind p.count = sized 0 p (omega arith) ∙ ap (λ (t : ColumnType). page_size t p.count) is in
    let bytes : take p.size (take n (drop at store)) ≡ take (page_size kind p.count) (drop at store) =
    take-take p.size n (drop at store) (size-le p.checked p.size) ∙ ap (λ (k : ℕ). take k (drop at store)) size in
    let head : stored_elements p (take n (drop at store)) ≡ page_elements kind p.count (take (page_size kind p.count) (drop at store)) =
    ap (λ (t : ColumnType). page_elements t p.count (take p.size (take n (drop at store)))) is
    ∙ ap (λ (l : List ℕ). page_elements kind p.count l) bytes in
    let tail : elements_with (zip ps (cut_up ps (drop n (drop at store))))
    ≡ elements_of_pages kind store (laid_from (first + p.count) (at + n) ps) =
    ap (λ (l : List ℕ). elements_with (zip ps (cut_up ps l))) (drop-drop n at store)
    ∙ elements-laid kind store ps (first + p.count) (at + n) (λ m d lt. same (suc m) d (omega (arith, lt)))
    (λ m d lt. sized (suc m) d (omega (arith, lt))) in
    ap (λ (l : List Element). l ++ elements_with (zip ps (cut_up ps (drop n (drop at store))))) head
    ∙ ap (λ (l : List Element). page_elements kind p.count (take (page_size kind p.count) (drop at store)) ++ l) tail
  where
    size-le : (checked : Bool) (size : ℕ) → size ≤ (if checked then size + 8 else size)
    size-le true size = omega arith
    size-le false size = omega arith

pub counts-laid : (store : List ℕ) (ps : List PagePlace) (first at : ℕ)
    → counts_with (pages_at store ps at) ≡ map (λ (p : PageAt). p.count) (laid_from first at ps)
counts-laid store [] first at = refl
counts-laid store (p ∷ ps) first at =
    ap (λ (l : List ℕ). p.count ∷ l) (ap (λ (l : List ℕ). counts_with (zip ps (cut_up ps l))) (drop-drop (loaded_len p) at store)
    ∙ counts-laid store ps (first + p.count) (at + loaded_len p))

pub length-laid : (ps : List PagePlace) (first at : ℕ) → length (laid_from first at ps) ≡ length ps
length-laid [] first at = refl
length-laid (p ∷ ps) first at = ap suc (length-laid ps (first + p.count) (at + loaded_len p))

pub count-laid : (ps : List PagePlace) (first at : ℕ) → count_of (laid_from first at ps) ≡ elements_counted ps
count-laid [] first at = refl
count-laid (p ∷ ps) first at =
    let rest = laid_from (first + p.count) (at + loaded_len p) ps in
    let head : PageAt = record { first = first; count = p.count; at = at } in
    sum_by-cons (λ (q : PageAt). q.count) head rest ∙ ap (λ (n : ℕ). p.count + n) (count-laid ps (first + p.count) (at + loaded_len p))
    ∙ sym (sum_by-cons (λ (q : PagePlace). q.count) p ps)

-- each place of such pages
pub at-laid : (ps : List PagePlace) (first at m : ℕ) (d : PageAt) → m < length ps
    → (get_or (laid_from first at ps) m d).at ≡ at + lens_of (take m ps)
at-laid [] first at m d lt = absurd (omega (arith, lt))
at-laid (p ∷ ps) first at zero d lt = omega arith
at-laid (p ∷ ps) first at (suc m) d lt = at-laid ps (first + p.count) (at + loaded_len p) m d (omega (arith, lt)) ∙ omega arith

-- how many elements are before each
pub first-laid : (ps : List PagePlace) (first at m : ℕ) (d : PageAt) → m < length ps
    → (get_or (laid_from first at ps) m d).first ≡ first + count_of (take m (laid_from first at ps))
first-laid [] first at m d lt = absurd (omega (arith, lt))
first-laid (p ∷ ps) first at zero d lt = omega arith
first-laid (p ∷ ps) first at (suc m) d lt =
    let rest = laid_from (first + p.count) (at + loaded_len p) ps in
    let head : PageAt = record { first = first; count = p.count; at = at } in
    omega (
      arith,
      first-laid ps (first + p.count) (at + loaded_len p) m d (omega (arith, lt)),
      sum_by-cons (λ (q : PageAt). q.count) head (take m rest),
    )

-- each page has its bytes before the end of all
pub end-laid : (ps : List PagePlace) (m : ℕ) (d : PagePlace) → m < length ps → lens_of (take m ps) + loaded_len (get_or ps m d) ≤ lens_of ps
end-laid [] m d lt = absurd (omega (arith, lt))
end-laid (p ∷ ps) zero d lt = omega arith
end-laid (p ∷ ps) (suc m) d lt = omega (arith, end-laid ps m d (omega (arith, lt)))

pub lens-append : (ps qs : List PagePlace) → lens_of (ps ++ qs) ≡ lens_of ps + lens_of qs
lens-append [] qs = omega arith
lens-append (p ∷ ps) qs = omega (arith, lens-append ps qs)
