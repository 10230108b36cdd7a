-- Loaded pages that are copied one after the other.
use Rattle.std.proofs.Common.{◌≡◌, ◌∙◌, ap, sym, refl, subst, ℕ, zero, suc, ◌+◌, ◌-◌, ◌<◌, ◌≤◌, ◌*◌, ◌^◌, Bool, true, false, cond}
use Rattle.std.proofs.Common.{eqb, eq-eqb, ne_eqb, List, [], ◌∷◌, ◌++◌, length, take, drop, get_or, arith, append_assoc, append-nil}
use Rattle.std.specs.Prelude.{◌||◌, nat_eq, not, slice_get, Some, min}
use Rattle.std.proofs.lemmas.Option.{slice_get_within, get_or_from_slice_get}
use Rattle.std.proofs.lemmas.Slice.Zip.{get_or-zip, length-zip}
use Rattle.std.specs.Int.{w64, to_le_bytes, from_le_bytes}
use Rattle.std.specs.List.{AllByRecursion, slice_range, zip}
use Rattle.std.proofs.lemmas.Bool.{eqb-true}
use Rattle.std.proofs.lemmas.List.{length-append, length-drop, length-take-le, take-append-drop, get_or-drop, drop_more, take_all}
use Rattle.nt_types.specs.declared.column_type.ColumnType.{ColumnType}
use Rattle.nt_types.specs.declared.column_type.ColumnType.TheVariants.{Bit, Switch}
use Rattle.nt_encode.specs.Pages.{page_size}
use Rattle.nt_xxh3.specs.Sum.{xxh3}
use Rattle.nt_format.specs.Reading.{IsBytes}
use Rattle.nt_format.proofs.Numbers.{little_64}
use Rattle.nt_book.specs.declared.meta.PageMeta.{PageMeta}
use Rattle.nt_view.specs.declared.page_place.PagePlace.{PagePlace}
use Rattle.nt_view.specs.Loaded.{Loaded}
use Rattle.nt_view.specs.Loads.{loaded_len}
use Rattle.nt_view.specs.Stored.{len_with_sum, has_its_sum, sum_behind}
use Rattle.nt_copied.specs.Stored.{StoredPage, with_sum, stored_column, stored_page_metas, IsSoundPage, AreSoundPages}
use Rattle.nt_copied.proofs.CopiedPages.{length-with_sum}
use Rattle.nt_copying.specs.Copied.{copied_page, copied_pages, HasItsSum, HaveTheirSums, AppendsWhere, no_loaded, loaded_page, all_loaded}
use Rattle.nt_copying.specs.Copied.{loaded_part}

-- ---- one page

pub size-first : (checked : Bool) (size : ℕ) → size ≤ len_with_sum checked size
size-first true size = omega arith
size-first false size = omega arith

pub length-copied : (p : PagePlace) (stored : List ℕ) → length stored ≡ loaded_len p → length (take p.size stored) ≡ p.size
length-copied p stored long = length-take-le p.size stored (omega (arith, long, size-first p.checked p.size))

-- the bytes of a page and the checksum that was compared with them
pub sum-stored : (p : PagePlace) (stored : List ℕ) → p.checked ≡ true → length stored ≡ loaded_len p → IsBytes stored
    → HasItsSum (p, stored) → stored ≡ with_sum (copied_page (p, stored))
sum-stored p stored checked long bytes sum =
    let whole : length stored ≡ p.size + 8 = long ∙ ap (λ (b : Bool). len_with_sum b p.size) checked in
    let tested : nat_eq (sum_behind p.size stored) (xxh3 (take p.size stored)) ≡ true =
    subst (λ (b : Bool). (not b || nat_eq (sum_behind p.size stored) (xxh3 (take p.size stored))) ≡ true) checked sum in
    let same : sum_behind p.size stored ≡ xxh3 (take p.size stored) = eqb-true _ _ tested in
    let behind : to_le_bytes w64 (xxh3 (take p.size stored)) ≡ drop p.size stored =
    ap (λ (n : ℕ). to_le_bytes w64 n) (sym same)
    ∙ little_64.back (drop p.size stored) (omega (arith, length-drop p.size stored, whole)) (bytes-behind p.size stored bytes) in
    sym (take-append-drop p.size stored) ∙ ap (λ (l : List ℕ). take p.size stored ++ l) (sym behind)
  where
    bytes-behind : (n : ℕ) (l : List ℕ) → IsBytes l → IsBytes (drop n l)
    bytes-behind n l is i = rw (get_or-drop n l i 0) (is (n + i))

-- a page without one
pub none-stored : (p : PagePlace) (stored : List ℕ) → p.checked ≡ false → length stored ≡ loaded_len p → take p.size stored ≡ stored
none-stored p stored not long =
    take_all p.size stored (omega (arith, long ∙ ap (λ (b : Bool). len_with_sum b p.size) not))

pub long-stored : (p : PagePlace) (stored : List ℕ) → p.checked ≡ true → length stored ≡ loaded_len p
    → length stored ≡ length (with_sum (copied_page (p, stored)))
long-stored p stored checked long =
    omega (
      arith,
      long ∙ ap (λ (b : Bool). len_with_sum b p.size) checked,
      length-with_sum (copied_page (p, stored)),
      length-copied p stored long,
    )

-- what is kept of a page
abbrev kept_of : ℕ → ℕ → ℕ → PageMeta
kept_of count at size = record { count = count; place = at - 42; size = size }

pub meta-is : (e : PagePlace × List ℕ) (p : PagePlace) (stored : List ℕ) (n m : ℕ) → e ≡ (p, stored) → length stored ≡ loaded_len p
    → n ≡ m → kept_of p.count n p.size ≡ kept_of (copied_page e).count m (length (copied_page e).bytes)
meta-is e p stored n m is long same =
    ap (λ (x : ℕ). kept_of p.count n x) (sym (length-copied p stored long))
    ∙ ap (λ (y : ℕ). kept_of p.count y (length (copied_page (p, stored)).bytes)) same
    ∙ ap (λ (x : PagePlace × List ℕ). kept_of (copied_page x).count m (length (copied_page x).bytes)) (sym is)

bits-some : (kind : ColumnType) (n : ℕ) → n ≤ 8 * page_size kind n
bits-some Bit n = omega arith
bits-some Switch n = omega arith
bits-some kind n = omega arith

pub page-sound : (p : PagePlace) (stored : List ℕ) → p.size ≡ page_size p.kind p.count → length stored ≡ loaded_len p → p.count < 2 ^ 31
    → IsSoundPage (copied_page (p, stored))
page-sound p stored sized long few =
    record { count = few; bits = omega (arith, length-copied p stored long, sized, bits-some p.kind p.count) }

-- ---- a part of pages

pub part-next : {A : Type 0} (xs : List A) (i to : ℕ) (d : A) → i < to → to ≤ length xs
    → slice_range xs i to ≡ get_or xs i d ∷ slice_range xs (i + 1) to
part-next {A = A} xs i to d lt le =
    let n : to - i ≡ suc (to - (i + 1)) = omega (arith, lt) in
    ap (λ (l : List A). take (to - i) l) (drop_more xs i d (omega (arith, lt, le)))
    ∙ ap (λ (k : ℕ). take k (get_or xs i d ∷ drop (i + 1) xs)) n

pub part-none : {A : Type 0} (xs : List A) (i : ℕ) → slice_range xs i i ≡ []
part-none {A = A} xs i = let n : i - i ≡ 0 = omega arith in ap (λ (k : ℕ). take k (drop i xs)) n

-- what is still to copy of some pages, behind bytes
pub record GoesOn (all left : List (PagePlace × List ℕ)) (start now : List ℕ) : Type 0 where
  pub len : length now + length (stored_column (copied_pages left)) ≡ length start + length (stored_column (copied_pages all))
  pub bytes : HaveTheirSums all → now ++ stored_column (copied_pages left) ≡ start ++ stored_column (copied_pages all)
  pub sums : HaveTheirSums all → HaveTheirSums left

pub goes-from : (all : List (PagePlace × List ℕ)) (start : List ℕ) → GoesOn all all start start
goes-from all start = record { len = refl; bytes = λ sums. refl; sums = λ sums. sums }

-- nothing is left
pub goes-end : (all left : List (PagePlace × List ℕ)) (start now : List ℕ) → left ≡ [] → GoesOn all left start now
    → AppendsWhere (HaveTheirSums all) (stored_column (copied_pages all)) start now
goes-end all left start now none goes = record {
  len = omega (arith, goes.len, ap (λ (l : List (PagePlace × List ℕ)). length (stored_column (copied_pages l))) none);
  bytes = λ sums.
      sym (append-nil now)
      ∙ ap (λ (l : List (PagePlace × List ℕ)). now ++ stored_column (copied_pages l)) (sym none)
      ∙ goes.bytes sums;
}

module _ (all left rest : List (PagePlace × List ℕ)) (e : PagePlace × List ℕ) (start now : List ℕ) (next : left ≡ e ∷ rest)
    (goes : GoesOn all left start now) where
  -- a page without elements
  pub goes-empty : e.0.count ≡ 0 → GoesOn all rest start now
  goes-empty none =
      let is : eqb e.0.count 0 ≡ true = eq-eqb e.0.count 0 none in
      let same : copied_pages left ≡ copied_pages rest =
      ap copied_pages next
      ∙ ap (λ (b : Bool). cond b (copied_pages rest) (copied_page e ∷ copied_pages rest)) is in
      record {
        len = ap (λ (l : List StoredPage). length now + length (stored_column l)) (sym same) ∙ goes.len;
        bytes = λ sums. ap (λ (l : List StoredPage). now ++ stored_column l) (sym same) ∙ goes.bytes sums;
        sums = λ sums. (subst HaveTheirSums next (goes.sums sums)).1;
      }

  -- a page that is copied
  pub goes-more : (e.0.count ≡ 0 → ⊥) → (more : List ℕ) → AppendsWhere (HasItsSum e) (with_sum (copied_page e)) now more
      → GoesOn all rest start more
  goes-more some more appends =
      let is : eqb e.0.count 0 ≡ false = ne_eqb e.0.count 0 some in
      let same : copied_pages left ≡ copied_page e ∷ copied_pages rest =
      ap copied_pages next
      ∙ ap (λ (b : Bool). cond b (copied_pages rest) (copied_page e ∷ copied_pages rest)) is in
      record {
        len = omega (
          arith,
          appends.len,
          goes.len,
          ap (λ (l : List StoredPage). length (stored_column l)) same,
          length-append (with_sum (copied_page e)) (stored_column (copied_pages rest)),
        );
        bytes = λ sums.
            let own = subst HaveTheirSums next (goes.sums sums) in
            ap (λ (l : List ℕ). l ++ stored_column (copied_pages rest)) (appends.bytes own.0)
            ∙ append_assoc now (with_sum (copied_page e)) (stored_column (copied_pages rest))
            ∙ ap (λ (l : List StoredPage). now ++ stored_column l) (sym same)
            ∙ goes.bytes sums;
        sums = λ sums. (subst HaveTheirSums next (goes.sums sums)).1;
      }

-- the metas of what is left, behind those so far
pub metas-empty : (left rest : List (PagePlace × List ℕ)) (e : PagePlace × List ℕ) (place : ℕ) (metas all : List PageMeta)
    → left ≡ e ∷ rest → e.0.count ≡ 0 → metas ++ stored_page_metas place (copied_pages left) ≡ all
    → metas ++ stored_page_metas place (copied_pages rest) ≡ all
metas-empty left rest e place metas all next none before =
    let is : eqb e.0.count 0 ≡ true = eq-eqb e.0.count 0 none in
    ap (λ (l : List StoredPage). metas ++ stored_page_metas place l)
    (sym (ap copied_pages next ∙ ap (λ (b : Bool). cond b (copied_pages rest) (copied_page e ∷ copied_pages rest)) is))
    ∙ before

pub metas-more : (left rest : List (PagePlace × List ℕ)) (e : PagePlace × List ℕ) (place after : ℕ) (metas pushed all : List PageMeta)
    (m : PageMeta) → left ≡ e ∷ rest → (e.0.count ≡ 0 → ⊥) → metas ++ stored_page_metas place (copied_pages left) ≡ all
    → m ≡ record { count = (copied_page e).count; place = place; size = length (copied_page e).bytes }
    → after ≡ place + length (with_sum (copied_page e)) → pushed ≡ metas ++ m ∷ []
    → pushed ++ stored_page_metas after (copied_pages rest) ≡ all
metas-more left rest e place after metas pushed all m next some before is place_is push =
    let t : eqb e.0.count 0 ≡ false = ne_eqb e.0.count 0 some in
    let own : PageMeta = record { count = (copied_page e).count; place = place; size = length (copied_page e).bytes } in
    ap (λ (n : ℕ). pushed ++ stored_page_metas n (copied_pages rest)) place_is
    ∙ ap (λ (l : List PageMeta). l ++ stored_page_metas (place + length (with_sum (copied_page e))) (copied_pages rest))
    (push ∙ ap (λ (x : PageMeta). metas ++ x ∷ []) is)
    ∙ append_assoc metas (own ∷ []) (stored_page_metas (place + length (with_sum (copied_page e))) (copied_pages rest))
    ∙ ap (λ (l : List StoredPage). metas ++ stored_page_metas place l)
    (sym (ap copied_pages next ∙ ap (λ (b : Bool). cond b (copied_pages rest) (copied_page e ∷ copied_pages rest)) t))
    ∙ before

-- ---- pages that a book takes

pub sound-empty : (left rest : List (PagePlace × List ℕ)) (e : PagePlace × List ℕ) → left ≡ e ∷ rest → e.0.count ≡ 0
    → AreSoundPages (copied_pages rest) → AreSoundPages (copied_pages left)
sound-empty left rest e next none sound =
    let is : eqb e.0.count 0 ≡ true = eq-eqb e.0.count 0 none in
    subst AreSoundPages
    (sym (ap copied_pages next ∙ ap (λ (b : Bool). cond b (copied_pages rest) (copied_page e ∷ copied_pages rest)) is)) sound

pub sound-more : (left rest : List (PagePlace × List ℕ)) (e : PagePlace × List ℕ) → left ≡ e ∷ rest → (e.0.count ≡ 0 → ⊥)
    → IsSoundPage (copied_page e) → AreSoundPages (copied_pages rest) → AreSoundPages (copied_pages left)
sound-more left rest e next some own sound =
    let is : eqb e.0.count 0 ≡ false = ne_eqb e.0.count 0 some in
    subst AreSoundPages
    (sym (ap copied_pages next ∙ ap (λ (b : Bool). cond b (copied_pages rest) (copied_page e ∷ copied_pages rest)) is)) (own, sound)

-- ---- pages of a loaded cluster

pub page-is : (l : Loaded) (i : ℕ) (p : PagePlace) (stored : List ℕ) → slice_get l.pages i ≡ Some p → slice_get l.stored i ≡ Some stored
    → loaded_page l i ≡ (p, stored)
page-is l i p stored at bytes =
    get_or-zip l.pages l.stored i no_loaded (slice_get_within l.pages i p at) (slice_get_within l.stored i stored bytes)
    ∙ ap (λ (x : PagePlace). (x, get_or l.stored i [])) (get_or_from_slice_get l.pages i p no_loaded.0 at)
    ∙ ap (λ (x : List ℕ). (p, x)) (get_or_from_slice_get l.stored i stored [] bytes)

-- what is left of a part begins with the page at its place
pub part-at : (l : Loaded) (i to : ℕ) (p : PagePlace) → length l.stored ≡ length l.pages → slice_get l.pages i ≡ Some p → i < to
    → to ≤ length l.pages
    → (loaded_part l i to ≡ loaded_page l i ∷ loaded_part l (i + 1) to) × ((loaded_page l i).0 ≡ p)
part-at l i to p long at less le =
    let within : i < length l.pages = omega (arith, less, le) in
    let all : length (all_loaded l) ≡ length l.pages =
    length-zip l.pages l.stored ∙ omega (arith, long) in (
      part-next (all_loaded l) i to no_loaded less (omega (arith, all, le)),
      ap (λ (e : PagePlace × List ℕ). e.0) (get_or-zip l.pages l.stored i no_loaded within (omega (arith, within, long)))
          ∙ get_or_from_slice_get l.pages i p no_loaded.0 at,
    )
