-- What was found in a file of pages that were loaded.
use Rattle.std.proofs.Common.{◌≡◌, ◌∙◌, ap, sym, refl, subst, ℕ, ◌+◌, Bool, true, false, List, [], ◌∷◌, take, drop, Option, Some, None, Ok}
use Rattle.std.specs.List.{zip}
use Rattle.std.proofs.lemmas.List.{take-take}
use Rattle.nt_lists.specs.Chaining.{◌>>=◌}
use Rattle.nt_lists.proofs.Chaining.{bind_ok}
use Rattle.nt_lists.proofs.Variants.{ok_is}
use Rattle.nt_format.specs.Demands.{demand, found_or}
use Rattle.nt_format.specs.Pieces.{piece}
use Rattle.nt_format.proofs.Pieces.{piece_window}
use Rattle.nt_types.specs.declared.column_type.ColumnType.{ColumnType}
use Rattle.nt_pagelists.specs.declared.page.PageItem.{PageItem}
use Rattle.nt_view.specs.declared.page_place.PagePlace.{PagePlace}
use Rattle.nt_view.specs.declared.fault.ViewFault.{ViewFault}
use Rattle.nt_view.specs.declared.fault.ViewFault.TheVariants as view
use Rattle.nt_view.specs.Loads.{loaded_len, page_found, pages_found, found_bytes, checked_bytes, sum_differs}
use Rattle.nt_view.specs.Stored.{has_its_sum}
use Rattle.nt_listing.specs.Listings.{place_of_page}
use Rattle.nt_copied.specs.Copies.{page_there}
use Rattle.nt_copying.specs.Copied.{copied_page, HaveTheirSums}
use Rattle.nt_copying.proofs.CopiedPages.{size-first}

pub record IsFound (file : List ℕ) (p : PagePlace) (b : List ℕ) : Type 0 where
  pub there : piece file p.place (loaded_len p) ≡ Some b
  pub sum : has_its_sum p.checked p.size b ≡ true

abbrev pub AreFound : List ℕ → List PagePlace → List (List ℕ) → Type 0
AreFound file [] [] = Unit {0}
AreFound file [] (b ∷ bs) = ⊥
AreFound file (p ∷ ps) [] = ⊥
AreFound file (p ∷ ps) (b ∷ bs) = IsFound file p b × AreFound file ps bs

there-found : (e : ViewFault) (o : Option (List ℕ)) (b : List ℕ) → found_or e o ≡ Ok b → o ≡ Some b
there-found e (Some x) b is = ap (λ (y : List ℕ). Some y) (ok_is x b is)
there-found e None b is = absurd (cc is)

passed : (e : ViewFault) (t : Bool) (u : Unit {0}) → demand t e ≡ Ok u → t ≡ true
passed e true u is = refl
passed e false u is = absurd (cc is)

page-found : (file : List ℕ) (i : ℕ) (p : PagePlace) (b : List ℕ) → page_found file i p ≡ Ok b → IsFound file p b
page-found file i p b is =
    let first = bind_ok (found_bytes file i p) (checked_bytes i p) b is in
    let next = bind_ok (demand (has_its_sum p.checked p.size first.0) (sum_differs i p first.0)) (λ u. Ok first.0) b first.2 in
    let same : first.0 ≡ b = ok_is first.0 b next.2 in
    record {
      there = there-found (view.OutOfFile i) (piece file p.place (loaded_len p)) first.0 first.1 ∙ ap (λ (x : List ℕ). Some x) same;
      sum = ap (λ (x : List ℕ). has_its_sum p.checked p.size x) (sym same)
          ∙ passed (sum_differs i p first.0) (has_its_sum p.checked p.size first.0) next.0 next.1;
    }

pub pages-found : (file : List ℕ) (i : ℕ) (ps : List PagePlace) (bs : List (List ℕ)) → pages_found file i ps ≡ Ok bs → AreFound file ps bs
pages-found file i [] [] is = tt
pages-found file i [] (b ∷ bs) is = absurd (cc (ok_is [] (b ∷ bs) is))
pages-found file i (p ∷ ps) bs is =
    let first = bind_ok (page_found file i p) _ bs is in
    let next = bind_ok (pages_found file (i + 1) ps) _ bs first.2 in
    subst (AreFound file (p ∷ ps)) (ok_is (first.0 ∷ next.0) bs next.2)
    (page-found file i p first.0 first.1, pages-found file (i + 1) ps next.0 next.1)

pub sums-found : (file : List ℕ) (ps : List PagePlace) (bs : List (List ℕ)) → AreFound file ps bs → HaveTheirSums (zip ps bs)
sums-found file [] [] found = tt
sums-found file [] (b ∷ bs) found = absurd found
sums-found file (p ∷ ps) [] found = absurd found
sums-found file (p ∷ ps) (b ∷ bs) found = (found.0.sum, sums-found file ps bs found.1)

-- a page is copied as it is stored there
pub copied-there : (file : List ℕ) (id : ℕ) (kind : ColumnType) (p : PageItem) (b : List ℕ) → IsFound file (place_of_page id kind p) b
    → copied_page (place_of_page id kind p, b) ≡ page_there file p
copied-there file id kind p b found =
    let len = loaded_len (place_of_page id kind p) in
    let whole : take len (drop p.place file) ≡ b = piece_window file b p.place len found.there in
    ap (λ (x : List ℕ). record { count = p.count; bytes = x })
    (ap (λ (x : List ℕ). take p.size x) (sym whole) ∙ take-take p.size len (drop p.place file) (size-first p.checked p.size))
