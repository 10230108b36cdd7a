-- Pages that are loaded at once, and the faults of a cluster that they give.
use Rattle.std.proofs.Common.{◌≡◌, ℕ, suc, ◌+◌, Bool, true, false, List, [], ◌∷◌, take, slice_get, Option, Some, None, Result, Ok, Err}
use Rattle.std.proofs.Common.{refl, sym, ap, subst, arith}
use Rattle.nt_num.specs.Codes.{out_of_file, bad_page}
use Rattle.nt_num.specs.Faults.{fault, with_values}
use Rattle.nt_num.specs.declared.fault.ReadError.{ReadError}
use Rattle.nt_xxh3.specs.Sum.{xxh3}
use Rattle.nt_lists.specs.Chaining.{◌>>=◌}
use Rattle.nt_lists.proofs.Chaining.{bind_ok}
use Rattle.nt_lists.proofs.Variants.{ok_is}
use Rattle.nt_format.specs.Demands.{demand, found_or}
use Rattle.nt_format.specs.Pieces.{piece}
use Rattle.nt_pagelists.specs.Columns.{in_column}
use Rattle.nt_tfile.specs.declared.failure.ReadFailure.{ReadFailure}
use Rattle.nt_tfile.specs.declared.failure.ReadFailure.TheVariants.{Defect}
use Rattle.nt_tfile.specs.declared.failure.ReadFailure.TheVariants as failure
use Rattle.nt_tfile.specs.Calls.{IsReadOrFails}
use Rattle.nt_view.specs.declared.page_place.PagePlace.{PagePlace}
use Rattle.nt_view.specs.declared.fault.ViewFault.{ViewFault}
use Rattle.nt_view.specs.declared.fault.ViewFault.TheVariants as view
use Rattle.nt_view.specs.Loads.{loaded_len, checked_bytes, page_found, pages_found, sum_differs, load_of, IsLoadedAs}
use Rattle.nt_view.specs.Loaded.{Loaded, loaded_with}
use Rattle.nt_view.specs.Stored.{sum_behind, has_its_sum}
use Rattle.nt_view.specs.declared.page_place.ZeroColumn.{ZeroColumn}
use Rattle.nt_listing.specs.Listings.{page_kept, pages_kept}
use Rattle.nt_listing.specs.Listed.{IsLoadFailure}

-- what is found of pages is what is stored of them in the cluster of this number; and where a page has a fault, so has the cluster
abbrev Matches : {V : Type 0} → ℕ → List PagePlace → Result V ViewFault → Result V ReadError → Type 0
Matches number all (Ok x) s = s ≡ Ok x
Matches {V = V} number all (Err v) s = (failure : ReadFailure) → IsLoadFailure number all v failure
    → IsReadOrFails {V = V} {W = V} (λ x. x) (Err failure) s

-- of a page that has a fault
failed : {V : Type 0} (failure : ReadFailure) (e : ReadError) (s : Result V ReadError) → failure ≡ Defect e → s ≡ Err e
    → IsReadOrFails {V = V} {W = V} (λ x. x) (Err failure) s
failed {V = V} failure e s is h = subst (λ (f : ReadFailure). IsReadOrFails {V = V} {W = V} (λ x. x) (Err f) s) (sym is) h

page-matches : (file : List ℕ) (number i : ℕ) (all : List PagePlace) (p : PagePlace) → slice_get all i ≡ Some p
    → Matches number all (page_found file i p) (page_kept file number p)
page-matches file number i all p at = found (piece file p.place (loaded_len p))
  where
    f : List ℕ → ReadError
    f stored = in_column number p.column (with_values (sum_behind p.size stored) (xxh3 (take p.size stored)) (fault bad_page p.place))

    checked : (stored : List ℕ) (b : Bool)
        → Matches number all (demand b (sum_differs i p stored) >>= λ u. Ok stored) (demand b (f stored) >>= λ u. Ok stored)
    checked stored true = refl
    checked stored false = λ failure is. failed failure (f stored) (Err (f stored)) (is p at) refl

    found : (o : Option (List ℕ))
        → Matches number all (found_or (view.OutOfFile i) o >>= checked_bytes i p)
        (found_or (in_column number p.column (fault out_of_file p.place)) o >>= λ stored. demand (has_its_sum p.checked p.size stored)
        (f stored)
        >>= λ u. Ok stored)
    found (Some stored) = checked stored (has_its_sum p.checked p.size stored)
    found None = λ failure is. failed failure (in_column number p.column (fault out_of_file p.place)) _ (is p at) refl

-- what fails in a step fails in all
fails-on : {V W : Type 0} (number : ℕ) (all : List PagePlace) (failure : ReadFailure) (s : Result V ReadError) (f : V → Result W ReadError)
    → IsReadOrFails {V = V} {W = V} (λ x. x) (Err failure) s → IsReadOrFails {V = W} {W = W} (λ x. x) (Err failure) (s >>= f)
fails-on {V = V} number all (Defect e) s f h = ap (λ (r : Result V ReadError). r >>= f) h
fails-on number all failure.Fault s f h = tt
fails-on number all failure.Memory s f h = tt

step : {V W : Type 0} (number : ℕ) (all : List PagePlace) (r : Result V ViewFault) (s : Result V ReadError) (f : V → Result W ViewFault)
    (g : V → Result W ReadError) → Matches number all r s → ((x : V) → Matches number all (f x) (g x))
    → Matches number all (r >>= f) (s >>= g)
step {W = W} number all (Ok x) s f g h next =
    subst (λ (t : Result _ ReadError). Matches number all (f x) (t >>= g)) (sym h) (next x)
step number all (Err v) s f g h next = λ failure is. fails-on number all failure s g (h failure is)

pub pages-match : (file : List ℕ) (number i : ℕ) (all ps : List PagePlace)
    → ((j : ℕ) (p : PagePlace) → slice_get ps j ≡ Some p → slice_get all (i + j) ≡ Some p)
    → Matches number all (pages_found file i ps) (pages_kept file number ps)
pages-match file number i all [] at = refl
pages-match file number i all (p ∷ ps) at =
    let here : i + 0 ≡ i = omega arith in
    step number all (page_found file i p) (page_kept file number p) _ _ (page-matches file number i all p (rw here at (at 0 p refl)))
    (λ first. step number all (pages_found file (i + 1) ps) (pages_kept file number ps) _ _
    (pages-match file number (i + 1) all ps (λ j q is. let next : i + suc j ≡ i + 1 + j = omega arith in rw next at (at (suc j) q is)))
    (λ others. refl))

all-match : (file : List ℕ) (number : ℕ) (ps : List PagePlace) → Matches number ps (pages_found file 0 ps) (pages_kept file number ps)
all-match file number ps = pages-match file number 0 ps ps (λ j p is. let here : 0 + j ≡ j = omega arith in rw here is)

-- pages that were loaded
pub loaded-stored : (file : List ℕ) (number : ℕ) (ps : List PagePlace) (zs : List ZeroColumn) (l : Loaded) → load_of file ps zs ≡ Ok l
    → (bs : List (List ℕ)) × (pages_kept file number ps ≡ Ok bs) × (loaded_with ps bs zs ≡ l)
loaded-stored file number ps zs l h =
    let found = bind_ok (pages_found file 0 ps) _ l h in (
      found.0,
      matched (pages_found file 0 ps) (pages_kept file number ps) found.0 found.1 (all-match file number ps),
      ok_is _ _ found.2,
    )
  where
    matched : (r : Result (List (List ℕ)) ViewFault) (s : Result (List (List ℕ)) ReadError) (bs : List (List ℕ)) → r ≡ Ok bs
        → Matches number ps r s → s ≡ Ok bs
    matched r s bs is m = rw is at m

-- pages that were not
pub load-fails : (file : List ℕ) (number : ℕ) (ps : List PagePlace) (zs : List ZeroColumn) (v : ViewFault) (failure : ReadFailure)
    → IsLoadedAs {V = Loaded} (λ l. l) (Err v) (load_of file ps zs) → IsLoadFailure number ps v failure
    → IsReadOrFails {V = List (List ℕ)} {W = List (List ℕ)} (λ x. x) (Err failure) (pages_kept file number ps)
load-fails file number ps zs v failure loaded is = by_fault v loaded is
  where
    matched : (v : ViewFault) (r : Result (List (List ℕ)) ViewFault) (s : Result (List (List ℕ)) ReadError)
        → (r >>= λ bs. Ok (loaded_with ps bs zs)) ≡ Err v → Matches number ps r s → IsLoadFailure number ps v failure
        → IsReadOrFails {V = List (List ℕ)} {W = List (List ℕ)} (λ x. x) (Err failure) s
    matched v (Ok bs) s h m is = absurd cc
    matched v (Err w) s h m is = let same : w ≡ v = cc in m failure (rw same is)

    by_fault : (v : ViewFault) → IsLoadedAs {V = Loaded} (λ l. l) (Err v) (load_of file ps zs) → IsLoadFailure number ps v failure
        → IsReadOrFails {V = List (List ℕ)} {W = List (List ℕ)} (λ x. x) (Err failure) (pages_kept file number ps)
    by_fault (view.OutOfFile i) h is =
        matched (view.OutOfFile i) (pages_found file 0 ps) (pages_kept file number ps) h (all-match file number ps) is
    by_fault (view.Checksum i kept found) h is =
        matched (view.Checksum i kept found) (pages_found file 0 ps) (pages_kept file number ps) h (all-match file number ps) is
    by_fault view.Fault h is =
        subst (λ (f : ReadFailure). IsReadOrFails {V = List (List ℕ)} {W = List (List ℕ)} (λ x. x) (Err f) (pages_kept file number ps))
        (sym is) tt
    by_fault view.Memory h is =
        subst (λ (f : ReadFailure). IsReadOrFails {V = List (List ℕ)} {W = List (List ℕ)} (λ x. x) (Err f) (pages_kept file number ps))
        (sym is) tt
