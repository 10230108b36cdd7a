-- Bytes of a file that stand behind the pages so far, and pages that are taken of them.
use Rattle.std.proofs.Common.{◌≡◌, ℕ, ◌+◌, ◌-◌, ◌<◌, ◌≤◌, ◌⊎◌, Bool, true, false, leb, List, ◌++◌, length, take, drop}
use Rattle.std.proofs.Common.{Option, Some, None, Result, Ok, Err, refl, sym, ap, subst, ◌∙◌, inl, inr, arith}
use Rattle.std.proofs.lemmas.Bool.{leb-true, le-leb, lt-leb, true≢false}
use Rattle.std.proofs.lemmas.List.{take-take, drop-take, drop-drop, take_at, drop_at, length-drop, length-append}
use Rattle.std.proofs.lemmas.List.{length-take-le}
use Rattle.nt_outside.specs.declared.fault.Refused.{Refused}
use Rattle.nt_outside.specs.declared.fault.Refused.TheVariants as refused
use Rattle.nt_lists.specs.Chaining.{◌>>=◌}
use Rattle.nt_format.specs.Demands.{found_or}
use Rattle.nt_format.specs.Pieces.{piece}
use Rattle.nt_view.specs.declared.page_place.PagePlace.{PagePlace}
use Rattle.nt_view.specs.declared.fault.ViewFault.{ViewFault}
use Rattle.nt_view.specs.declared.fault.ViewFault.TheVariants.{OutOfFile, Checksum, Fault, Memory}
use Rattle.nt_view.specs.Loads.{loaded_len, found_bytes, checked_bytes, IsLoadedAs}
use Rattle.nt_view.specs.Refusals.{fault_of_refused}
use Rattle.nt_view.specs.Stores.{IsPageRun, with_page}

-- a longer run lies in the file, or it has no byte
pub run-more : (p : PagePlace) (size len more most : ℕ) → IsPageRun p size len → most ≤ size - p.place → len + more ≤ most
    → IsPageRun p size (len + more)
run-more p size len more most r few fits = record {
  first = omega (arith, r.first);
  inside = one (leb p.place size) refl;
}
  where
    one : (b : Bool) → leb p.place size ≡ b → (len + more ≡ loaded_len p) ⊎ (p.place + (len + more) ≤ size)
    one true e = let le : p.place ≤ size = leb-true _ _ e in inr (omega arith)
    one false e =
        let gt : size < p.place = omega (arith, λ (h : p.place ≤ size). true≢false (sym (le-leb _ _ h) ∙ e)) in
        let stored : loaded_len p ≤ len = r.first in
        inl (omega arith)

-- bytes that lie in a file are a piece of it
pub piece-is : (told : List ℕ) (at len : ℕ) → at + len ≤ length told → piece told at len ≡ Some (take len (drop at told))
unfolding piece
piece-is told at len within = rw (le-leb _ _ within) refl

-- others are none
pub piece-none : (told : List ℕ) (at len : ℕ) → length told < at + len → piece told at len ≡ None
unfolding piece
piece-none told at len past = rw (lt-leb _ _ past) refl

-- a page whose bytes stand behind the pages so far
pub next-found : (told bytes : List ℕ) (i : ℕ) (p : PagePlace) (taken place : ℕ) → place ≡ p.place → taken + loaded_len p ≤ length bytes
    → place + (length bytes - taken) ≤ length told → drop taken bytes ≡ take (length bytes - taken) (drop place told)
    → found_bytes told i p ≡ Ok (take (loaded_len p) (drop taken bytes))
next-found told bytes i p taken place here room within is =
    let len : loaded_len p ≤ length bytes - taken = omega (arith, room) in
    let same : take (loaded_len p) (drop p.place told) ≡ take (loaded_len p) (drop taken bytes) =
    ap (λ (k : ℕ). take (loaded_len p) (drop k told)) (sym here)
    ∙ sym (ap (λ (l : List ℕ). take (loaded_len p) l) is ∙ take-take (loaded_len p) (length bytes - taken) (drop place told) len) in
    ap (λ (o : Option (List ℕ)). found_or (OutOfFile i) o)
    (piece-is told p.place (loaded_len p) (omega (arith, here, within, len)) ∙ ap (λ (l : List ℕ). Some l) same)

-- a run that ends behind the file is that of a page that does
pub run-lost : (told : List ℕ) (i : ℕ) (p : PagePlace) (size len : ℕ) → size ≡ length told → IsPageRun p size len → size < p.place + len
    → found_bytes told i p ≡ Err (OutOfFile i)
run-lost told i p size len sized run past = one run.inside
  where
    one : (len ≡ loaded_len p) ⊎ (p.place + len ≤ size) → found_bytes told i p ≡ Err (OutOfFile i)
    one (inl same) = ap (λ (o : Option (List ℕ)). found_or (OutOfFile i) o)
        (piece-none told p.place (loaded_len p) (omega (arith, same, sized, past)))
    one (inr le) = absurd (omega (arith, le, past))

-- what was read behind the pages so far
pub read-behind : (old got new : List ℕ) (taken : ℕ) → taken ≤ length old → new ≡ take taken old ++ got → drop taken new ≡ got
read-behind old got new taken le is =
    ap (λ (l : List ℕ). drop taken l) is ∙ drop_at (take taken old) got taken (length-take-le taken old le)

pub read-kept : (old got new : List ℕ) (taken : ℕ) → taken ≤ length old → new ≡ take taken old ++ got → take taken new ≡ take taken old
read-kept old got new taken le is =
    ap (λ (l : List ℕ). take taken l) is ∙ take_at (take taken old) got taken (length-take-le taken old le)

-- all of a run in the file was read
pub read-whole : (told got : List ℕ) (at len : ℕ) → got ≡ take len (drop at told) → at + len ≤ length told → length got ≡ len
read-whole told got at len is within =
    ap (λ (l : List ℕ). length l) is ∙ length-take-le len (drop at told) (omega (arith, length-drop at told, within))

-- a page more is taken
pub ahead-on : (told bytes : List ℕ) (taken place n : ℕ) → taken + n ≤ length bytes
    → drop taken bytes ≡ take (length bytes - taken) (drop place told)
    → drop (taken + n) bytes ≡ take (length bytes - (taken + n)) (drop (place + n) told)
ahead-on told bytes taken place n room is =
    let rest : ℕ = length bytes - (taken + n) in
    let long : length bytes - taken ≡ n + rest = omega (arith, room) in
    sym (drop-drop n taken bytes) ∙ ap (λ (l : List ℕ). drop n l) is ∙ ap (λ (k : ℕ). drop n (take k (drop place told))) long
    ∙ drop-take n rest (drop place told) ∙ ap (λ (l : List ℕ). take rest l) (drop-drop n place told)

-- what a step answers, all answer
pub fails-as : {U V W X : Type 0} (one : U → V) (all : W → X) (e : ViewFault) (r : Result V ViewFault) (s : Result X ViewFault)
    → ((f : ViewFault) → r ≡ Err f → s ≡ Err f) → IsLoadedAs one (Err e) r → IsLoadedAs all (Err e) s
fails-as one all (OutOfFile i) r s step h = step (OutOfFile i) h
fails-as one all (Checksum i kept found) r s step h = step (Checksum i kept found) h
fails-as one all Fault r s step h = tt
fails-as one all Memory r s step h = tt

bind-err : {A B : Type 0} (r : Result A ViewFault) (f : A → Result B ViewFault) (e : ViewFault) → r ≡ Err e → (r >>= f) ≡ Err e
bind-err r f e h = rw h refl

-- a page that isn't in the file
pub place-fails : (told : List ℕ) (i : ℕ) (p : PagePlace) (before : List ℕ) (e : ViewFault) → found_bytes told i p ≡ Err e
    → with_page told i p before ≡ Err e
place-fails told i p before e h = rw h refl

-- a page whose checksum is another
pub sum-fails : (told : List ℕ) (i : ℕ) (p : PagePlace) (before stored : List ℕ) (e : ViewFault) → found_bytes told i p ≡ Ok stored
    → checked_bytes i p stored ≡ Err e → with_page told i p before ≡ Err e
sum-fails told i p before stored e found h = rw (found, h) refl

-- a page that is there, with its checksum
pub page-done : (told : List ℕ) (i : ℕ) (p : PagePlace) (before stored : List ℕ) → found_bytes told i p ≡ Ok stored
    → checked_bytes i p stored ≡ Ok stored → with_page told i p before ≡ Ok (before ++ stored)
page-done told i p before stored found h = rw (found, h) refl

-- where the outside refused, nothing is said of the file
pub refused-lost : {V W : Type 0} (view : V → W) (e : Refused) (f : ViewFault) (r : Result W ViewFault) → f ≡ fault_of_refused e
    → IsLoadedAs view (Err f) r
refused-lost {V = V} view refused.Failed f r is = subst (λ (x : ViewFault). IsLoadedAs {V = V} view (Err x) r) (sym is) tt
refused-lost {V = V} view refused.Memory f r is = subst (λ (x : ViewFault). IsLoadedAs {V = V} view (Err x) r) (sym is) tt

-- all of a run was read behind the pages so far
pub run-count : (told old mid new got : List ℕ) (place size len taken : ℕ) → size ≡ length told → place + len ≤ size
    → taken ≤ length old → mid ≡ take taken old → new ≡ mid ++ got → got ≡ take len (drop place told) → length new - taken ≡ len
run-count told old mid new got place size len taken sized within le front behind read =
    let long : length got ≡ len = read-whole told got place len read (omega (arith, sized, within)) in
    let whole : length new ≡ length mid + length got = ap (λ (l : List ℕ). length l) behind ∙ length-append mid got in
    omega (arith, long, whole, ap (λ (l : List ℕ). length l) front, length-take-le taken old le)

-- and so its first page is there
pub run-read : (told old mid new got : List ℕ) (i : ℕ) (p : PagePlace) (size len taken : ℕ) → size ≡ length told → IsPageRun p size len
    → p.place + len ≤ size → taken ≤ length old → mid ≡ take taken old → new ≡ mid ++ got → got ≡ take len (drop p.place told)
    → found_bytes told i p ≡ Ok (take (loaded_len p) (drop taken new))
run-read told old mid new got i p size len taken sized run within le front behind read =
    let count : length new - taken ≡ len = run-count told old mid new got p.place size len taken sized within le front behind read in
    let some : taken ≤ length new =
    omega (
      arith,
      ap (λ (l : List ℕ). length l) behind,
      length-append mid got,
      ap (λ (l : List ℕ). length l) front,
      length-take-le taken old le,
    ) in
    let there : drop taken new ≡ got = read-behind old got new taken le (behind ∙ ap (λ (l : List ℕ). l ++ got) front) in
    next-found told new i p taken p.place refl (omega (arith, run.first, count, some)) (omega (arith, count, sized, within))
    (there ∙ read ∙ ap (λ (k : ℕ). take k (drop p.place told)) (sym count))
