-- Pages in the bytes of a file that were read at once.
use Rattle.std.proofs.Common.{◌≡◌, ℕ, ◌+◌, ◌-◌, ◌<◌, ◌≤◌, ◌⊎◌, Bool, true, false, leb, List, [], ◌++◌, length, take, drop}
use Rattle.std.proofs.Common.{Option, Some, Ok, Err, refl, sym, ap, subst, ◌∙◌, inl, inr, arith}
use Rattle.std.proofs.lemmas.Bool.{leb-true, le-leb, lt-leb, true≢false}
use Rattle.std.proofs.lemmas.Option.{cond_some}
use Rattle.std.proofs.lemmas.List.{take-take, take_at, drop-take, drop-drop, length-take-le, length-drop}
use Rattle.nt_num.specs.declared.fault.ReadError.{ReadError}
use Rattle.nt_format.specs.Demands.{found_or}
use Rattle.nt_format.specs.Pieces.{piece}
use Rattle.nt_pagelists.specs.declared.page.PageItem.{PageItem}
use Rattle.nt_file_meaning.specs.Clusters.{stored_len}
use Rattle.nt_decoded.specs.declared.window.Window.{Window}
use Rattle.nt_decoded.specs.Windows.{LiesIn, IsReadAtOnce, held, window_bytes, found_page}

-- a longer run lies in the file, or it has no byte
pub run-more : (p : PageItem) (size len more most : ℕ) → IsReadAtOnce p size len → most ≤ size - p.place → len + more ≤ most
    → IsReadAtOnce p size (len + more)
run-more p size len more most r few fits = record {
  first = omega (arith, r.first);
  inside = one (leb p.place size) refl;
}
  where
    one : (b : Bool) → leb p.place size ≡ b → (len + more ≡ stored_len p) ⊎ (p.place + (len + more) ≤ size)
    one true e = let le : p.place ≤ size = leb-true _ _ e in inr (omega arith)
    one false e =
        let gt : size < p.place = omega (arith, λ (h : p.place ≤ size). true≢false (sym (le-leb _ _ h) ∙ e)) in
        let stored : stored_len p ≤ len = r.first in
        inl (omega arith)

-- what stands inside of a piece
pub piece-inside : (told bytes : List ℕ) (at len from n : ℕ) → piece told at len ≡ Some bytes → from + n ≤ len
    → piece told (at + from) n ≡ Some (take n (drop from bytes))
unfolding piece
piece-inside told bytes at len from n there fits =
    let parts = cond_some (leb (at + len) (length told)) (take len (drop at told)) bytes there in
    let within : at + len ≤ length told = leb-true _ _ parts.0 in
    let test : leb (at + from + n) (length told) ≡ true = le-leb _ _ (omega arith) in
    let long : len ≡ from + (len - from) = omega arith in
    let inner : drop from bytes ≡ take (len - from) (drop (at + from) told) =
    ap (λ (l : List ℕ). drop from l) (sym parts.1) ∙ ap (λ (k : ℕ). drop from (take k (drop at told))) long
    ∙ drop-take from (len - from) (drop at told)
    ∙ ap (λ (l : List ℕ). take (len - from) l) (drop-drop from at told) in
    let same : take n (drop (at + from) told) ≡ take n (drop from bytes) = sym (ap (λ (l : List ℕ). take n l) inner
    ∙ take-take n (len - from) (drop (at + from) told) (omega arith)) in
    rw test (ap (λ (l : List ℕ). Some l) same)

-- a page that lies in a window
pub page-there : (told : List ℕ) (p : PageItem) (w : Window) → LiesIn p w → piece told w.at (length (held w)) ≡ Some (held w)
    → piece told p.place (stored_len p) ≡ Some (window_bytes w p)
page-there told p w lies there =
    let low : w.at ≤ p.place = lies.behind in
    let high : p.place + stored_len p ≤ w.at + length (held w) = lies.before in
    let split : w.at + (p.place - w.at) ≡ p.place = omega arith in
    ap (λ (n : ℕ). piece told n (stored_len p)) (sym split)
    ∙ piece-inside told (held w) w.at (length (held w)) (p.place - w.at) (stored_len p) there (omega arith)

pub page-found : (told : List ℕ) (outside : ReadError) (p : PageItem) (w : Window) → LiesIn p w
    → piece told w.at (length (held w)) ≡ Some (held w)
    → found_page outside p told ≡ Ok (window_bytes w p)
page-found told outside p w lies there = ap (λ (o : Option (List ℕ)). found_or outside o) (page-there told p w lies there)

-- the front of a list that was read anew is a window of the file
pub window-front : (told read tail : List ℕ) (at len all size n : ℕ) → size ≡ length told → at + len ≤ size → length read ≡ all → n ≡ len
    → take n read ≡ take n (drop at told)
    → piece told at (length (take len (take all (read ++ tail)))) ≡ Some (take len (take all (read ++ tail)))
unfolding piece
window-front told read tail at len all size n sized inside long whole same =
    let front : take len (take all (read ++ tail)) ≡ take len (drop at told) =
    ap (λ (l : List ℕ). take len l) (take_at read tail all long)
    ∙ subst (λ (k : ℕ). take k read ≡ take k (drop at told)) whole same in
    let count : length (take len (drop at told)) ≡ len =
    length-take-le len (drop at told) (omega (arith, sized, inside, length-drop at told)) in
    let test : leb (at + len) (length told) ≡ true = le-leb _ _ (omega (arith, sized, inside)) in
    rw (front, count, test) refl

-- and it has so many bytes
pub front-len : (read tail : List ℕ) (len all : ℕ) → length read ≡ all → len ≤ all → length (take len (take all (read ++ tail))) ≡ len
front-len read tail len all long within =
    ap (λ (l : List ℕ). length (take len l)) (take_at read tail all long) ∙ length-take-le len read (omega (arith, long, within))

-- no page is found where it ends behind the file
pub page-past : (told : List ℕ) (outside : ReadError) (p : PageItem) → length told < p.place + stored_len p
    → found_page outside p told ≡ Err outside
unfolding piece
page-past told outside p past =
    let test : leb (p.place + stored_len p) (length told) ≡ false = lt-leb _ _ past in
    rw test refl

-- where a run ends behind the file, its page does
pub run-past : (told : List ℕ) (outside : ReadError) (p : PageItem) (size len : ℕ) → size ≡ length told → IsReadAtOnce p size len
    → size < p.place + len → found_page outside p told ≡ Err outside
run-past told outside p size len sized run past = one run.inside
  where
    one : (len ≡ stored_len p) ⊎ (p.place + len ≤ size) → found_page outside p told ≡ Err outside
    one (inl same) = page-past told outside p (omega (arith, sized, past, same))
    one (inr le) = absurd (omega (arith, past, le))

-- no bytes are a window
pub none-there : (told bytes : List ℕ) (at : ℕ) → at ≡ 0 → bytes ≡ [] → piece told at (length bytes) ≡ Some bytes
unfolding piece
none-there told bytes at here none =
    let test : leb (at + length bytes) (length told) ≡ true = le-leb _ _ (omega (arith, here, ap (λ (l : List ℕ). length l) none)) in
    let same : take (length bytes) (drop at told) ≡ bytes = ap (λ (l : List ℕ). take (length l) (drop at told)) none ∙ sym none in
    rw test (ap (λ (l : List ℕ). Some l) same)
