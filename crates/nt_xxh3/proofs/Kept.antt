-- What a sum in pieces keeps, as it grows.
use Rattle.std.proofs.Common.{◌≡◌, ℕ, ◌+◌, ◌-◌, ◌*◌, ◌/◌, ◌<◌, ◌≤◌, List, [], ◌++◌, length, take, drop, refl, sym, ap, ◌∙◌, arith}
use Rattle.std.proofs.Common.{length-append, length-drop}
use Rattle.std.proofs.lemmas.List.{drop-drop, drop-append-le, take-append-drop, append_assoc, append-nil, length-take-le, drop_at}
use Rattle.std.proofs.lemmas.Bool.Decides.{nat_tests}
use Rattle.std.proofs.Math.Seq.{drop-append-add, take-add}
use Rattle.nt_xxh3.specs.Long.{stripes, initial_lanes, merged, after_stripe, above_240, TakesStripes}
use Rattle.nt_xxh3.specs.Sum.{xxh3}
use Rattle.nt_xxh3.specs.Window.{zero_stripe}
use Rattle.nt_xxh3.specs.Pieces.{IsSplit}
use Rattle.nt_xxh3.proofs.Stripes.{stripes-append, stripes-take, stripes_start, above_240_of}

pub length-zero_stripe : length zero_stripe ≡ 64
unfolding zero_stripe
length-zero_stripe = refl

-- past the blank stripe stand the bytes themselves
pub drop-zero_stripe : (m : List ℕ) (k : ℕ) → drop (64 + k) (zero_stripe ++ m) ≡ drop k m
drop-zero_stripe m k = rw (ap (λ (n : ℕ). n + k) (sym length-zero_stripe)) (drop-append-add zero_stripe m k)

-- no bytes yet
pub IsKept_start : (words window : List ℕ) (taken : ℕ) → words ≡ initial_lanes → taken ≡ 0 → window ≡ zero_stripe
    → IsSplit words taken window []
IsKept_start words window taken start none empty = record {
  by_words = rw none (start ∙ sym (stripes_start []));
  by_window = rw (none, append-nil) empty;
  count = omega (arith, ap length empty, length-zero_stripe);
}

-- bytes that are added and not taken
pub IsKept_extend : (words window m d : List ℕ) (taken : ℕ) → 64 ≤ length window → IsSplit words taken window m
    → IsSplit words taken (window ++ d) (m ++ d)
IsKept_extend words window m d taken wide kept =
    let within : 64 * taken ≤ length (zero_stripe ++ m) = omega (arith, kept.count, length-append zero_stripe m, length-zero_stripe) in
    let more : drop (64 * taken) ((zero_stripe ++ m) ++ d) ≡ window ++ d =
    drop-append-le (64 * taken) (zero_stripe ++ m) d within ∙ ap (λ (w : List ℕ). w ++ d) (sym kept.by_window) in
    record {
      by_words = kept.by_words ∙ sym (stripes-append m d taken (omega (arith, kept.count)));
      by_window = sym (rw append_assoc at more);
      count = omega (arith, kept.count, length-append m d, length-append window d);
    }

-- past the window's first stripe stand the bytes that were not taken
pub IsKept_untaken : (words window m : List ℕ) (taken : ℕ) → IsSplit words taken window m → drop 64 window ≡ drop (64 * taken) m
IsKept_untaken words window m taken kept =
    let place : 64 * taken + 64 ≡ 64 + 64 * taken = omega arith in
    ap (λ (w : List ℕ). drop 64 w) kept.by_window ∙ drop-drop 64 (64 * taken) (zero_stripe ++ m)
    ∙ rw place (drop-zero_stripe m (64 * taken))

-- stripes of the window that are taken
pub IsKept_take : (words window m new bytes left : List ℕ) (taken total k : ℕ) → length window ≡ 64 + 64 * k → total ≡ taken + k
    → bytes ≡ drop 64 window
    → left ≡ drop (64 * k) window → TakesStripes words taken bytes new total → IsSplit words taken window m → IsSplit new total left m
IsKept_take words window m new bytes left taken total k wide more bytes_are left_is follows kept =
    let front : List ℕ = take (64 * taken) m in
    let within : 64 * taken ≤ length m = omega (arith, kept.count) in
    let front_len : length front ≡ 64 * taken = length-take-le (64 * taken) m within in
    let before : words ≡ stripes front taken = kept.by_words ∙ sym (stripes-take m (64 * taken) taken (omega arith) within) in
    let joined : front ++ bytes ≡ m = rw (bytes_are, IsKept_untaken words window m taken kept) (take-append-drop (64 * taken) m) in
    let place : 64 * taken + 64 * k ≡ 64 * total = omega arith in
    record {
      by_words = rw joined at (follows front front_len before);
      by_window = left_is ∙ ap (λ (w : List ℕ). drop (64 * k) w) kept.by_window ∙ drop-drop (64 * k) (64 * taken) (zero_stripe ++ m)
          ∙ rw place refl;
      count = omega (arith, kept.count, ap length left_is, length-drop (64 * k) window);
    }

-- what was given, where no stripe was taken
pub IsKept_none : (words window m : List ℕ) (taken : ℕ) → taken ≡ 0 → IsSplit words taken window m → drop 64 window ≡ m
IsKept_none words window m taken none kept = IsKept_untaken words window m taken kept ∙ rw none refl

-- a piece whose stripes are taken in place
pub IsKept_rest : (words window m new slid wide rest stripes tail : List ℕ) (taken total k : ℕ) → length window ≡ 64
    → length stripes ≡ 64 * k
    → stripes ++ tail ≡ rest → total ≡ taken + k → slid ≡ drop (length stripes) (window ++ stripes) → wide ≡ slid ++ tail
    → TakesStripes words taken stripes new total → IsSplit words taken window m → IsSplit new total wide (m ++ rest)
IsKept_rest words window m new slid wide rest stripes tail taken total k one some joined more slid_is wide_is follows kept =
    let longer : IsSplit words taken (window ++ stripes) (m ++ stripes) = IsKept_extend words window m stripes taken (omega arith) kept in
    let bytes : stripes ≡ drop 64 (window ++ stripes) = sym (drop_at window stripes 64 one) in
    let count : length (window ++ stripes) ≡ 64 + 64 * k = omega (arith, length-append window stripes) in
    let left : slid ≡ drop (64 * k) (window ++ stripes) = slid_is ∙ rw some refl in
    let slid_len : 64 ≤ length slid = omega (arith, ap length left, length-drop (64 * k) (window ++ stripes)) in
    let taken_in : IsSplit new total slid (m ++ stripes) =
    IsKept_take words (window ++ stripes) (m ++ stripes) new stripes slid taken total k count more bytes left follows longer in
    let whole : IsSplit new total (slid ++ tail) ((m ++ stripes) ++ tail) =
    IsKept_extend new slid (m ++ stripes) tail total slid_len taken_in in
    rw (wide_is, ← joined, ← append_assoc) whole

-- the sum of what was given, from the stripes before its last byte and its last 64 bytes
pub IsKept_all : (words window m new bytes last : List ℕ) (taken total len result : ℕ) → 240 < length m → 64 < length window
    → bytes ≡ take (length window - 64 - 1) (drop 64 window) → total ≡ taken + length bytes / 64 → TakesStripes words taken bytes new total
    → last ≡ drop (length window - 64) window → len ≡ length m → result ≡ merged len (after_stripe new last 121)
    → IsSplit words taken window m → result ≡ above_240 m
IsKept_all words window m new bytes last taken total len result big some bytes_are more follows last_is len_is result_is kept =
    let front : List ℕ = take (64 * taken) m in
    let rest : ℕ = length window - 64 - 1 in
    let within : 64 * taken ≤ length m = omega (arith, kept.count) in
    let front_len : length front ≡ 64 * taken = length-take-le (64 * taken) m within in
    let bytes_len : length bytes ≡ rest = ap length bytes_are
    ∙ length-take-le rest (drop 64 window) (omega (arith, length-drop 64 window)) in
    let before : words ≡ stripes front taken = kept.by_words ∙ sym (stripes-take m (64 * taken) taken (omega arith) within) in
    let whole : 64 * taken + rest ≡ length m - 1 = omega (arith, kept.count) in
    let joined : front ++ bytes ≡ take (length m - 1) m =
    rw (bytes_are, IsKept_untaken words window m taken kept, ← whole) (sym (take-add (64 * taken) rest m)) in
    let count : total ≡ (length m - 1) / 64 = omega (arith, kept.count) in
    let end : 64 * taken + (length window - 64) ≡ 64 + (length m - 64) = omega (arith, kept.count) in
    let ends : drop (length window - 64) window ≡ drop (length m - 64) m =
    ap (λ (w : List ℕ). drop (length window - 64) w) kept.by_window ∙ drop-drop (length window - 64) (64 * taken) (zero_stripe ++ m)
    ∙ rw end (drop-zero_stripe m (length m - 64)) in
    above_240_of m (front ++ bytes) new last result total (omega arith) joined count (follows front front_len before) (last_is ∙ ends)
    (rw len_is at result_is)

-- the sum of more than 240 bytes
pub xxh3_above_240 : (m : List ℕ) → 240 < length m → xxh3 m ≡ above_240 m
unfolding xxh3
xxh3_above_240 m big = grind (arith, nat_tests)
