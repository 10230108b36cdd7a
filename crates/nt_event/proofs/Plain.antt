-- Strings of bytes that stand for themselves.
use Rattle.std.proofs.Common.{◌≡◌, ◌+◌, ◌-◌, ◌*◌, ◌%◌, ◌^◌, ◌≤◌, ◌<◌, ℕ, zero, suc, Bool, true, false, cond, not, eqb, ltb, List, []}
use Rattle.std.proofs.Common.{◌∷◌, ◌++◌}
use Rattle.std.proofs.Common.{map, length, take, drop, replicate, refl, ap, sym, subst, ◌∙◌, arith, take-add}
use Rattle.std.proofs.lemmas.Bool.{eqb-false, ltb-false, leb-false}
use Rattle.std.proofs.lemmas.List.{drop-drop, length-map}
use Rattle.std.proofs.lemmas.List.Sums.{prefix_len-le-length}
use Rattle.std.proofs.lemmas.Simd.{mask_l-mod, trailing_mask_l}
use Rattle.std.specs.Int.Count.{count_trailing_zeros}
use Rattle.std.specs.List.{slice_range, prefix_len}
use Rattle.std.proofs.lemmas.Nat.{le_or_l, le_or_r}
use Rattle.std.specs.Int.Bits.{bit_or}
use lib.Lanes.{mask_l, top, zip2}
use Rattle.json.specs.Print.{escape}
use Rattle.json.proofs.Printed.Strings.{escape_byte_plain}
use Rattle.nt_event.specs.Plain.{Plain, AllPlain}

pub plain-next : (ds : List ℕ) (c : ℕ) → AllPlain ds → Plain c → AllPlain (ds ++ c ∷ [])
plain-next [] c h k = (k, tt)
plain-next (d ∷ ds) c h k = (h.0, plain-next ds c h.1 k)

pub plain-escape : (s : List ℕ) → AllPlain s → escape s ≡ s
plain-escape [] h = refl
plain-escape (x ∷ xs) h = ap (λ l. l ++ escape xs) (escape_byte_plain x h.0.no_quote h.0.no_slash h.0.low)
    ∙ ap (λ l. x ∷ l) (plain-escape xs h.1)

-- what a lane of a comparison has: all bits or none
abbrev pub lane : Bool → ℕ
lane b = cond b 255 0

-- what the lanes of bytes have that are compared with a quote, a backslash and the first byte that is no control
abbrev pub stop_lanes : ℕ → List ℕ → List ℕ
stop_lanes n xs =
    let quotes = zip2 (λ a b. lane (eqb a b)) xs (replicate n 34) in
    let slashes = zip2 (λ a b. lane (eqb a b)) xs (replicate n 92) in
    zip2 bit_or (zip2 bit_or quotes slashes) (zip2 (λ a b. lane (ltb a b)) xs (replicate n 32))

pub lanes-length : (n : ℕ) (xs : List ℕ) → length xs ≡ n → length (stop_lanes n xs) ≡ n
lanes-length n [] long = long
lanes-length zero (x ∷ xs) long = absurd (omega (arith, long))
lanes-length (suc n) (x ∷ xs) long = ap suc (lanes-length n xs (omega (arith, long)))

no-lane : (b : Bool) → lane b < 128 → b ≡ false
no-lane true few = absurd (omega (arith, few))
no-lane false few = refl

no-top : (b : Bool) (n : ℕ) → cond b 1 0 + 2 * n ≡ 0 → (b ≡ false) × (n ≡ 0)
no-top true n none = absurd (omega (arith, none))
no-top false n none = (refl, omega (arith, none))

plain-lane : (x : ℕ) → bit_or (bit_or (lane (eqb x 34)) (lane (eqb x 92))) (lane (ltb x 32)) < 128 → Plain x
plain-lane x few =
    let a = lane (eqb x 34) in
    let b = lane (eqb x 92) in
    let c = lane (ltb x 32) in
    let ab : bit_or a b < 128 = omega (arith, few, le_or_l (bit_or a b) c) in
    record {
      no_quote = eqb-false x 34 (no-lane (eqb x 34) (omega (arith, ab, le_or_l a b)));
      no_slash = eqb-false x 92 (no-lane (eqb x 92) (omega (arith, ab, le_or_r a b)));
      low = ltb-false x 32 (no-lane (ltb x 32) (omega (arith, few, le_or_r (bit_or a b) c)));
    }

pub plain-unmasked : (n : ℕ) (xs : List ℕ) → length xs ≡ n → mask_l (map (top 7) (stop_lanes n xs)) ≡ 0 → AllPlain xs
plain-unmasked n [] long none = tt
plain-unmasked zero (x ∷ xs) long none = absurd (omega (arith, long))
plain-unmasked (suc n) (x ∷ xs) long none =
    let head = bit_or (bit_or (lane (eqb x 34)) (lane (eqb x 92))) (lane (ltb x 32)) in
    let p = no-top (top 7 head) (mask_l (map (top 7) (stop_lanes n xs))) none in
    (plain-lane x (leb-false 128 head p.0), plain-unmasked n xs (omega (arith, long)) p.1)

-- the bytes before the first lane that has its highest bit
pub plain-before : (n : ℕ) (xs : List ℕ) → length xs ≡ n → AllPlain (take (prefix_len (λ x. not (top 7 x)) (stop_lanes n xs)) xs)
plain-before n [] long = tt
plain-before zero (x ∷ xs) long = absurd (omega (arith, long))
plain-before (suc n) (x ∷ xs) long =
    let head = bit_or (bit_or (lane (eqb x 34)) (lane (eqb x 92))) (lane (ltb x 32)) in
    go (plain-before n xs (omega (arith, long))) (top 7 head) refl
  where
    go : AllPlain (take (prefix_len (λ y. not (top 7 y)) (stop_lanes n xs)) xs) → (b : Bool)
        → top 7 (bit_or (bit_or (lane (eqb x 34)) (lane (eqb x 92))) (lane (ltb x 32))) ≡ b
        → AllPlain (take (cond (not b) (1 + prefix_len (λ y. not (top 7 y)) (stop_lanes n xs)) 0) (x ∷ xs))
    go others true is = tt
    go others false is =
        let count = prefix_len (λ y. not (top 7 y)) (stop_lanes n xs) in
        let next : suc count ≡ 1 + count = omega arith in
        subst (λ k. AllPlain (take k (x ∷ xs))) next (plain-lane x (leb-false 128 _ is), others)

-- the lowest bit that is set, where one is, is behind bytes that are plain
pub stops-before : (xs : List ℕ) → length xs ≡ 8 → (mask_l (map (top 7) (stop_lanes 8 xs)) % 2 ^ 64 ≡ 0 → ⊥)
    → (count_trailing_zeros 64 (mask_l (map (top 7) (stop_lanes 8 xs)) % 2 ^ 64) ≤ 8)
    × AllPlain (take (count_trailing_zeros 64 (mask_l (map (top 7) (stop_lanes 8 xs)) % 2 ^ 64)) xs)
stops-before xs long set =
    let lanes = stop_lanes 8 xs in
    let all = lanes-length 8 xs long in
    let few : length (map (top 7) lanes) ≤ 64 = omega (arith, length-map lanes (top 7), all) in
    let same = mask_l-mod (map (top 7) lanes) 64 few in
    let some : 0 < mask_l (map (top 7) lanes) = pos-of (mask_l (map (top 7) lanes)) (λ none. set (same ∙ none)) in
    let first = ap (λ m. count_trailing_zeros 64 m) same ∙ trailing_mask_l (top 7) 64 lanes (omega (arith, all)) some in
    let most = prefix_len-le-length (λ x. not (top 7 x)) lanes in
    (omega (arith, first, most, all), subst (λ k. AllPlain (take k xs)) (sym first) (plain-before 8 xs long))
  where
    pos-of : (n : ℕ) → (n ≡ 0 → ⊥) → 0 < n
    pos-of zero other = absurd (other refl)
    pos-of (suc n) other = omega arith

pub plain-append : (xs zs : List ℕ) → AllPlain xs → AllPlain zs → AllPlain (xs ++ zs)
plain-append [] zs h k = k
plain-append (x ∷ xs) zs h k = (h.0, plain-append xs zs h.1 k)

pub range-more : (xs : List ℕ) (at i n : ℕ) → at ≤ i → slice_range xs at (i + n) ≡ slice_range xs at i ++ take n (drop i xs)
range-more xs at i n le =
    let step : (i + n) - at ≡ (i - at) + n = omega arith in
    let back : at + (i - at) ≡ i = omega arith in
    ap (λ k. take k (drop at xs)) step ∙ take-add (i - at) n (drop at xs)
    ∙ ap (λ l. slice_range xs at i ++ take n l) (drop-drop (i - at) at xs ∙ ap (λ k. drop k xs) back)
