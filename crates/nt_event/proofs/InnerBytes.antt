-- Bytes of ASCII without an LF.
use Rattle.std.proofs.Common.{◌≡◌, ◌+◌, ◌*◌, ◌%◌, ◌^◌, ◌≤◌, ◌<◌, ℕ, zero, suc, Bool, true, false, cond, not, eqb, leb, List, [], ◌∷◌, ◌++◌}
use Rattle.std.proofs.Common.{map, length, take, drop, replicate, refl, ap, sym, subst, ◌∙◌, arith, take-add, get_or}
use Rattle.std.proofs.lemmas.Bool.{eqb-false, leb-false}
use Rattle.std.proofs.lemmas.List.{length-map}
use Rattle.std.proofs.lemmas.List.Sums.{prefix_len-le-length}
use Rattle.std.proofs.lemmas.Simd.{mask_l-mod, trailing_mask_l}
use Rattle.std.specs.Int.Count.{count_trailing_zeros}
use Rattle.std.specs.List.{prefix_len}
use Rattle.std.specs.Str.{IsAscii}
use Rattle.std.proofs.lemmas.Nat.{le_or_l, le_or_r}
use Rattle.std.specs.Int.Bits.{bit_or}
use lib.Lanes.{mask_l, top, zip2}
use Rattle.nt_event.specs.Lines.{HasNoLf}
use Rattle.nt_event.specs.LineParts.{Inner, AllInner, IsStop}

-- what a lane of a comparison has: all bits or none
abbrev pub lane : Bool → ℕ
lane b = cond b 255 0

-- what the lanes of bytes have that are compared with an LF and with the first byte that isn't ASCII
abbrev pub stop_lanes : ℕ → List ℕ → List ℕ
stop_lanes n xs =
    zip2 bit_or (zip2 (λ a b. lane (eqb a b)) xs (replicate n 10)) (zip2 (λ a b. lane (leb a b)) (replicate n 128) xs)

pub lanes-length : (n : ℕ) (xs : List ℕ) → length xs ≡ n → length (stop_lanes n xs) ≡ n
lanes-length zero [] long = refl
lanes-length (suc n) [] long = absurd (omega (arith, long))
lanes-length zero (x ∷ xs) long = absurd (omega (arith, long))
lanes-length (suc n) (x ∷ xs) long = ap suc (lanes-length n xs (omega (arith, long)))

no-lane : (b : Bool) → lane b < 128 → b ≡ false
no-lane true few = absurd (omega (arith, few))
no-lane false few = refl

no-top : (b : Bool) (n : ℕ) → cond b 1 0 + 2 * n ≡ 0 → (b ≡ false) × (n ≡ 0)
no-top true n none = absurd (omega (arith, none))
no-top false n none = (refl, omega (arith, none))

inner-lane : (x : ℕ) → bit_or (lane (eqb x 10)) (lane (leb 128 x)) < 128 → Inner x
inner-lane x few =
    let a = lane (eqb x 10) in
    let b = lane (leb 128 x) in
    record {
      ascii = leb-false 128 x (no-lane (leb 128 x) (omega (arith, few, le_or_r a b)));
      no_lf = eqb-false x 10 (no-lane (eqb x 10) (omega (arith, few, le_or_l a b)));
    }

pub inner-unmasked : (n : ℕ) (xs : List ℕ) → length xs ≡ n → mask_l (map (top 7) (stop_lanes n xs)) ≡ 0 → AllInner xs
inner-unmasked n [] long none = tt
inner-unmasked zero (x ∷ xs) long none = absurd (omega (arith, long))
inner-unmasked (suc n) (x ∷ xs) long none =
    let head = bit_or (lane (eqb x 10)) (lane (leb 128 x)) in
    let p = no-top (top 7 head) (mask_l (map (top 7) (stop_lanes n xs))) none in
    (inner-lane x (leb-false 128 head p.0), inner-unmasked n xs (omega (arith, long)) p.1)

-- the bytes before the first lane that has its highest bit
inner-before : (n : ℕ) (xs : List ℕ) → length xs ≡ n → AllInner (take (prefix_len (λ x. not (top 7 x)) (stop_lanes n xs)) xs)
inner-before zero [] long = tt
inner-before (suc n) [] long = absurd (omega (arith, long))
inner-before zero (x ∷ xs) long = absurd (omega (arith, long))
inner-before (suc n) (x ∷ xs) long =
    let head = bit_or (lane (eqb x 10)) (lane (leb 128 x)) in
    go (inner-before n xs (omega (arith, long))) (top 7 head) refl
  where
    go : AllInner (take (prefix_len (λ y. not (top 7 y)) (stop_lanes n xs)) xs) → (b : Bool)
        → top 7 (bit_or (lane (eqb x 10)) (lane (leb 128 x))) ≡ b
        → AllInner (take (cond (not b) (1 + prefix_len (λ y. not (top 7 y)) (stop_lanes n xs)) 0) (x ∷ xs))
    go others true is = tt
    go others false is =
        let count = prefix_len (λ y. not (top 7 y)) (stop_lanes n xs) in
        let next : suc count ≡ 1 + count = omega arith in
        subst (λ k. AllInner (take k (x ∷ xs))) next (inner-lane x (leb-false 128 _ is), others)

-- the lowest bit that is set, where one is, is behind such bytes
pub stops-behind : (xs : List ℕ) → length xs ≡ 16 → (mask_l (map (top 7) (stop_lanes 16 xs)) % 2 ^ 64 ≡ 0 → ⊥)
    → IsStop xs (count_trailing_zeros 64 (mask_l (map (top 7) (stop_lanes 16 xs)) % 2 ^ 64))
stops-behind xs long set =
    let lanes = stop_lanes 16 xs in
    let all = lanes-length 16 xs long in
    let few : length (map (top 7) lanes) ≤ 64 = omega (arith, length-map lanes (top 7), all) in
    let same = mask_l-mod (map (top 7) lanes) 64 few in
    let some : 0 < mask_l (map (top 7) lanes) = pos-of (mask_l (map (top 7) lanes)) (λ none. set (same ∙ none)) in
    let first = ap (λ m. count_trailing_zeros 64 m) same ∙ trailing_mask_l (top 7) 64 lanes (omega (arith, all)) some in
    let most = prefix_len-le-length (λ x. not (top 7 x)) lanes in
    record {
      high = omega (arith, first, most, all, long);
      before = subst (λ k. AllInner (take k xs)) (sym first) (inner-before 16 xs long);
    }
  where
    pos-of : (n : ℕ) → (n ≡ 0 → ⊥) → 0 < n
    pos-of zero other = absurd (other refl)
    pos-of (suc n) other = omega arith

inner-append : (xs zs : List ℕ) → AllInner xs → AllInner zs → AllInner (xs ++ zs)
inner-append [] zs h k = k
inner-append (x ∷ xs) zs h k = (h.0, inner-append xs zs h.1 k)

pub inner-more : (xs : List ℕ) (i n : ℕ) → AllInner (take i xs) → AllInner (take n (drop i xs)) → AllInner (take (i + n) xs)
inner-more xs i n first then = subst AllInner (sym (take-add i n xs)) (inner-append (take i xs) (take n (drop i xs)) first then)

pub inner-one : (xs : List ℕ) (i : ℕ) → i < length xs → get_or xs i 0 < 128 → (get_or xs i 0 ≡ 10 → ⊥) → AllInner (take 1 (drop i xs))
inner-one [] i within ascii no_lf = absurd (omega (arith, within))
inner-one (x ∷ xs) zero within ascii no_lf = (record { ascii = ascii; no_lf = no_lf }, tt)
inner-one (x ∷ xs) (suc i) within ascii no_lf = inner-one xs i (omega (arith, within)) ascii no_lf

pub inner-ascii : (xs : List ℕ) → AllInner xs → IsAscii xs
inner-ascii [] h i = omega arith
inner-ascii (x ∷ xs) h zero = h.0.ascii
inner-ascii (x ∷ xs) h (suc i) = inner-ascii xs h.1 i

pub inner-no_lf : (xs : List ℕ) → AllInner xs → HasNoLf xs
inner-no_lf [] h k lt e = absurd (omega (arith, lt))
inner-no_lf (x ∷ xs) h zero lt e = h.0.no_lf e
inner-no_lf (x ∷ xs) h (suc k) lt e = inner-no_lf xs h.1 k (omega (arith, lt)) e
