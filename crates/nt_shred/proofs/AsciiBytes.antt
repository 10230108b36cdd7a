-- Bytes of ASCII.
use Rattle.std.proofs.Common.{◌≡◌, ◌+◌, ◌*◌, ◌<◌, ◌≤◌, ℕ, zero, suc, Bool, true, false, cond, leb, List, [], ◌∷◌}
use Rattle.std.proofs.Common.{map, length, take, drop, replicate, arith, sym, subst, take-add, get_or, refl, ap}
use Rattle.std.proofs.lemmas.Bool.{leb-false}
use Rattle.std.proofs.lemmas.List.{take_all}
use Rattle.std.proofs.lemmas.Str.{IsAscii-append}
use Rattle.std.specs.Str.{IsAscii}
use lib.Lanes.{mask_l, top, zip2}

-- what a lane of a comparison has: all bits or none
abbrev lane : Bool → ℕ
lane b = cond b 255 0

-- what the lanes of bytes have that are compared with the first byte that isn't ASCII
abbrev pub other_lanes : ℕ → List ℕ → List ℕ
other_lanes n xs = zip2 (λ a b. lane (leb a b)) (replicate n 128) xs

no-lane : (b : Bool) (n : ℕ) → cond (top 7 (lane b)) 1 0 + 2 * n ≡ 0 → (b ≡ false) × (n ≡ 0)
no-lane true n none = absurd (omega (arith, none))
no-lane false n none = (refl, omega (arith, none))

ascii-none : IsAscii []
ascii-none i = omega arith

ascii-next : (x : ℕ) (xs : List ℕ) → x < 128 → IsAscii xs → IsAscii (x ∷ xs)
ascii-next x xs one others zero = one
ascii-next x xs one others (suc i) = others i

pub others-length : (n : ℕ) (xs : List ℕ) → length xs ≡ n → length (other_lanes n xs) ≡ n
others-length zero xs long = refl
others-length (suc n) [] long = absurd (omega (arith, long))
others-length (suc n) (x ∷ xs) long = ap suc (others-length n xs (omega (arith, long)))

pub ascii-unmasked : (n : ℕ) (xs : List ℕ) → length xs ≡ n → mask_l (map (top 7) (other_lanes n xs)) ≡ 0 → IsAscii xs
ascii-unmasked zero [] long none = ascii-none
ascii-unmasked (suc n) [] long none = ascii-none
ascii-unmasked zero (x ∷ xs) long none = absurd (omega (arith, long))
ascii-unmasked (suc n) (x ∷ xs) long none =
    let p = no-lane (leb 128 x) (mask_l (map (top 7) (other_lanes n xs))) none in
    ascii-next x xs (leb-false 128 x p.0) (ascii-unmasked n xs (omega (arith, long)) p.1)

pub ascii-more : (xs : List ℕ) (i n : ℕ) → IsAscii (take i xs) → IsAscii (take n (drop i xs)) → IsAscii (take (i + n) xs)
ascii-more xs i n first then = subst IsAscii (sym (take-add i n xs)) (IsAscii-append (take i xs) (take n (drop i xs)) first then)

pub ascii-one : (xs : List ℕ) (i : ℕ) → i < length xs → get_or xs i 0 < 128 → IsAscii (take 1 (drop i xs))
ascii-one [] i within one = absurd (omega (arith, within))
ascii-one (x ∷ xs) zero within one = ascii-next x [] one ascii-none
ascii-one (x ∷ xs) (suc i) within one = ascii-one xs i (omega (arith, within)) one

-- bytes at the front, and those from a place that isn't behind them
pub ascii-behind : (xs : List ℕ) (i m n : ℕ) → m ≤ i → length xs ≤ m + n → IsAscii (take i xs) → IsAscii (take n (drop m xs)) → IsAscii xs
ascii-behind xs i zero n le all first last = subst IsAscii (take_all n xs (omega (arith, all))) last
ascii-behind [] i (suc m) n le all first last = ascii-none
ascii-behind (x ∷ xs) zero (suc m) n le all first last = absurd (omega (arith, le))
ascii-behind (x ∷ xs) (suc i) (suc m) n le all first last =
    ascii-next x xs (first 0) (ascii-behind xs i m n (omega (arith, le)) (omega (arith, all)) (λ k. first (suc k)) last)
