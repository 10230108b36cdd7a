-- Digits in the bytes of a word.
use Rattle.std.proofs.Common.{◌≡◌, ℕ, zero, suc, ◌+◌, ◌-◌, ◌*◌, ◌/◌, ◌%◌, ◌^◌, ◌<◌, ◌≤◌, List, [], ◌∷◌, ◌++◌, length, take, drop, get_or}
use Rattle.std.proofs.Common.{refl, sym, ap, ◌∙◌, arith, subst, length-drop, length-take-le}
use Rattle.std.proofs.Math.Nat.{mul_assoc, mul_comm}
use Rattle.std.proofs.lemmas.Nat.{pow-add, pow_pos, mod_below, mod-mul-add, mod-pow-add, div-add-mod', same_from_place, shl_below}
use Rattle.std.proofs.lemmas.List.{take-take, take-append-drop}
use Rattle.std.proofs.lemmas.Str.{digit_value_digit}
use Rattle.std.specs.List.{slice_range}
use Rattle.std.specs.Char.{digit_value}
use Rattle.std.specs.Str.Parse.{AllDigits, digits_value_after, digits_value}
use Rattle.nt_digits.specs.Digits.{low_first, AreDigits, number_behind}

-- so many digits zero
abbrev pub nulls : ℕ → List ℕ
nulls zero = []
nulls (suc k) = 48 ∷ nulls k

-- each item is a byte
abbrev pub AllBytes : List ℕ → Type 0
AllBytes [] = Unit {0}
AllBytes (b ∷ bs) = (b < 256) × AllBytes bs

-- the size of so many bytes
abbrev pub size : ℕ → ℕ
size k = 2 ^ (8 * k)

pub size-suc : (k : ℕ) → size (suc k) ≡ 256 * size k
size-suc k =
    let e : 8 * suc k ≡ 8 + 8 * k = omega arith in
    ap (λ n. 2 ^ n) e ∙ pow-add 2 8 (8 * k)

pub nulls-append : (k m : ℕ) → nulls (k + m) ≡ nulls k ++ nulls m
nulls-append zero m =
    let e : zero + m ≡ m = omega arith in
    ap nulls e
nulls-append (suc k) m =
    let e : suc k + m ≡ suc (k + m) = omega arith in
    ap nulls e ∙ ap (λ l. 48 ∷ l) (nulls-append k m)

pub length-nulls : (k : ℕ) → length (nulls k) ≡ k
length-nulls zero = refl
length-nulls (suc k) = ap suc (length-nulls k)

pub nulls-bytes : (k : ℕ) → AllBytes (nulls k)
nulls-bytes zero = tt
nulls-bytes (suc k) = (omega arith, nulls-bytes k)

pub nulls-few : (k : ℕ) → low_first (nulls k) * 5 < size k
nulls-few zero = omega arith
nulls-few (suc k) = omega (arith, size-suc k, nulls-few k)

pub digits-few : (k n : ℕ) → n < size k → AreDigits k n → n * 28 < size k
digits-few zero n below small = omega (arith, below)
digits-few (suc k) n below small =
    let s = size-suc k in
    let next = digits-few k (n / 256) (omega (arith, s, below)) small.1 in
    omega (arith, s, next, small.0)

pub low_first-append : (xs zs : List ℕ) → low_first (xs ++ zs) ≡ low_first xs + size (length xs) * low_first zs
low_first-append [] zs = omega arith
low_first-append (x ∷ xs) zs =
    let z = low_first zs in
    let more : size (suc (length xs)) * z ≡ 256 * (size (length xs) * z) =
    ap (λ s. s * z) (size-suc (length xs)) ∙ mul_assoc 256 (size (length xs)) z in
    omega (arith, low_first-append xs zs, more)

pub low_first-below : (xs : List ℕ) → AllBytes xs → low_first xs < size (length xs)
low_first-below [] bytes = omega arith
low_first-below (x ∷ xs) bytes = omega (arith, size-suc (length xs), low_first-below xs bytes.1, bytes.0)

-- a word behind zeros, less what stands there for digits
pub record Behind (k c w n : ℕ) : Type 0 where
  pub rest : ℕ
  pub is : rest + c ≡ w
  pub digits : AreDigits k rest
  pub same : n ≡ number_behind k 0 rest

pub zeros-passed : (m k y c w : ℕ) → y + c * size m ≡ w * size m → AreDigits (m + k) y → Behind k c w (number_behind (m + k) 0 y)
zeros-passed zero k y c w is small =
    let same : zero + k ≡ k = omega arith in
    record {
      rest = y;
      is = omega (arith, is);
      digits = subst (λ n. AreDigits n y) same small;
      same = ap (λ n. number_behind n 0 y) same;
    }
zeros-passed (suc m) k y c w is small =
    let up : suc m + k ≡ suc (m + k) = omega arith in
    let small' = subst (λ n. AreDigits n y) up small in
    let s = size-suc m in
    let left : c * size (suc m) ≡ 256 * (c * size m) = ap (λ n. c * n) (s ∙ mul_comm 256 (size m)) ∙ sym (mul_assoc c (size m) 256)
    ∙ mul_comm (c * size m) 256 in
    let right : w * size (suc m) ≡ 256 * (w * size m) = ap (λ n. w * n) (s ∙ mul_comm 256 (size m))
    ∙ sym (mul_assoc w (size m) 256) ∙ mul_comm (w * size m) 256 in
    let none : 0 * 10 + y % 256 ≡ 0 = omega (arith, is, left, right) in
    let next : y / 256 + c * size m ≡ w * size m = omega (arith, is, left, right) in
    let b = zeros-passed m k (y / 256) c w next small'.1 in
    record {
      rest = b.rest;
      is = b.is;
      digits = b.digits;
      same = ap (λ n. number_behind n 0 y) up ∙ ap (λ n. number_behind (m + k) n (y / 256)) none ∙ b.same;
    }

-- digits without the zero in each byte are digits of a text
pub digits-spelled : (bs : List ℕ) (y before : ℕ) → AllBytes bs → y + low_first (nulls (length bs)) ≡ low_first bs
    → AreDigits (length bs) y → AllDigits 10 bs × (number_behind (length bs) before y ≡ digits_value_after 10 before bs)
digits-spelled [] y before bytes is small = (tt, refl)
digits-spelled (b ∷ bs) y before bytes is small =
    let byte : b ≡ y % 256 + 48 = omega (arith, is, bytes.0, small.0) in
    let rest : y / 256 + low_first (nulls (length bs)) ≡ low_first bs = omega (arith, is, bytes.0, small.0) in
    let value : digit_value b + 48 ≡ b = digit_value_digit b (omega (arith, byte), omega (arith, byte, small.0)) in
    let same : digit_value b ≡ y % 256 = omega (arith, value, byte) in
    let next = digits-spelled bs (y / 256) (before * 10 + y % 256) bytes.1 rest small.1 in
    ((omega (arith, same, small.0), next.0), next.1 ∙ ap (λ d. digits_value_after 10 (before * 10 + d) bs) (sym same))

pub take-bytes : (k : ℕ) (xs : List ℕ) → AllBytes xs → AllBytes (take k xs)
take-bytes zero xs bytes = tt
take-bytes (suc k) [] bytes = tt
take-bytes (suc k) (x ∷ xs) bytes = (bytes.0, take-bytes k xs bytes.1)

pub drop-bytes : (k : ℕ) (xs : List ℕ) → AllBytes xs → AllBytes (drop k xs)
drop-bytes zero xs bytes = bytes
drop-bytes (suc k) [] bytes = tt
drop-bytes (suc k) (x ∷ xs) bytes = drop-bytes k xs bytes.1

pub are-bytes : (xs : List ℕ) → ((i : ℕ) → get_or xs i 0 < 256) → AllBytes xs
are-bytes [] below = tt
are-bytes (x ∷ xs) below = (below 0, are-bytes xs (λ i. below (suc i)))

-- the digits that stand from a place on, as a word whose lowest bytes they are
pub record EightRead (text : List ℕ) (at k y : ℕ) : Type 0 where
  pub eight : AreDigits 8 y
  pub digits : AllDigits 10 (slice_range text at (at + k))
  pub value : number_behind 8 0 y ≡ digits_value 10 (slice_range text at (at + k))

-- a byte and the rest of a number
byte-of : (x r y : ℕ) → x ≡ r * 256 + y % 256 → (x % 256 ≡ y % 256) × (x / 256 ≡ r)
byte-of x r y is = (omega (arith, is), omega (arith, is))

-- the lowest byte of what is left of a number below a size, and the rest of it
pub low-part : (k n : ℕ) → (n % size (suc k) % 256 ≡ n % 256) × (n % size (suc k) / 256 ≡ n / 256 % size k)
low-part k n =
    let up : 8 * suc k ≡ 8 * k + 8 = omega arith in
    byte-of (n % size (suc k)) (n / 256 % size k) n (ap (λ j. n % 2 ^ j) up ∙ mod-pow-add n (8 * k) 8)

digits-low : (k n : ℕ) → AreDigits k n → AreDigits k (n % size k)
digits-low zero n small = tt
digits-low (suc k) n small =
    let p = low-part k n in
    (subst (λ d. d < 10) (sym p.0) small.0, subst (AreDigits k) (sym p.1) (digits-low k (n / 256) small.1))

digits-up : (m k r : ℕ) → AreDigits k r → AreDigits (m + k) (r * size m)
digits-up zero k r small =
    let same : zero + k ≡ k = omega arith in
    let one : r * size zero ≡ r = omega arith in
    subst (λ j. AreDigits j (r * size zero)) (sym same) (subst (AreDigits k) (sym one) small)
digits-up (suc m) k r small =
    let up : suc m + k ≡ suc (m + k) = omega arith in
    let more : r * size (suc m) ≡ 256 * (r * size m) = ap (λ n. r * n) (size-suc m ∙ mul_comm 256 (size m))
    ∙ sym (mul_assoc r (size m) 256) ∙ mul_comm (r * size m) 256 in
    let next : 256 * (r * size m) / 256 ≡ r * size m = omega arith in
    let low : 256 * (r * size m) % 256 < 10 = omega arith in
    subst (λ j. AreDigits j (r * size (suc m))) (sym up) (subst (AreDigits (suc (m + k))) (sym more)
    (low, subst (AreDigits (m + k)) (sym next) (digits-up m k r small)))

-- of two numbers that differ by a word less another, the lowest parts differ by those of the words
low-less : (s m j q z r c h l w n : ℕ) → s * m ≡ 2 ^ 64 → j * s + r ≡ w → 3472328296227680304 ≡ c + s * z → n ≡ l + s * h
    → (n + (2 ^ 64 - 3472328296227680304)) / 2 ^ 64 ≡ q → (n + (2 ^ 64 - 3472328296227680304)) % 2 ^ 64 ≡ w
    → r + c < s → l < s → r + c ≡ l
low-less s m j q z r c h l w n whole w_is c_is n_is q_is rest few low =
    let ms : m * s ≡ 2 ^ 64 = mul_comm m s ∙ whole in
    let qm : q * m * s ≡ q * 2 ^ 64 = mul_assoc q m s ∙ ap (λ x. q * x) ms in
    let zs : s * z ≡ z * s = mul_comm s z in
    let hs : s * h ≡ h * s = mul_comm s h in
    let sum : (j + q * m + z) * s ≡ j * s + q * m * s + z * s = omega arith in
    let other : (h + m) * s ≡ h * s + m * s = omega arith in
    let same : (j + q * m + z) * s + (r + c) ≡ (h + m) * s + l =
    omega (arith, sum, other, ms, qm, zs, hs, w_is, c_is, n_is, q_is, rest) in
    (same_from_place (j + q * m + z) (r + c) (h + m) l s few low same).1

-- the lowest bytes of a word less the zeros are digits, and are shifted to its end
pub eight-read : (text : List ℕ) (at k m w : ℕ) → at + 8 ≤ length text → k + m ≡ 8 → AllBytes (take 8 (drop at text))
    → (low_first (take 8 (drop at text)) + (2 ^ 64 - 3472328296227680304)) % 2 ^ 64 ≡ w → AreDigits k w
    → EightRead text at k ((w * size m) % 2 ^ 64)
eight-read text at k m w within all bytes w_is small =
    let bs = take 8 (drop at text) in
    let xs = take k bs in
    let count : length bs ≡ 8 = length-take-le 8 (drop at text) (omega (arith, length-drop at text)) in
    let len : length xs ≡ k = length-take-le k bs (omega (arith, count, all)) in
    let own = take-bytes k bs bytes in
    let s = size k in
    let bits : 8 * k + 8 * m ≡ 64 = omega (arith, all) in
    let whole : s * size m ≡ 2 ^ 64 = sym (pow-add 2 (8 * k) (8 * m)) ∙ ap (λ n. 2 ^ n) bits in
    let word : low_first bs ≡ low_first xs + s * low_first (drop k bs) = ap low_first (sym (take-append-drop k bs))
    ∙ low_first-append xs (drop k bs) ∙ ap (λ n. low_first xs + size n * low_first (drop k bs)) len in
    let zeros : 3472328296227680304 ≡ low_first (nulls k) + s * low_first (nulls m) = ap (λ n. low_first (nulls n)) (sym all)
    ∙ ap low_first (nulls-append k m) ∙ low_first-append (nulls k) (nulls m)
    ∙ ap (λ n. low_first (nulls k) + size n * low_first (nulls m)) (length-nulls k) in
    let r = w % s in
    let parts : w / s * s + r ≡ w = div-add-mod' w s in
    let low : r < s = mod_below w s (pow_pos (8 * k)) in
    let few = digits-few k r low (digits-low k w small) in
    let sum : r + low_first (nulls k) < s = omega (arith, few, nulls-few k) in
    let below : low_first xs < s = subst (λ n. low_first xs < size n) len (low_first-below xs own) in
    let apart : r + low_first (nulls k) ≡ low_first xs = low-less s (size m) (w / s) _ (low_first (nulls m)) r (low_first (nulls k))
    (low_first (drop k bs)) (low_first xs) w (low_first bs) whole parts zeros word refl w_is sum below in
    let up : r * size m < 2 ^ 64 = subst (λ n. r * size m < 2 ^ n) bits (shl_below r (8 * k) (8 * m) low) in
    let high : w / s * s * size m ≡ w / s * 2 ^ 64 = mul_assoc (w / s) s (size m) ∙ ap (λ n. w / s * n) whole in
    let spread : (w / s * s + r) * size m ≡ w / s * 2 ^ 64 + r * size m = omega (arith, high) in
    let y_is : (w * size m) % 2 ^ 64 ≡ r * size m = ap (λ n. (n * size m) % 2 ^ 64) (sym parts) ∙ ap (λ n. n % 2 ^ 64) spread
    ∙ mod-mul-add (w / s) (2 ^ 64) (r * size m) up in
    let turn : m + k ≡ 8 = omega (arith, all) in
    let eight = digits-up m k r (digits-low k w small) in
    let is : r * size m + low_first (nulls k) * size m ≡ low_first xs * size m = omega (arith, ap (λ n. n * size m) apart) in
    let b = zeros-passed m k (r * size m) (low_first (nulls k)) (low_first xs) is eight in
    let same : number_behind 8 0 (r * size m) ≡ number_behind k 0 b.rest =
    ap (λ n. number_behind n 0 (r * size m)) (sym turn) ∙ b.same in
    let spelled = digits-spelled xs b.rest 0 own (ap (λ n. b.rest + low_first (nulls n)) len ∙ b.is)
    (subst (λ n. AreDigits n b.rest) (sym len) b.digits) in
    let count-back : k ≡ (at + k) - at = omega arith in
    let there : xs ≡ slice_range text at (at + k) =
    take-take k 8 (drop at text) (omega (arith, all)) ∙ ap (λ n. take n (drop at text)) count-back in
    record {
      eight = subst (AreDigits 8) (sym y_is) (subst (λ n. AreDigits n (r * size m)) turn eight);
      digits = subst (AllDigits 10) there spelled.0;
      value = ap (number_behind 8 0) y_is ∙ same ∙ ap (λ n. number_behind n 0 b.rest) (sym len) ∙ spelled.1
          ∙ ap (digits_value 10) there;
    }
