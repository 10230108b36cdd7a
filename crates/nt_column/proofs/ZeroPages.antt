-- Pages of zeros.
use Rattle.std.proofs.Common.{◌≡◌, ◌≢◌, ℕ, zero, suc, ◌+◌, ◌-◌, ◌*◌, ◌/◌, ◌%◌, ◌^◌, ◌<◌, Bool, true, false, List, length, map}
use Rattle.std.proofs.Common.{get_or, replicate, refl, sym, ◌∙◌, arith}
use Rattle.std.specs.Prelude.{nat_lt, if◌then◌else◌}
use Rattle.std.proofs.lemmas.List.{length-replicate, ext_get_or}
use Rattle.std.proofs.lemmas.List.FromFn.{get_or-map-range_with_len, length-map-range_with_len}
use Rattle.std.proofs.Math.Nat.{zero-div}
use Rattle.nt_types.specs.declared.column_type.ColumnType.{ColumnType}
use Rattle.nt_types.specs.declared.column_type.ColumnType.TheVariants.{Bit, Byte, Char, Int8, UInt8, Int16, UInt16, Int32, UInt32, Int64}
use Rattle.nt_types.specs.declared.column_type.ColumnType.TheVariants.{UInt64, Index32, Index64, Switch, SplitInt16, SplitUInt16}
use Rattle.nt_types.specs.declared.column_type.ColumnType.TheVariants.{SplitInt32, SplitUInt32, SplitInt64, SplitUInt64, SplitIndex32}
use Rattle.nt_types.specs.declared.column_type.ColumnType.TheVariants.{SplitIndex64}
use Rattle.nt_encode.specs.Digits.{digit_of, list_of, number_of}
use Rattle.nt_encode.specs.Bits.{bit_byte, bit_bytes}
use Rattle.nt_encode.specs.Plain.{plain_byte, plain_bytes}
use Rattle.nt_encode.specs.Split.{split_byte, split_bytes}
use Rattle.nt_encode.specs.Zigzag.{zigzag_words}
use Rattle.nt_encode.specs.Delta.{delta_word, delta_words}
use Rattle.nt_encode.specs.Switch.{pair_byte, switch_byte, switch_bytes}
use Rattle.nt_encode.specs.Pages.{page_bytes, page_size}
use Rattle.nt_encode.proofs.Digits.{number_of-same}
use Rattle.nt_column.specs.Elements.{plain, page_of}
use Rattle.nt_column.proofs.Numbers.{numbers-replicate, tags-replicate}
use Rattle.nt_column.proofs.Pages.{page_of-numbers}

zero-get : (n i : ℕ) → get_or {A = ℕ} (replicate n 0) i 0 ≡ 0
zero-get zero i = refl
zero-get (suc n) zero = refl
zero-get (suc n) (suc i) = zero-get n i

zero-digit : (j : ℕ) → digit_of 8 0 j ≡ 0
zero-digit j = rw zero-div refl

zero-pair : (r : ℕ) → pair_byte 0 0 r ≡ 0
zero-pair r =
    elim (nat_lt r 8) as
    (λ (b : Bool). (if b then digit_of 8 0 r else digit_of 8 0 (r - 8)) ≡ 0) [ true ↦ zero-digit r | false ↦ zero-digit (r - 8) ]

-- a Switch page of zeros has zeros alone
zero-switch : (n m : ℕ) → m ≡ page_size Switch n → replicate m 0 ≡ page_of Switch (replicate n (plain 0))
zero-switch n m size =
    rw (numbers-replicate n, tags-replicate n) (ext_get_or 0 (replicate m 0) (switch_bytes (replicate n 0) (replicate n 0)) count byte)
  where
    count : length {A = ℕ} (replicate m 0) ≡ length (switch_bytes (replicate n 0) (replicate n 0))
    count =
        rw (
          length-replicate {A = ℕ} m 0,
          length-map-range_with_len (switch_byte (replicate n 0) (replicate n 0)) 0 (12 * length {A = ℕ} (replicate n 0)),
          length-replicate {A = ℕ} n 0,
        ) (omega arith)

    byte : (i : ℕ) → i < length {A = ℕ} (replicate m 0)
        → get_or (replicate m 0) i 0 ≡ get_or (switch_bytes (replicate n 0) (replicate n 0)) i 0
    byte i h =
        let within : i < 12 * length {A = ℕ} (replicate n 0) =
        rw (length-replicate {A = ℕ} n 0) (omega (arith, size, length-replicate {A = ℕ} m 0)) in
        rw (
          zero-get m i,
          get_or-map-range_with_len (switch_byte (replicate n 0) (replicate n 0)) 0 (12 * length {A = ℕ} (replicate n 0)) i i 0 within
              (omega arith),
          zero-get n (i / 12),
        )
        (sym (zero-pair (i % 12)))

-- a list of zeros is one of as many
zero-list : (m n : ℕ) (f : ℕ → ℕ) → m ≡ n → ((p : ℕ) → f p ≡ 0) → replicate m 0 ≡ list_of n f
zero-list m n f count zeros = ext_get_or 0 (replicate m 0) (list_of n f) size at
  where
    size : length {A = ℕ} (replicate m 0) ≡ length (list_of n f)
    size = length-replicate {A = ℕ} m 0 ∙ count ∙ sym (length-map-range_with_len f 0 n)

    at : (i : ℕ) → i < length {A = ℕ} (replicate m 0) → get_or (replicate m 0) i 0 ≡ get_or (list_of n f) i 0
    at i h =
        let within : i < n = omega (arith, count, length-replicate {A = ℕ} m 0) in
        zero-get m i ∙ sym (get_or-map-range_with_len f 0 n i i 0 within (omega arith) ∙ zeros i)

zero-digits : (d k : ℕ) → number_of d k (λ _. 0) ≡ 0
unfolding number_of
zero-digits d zero = refl
zero-digits d (suc k) = rw (zero-digits d k) (omega arith)

zero-byte : (n p : ℕ) → bit_byte (replicate n 0) p ≡ 0
zero-byte n p =
    number_of-same 1 8 (λ b. get_or (replicate n 0) (8 * p + b) 0) (λ _. 0) (λ b h. zero-get n (8 * p + b)) ∙ zero-digits 1 8

zero-bits : (n m : ℕ) → m ≡ (n + 7) / 8 → replicate m 0 ≡ bit_bytes (replicate n 0)
zero-bits n m count =
    zero-list m _ (bit_byte (replicate n 0)) (rw (length-replicate {A = ℕ} n 0) count) (zero-byte n)

zero-plain : (k n m : ℕ) → m ≡ k * n → replicate m 0 ≡ plain_bytes k (replicate n 0)
zero-plain k n m count =
    zero-list m _ (plain_byte k (replicate n 0)) (rw (length-replicate {A = ℕ} n 0) count)
    (λ p. rw (zero-get n (p / k)) (zero-digit (p % k)))

zero-split_byte : (words : List ℕ) (n p : ℕ) → words ≡ replicate n 0 → split_byte words p ≡ 0
zero-split_byte words n p is =
    rw (is, zero-get n (p % length {A = ℕ} (replicate n 0))) (zero-digit (p / length {A = ℕ} (replicate n 0)))

zero-split : (k n m : ℕ) (words : List ℕ) → words ≡ replicate n 0 → m ≡ k * n → replicate m 0 ≡ split_bytes k words
zero-split k n m words is count =
    zero-list m _ (split_byte words) (rw (is, length-replicate {A = ℕ} n 0) count) (λ p. zero-split_byte words n p is)

-- what is zero at zero gives zeros of zeros
zero-map : (f : ℕ → ℕ) (n : ℕ) → f 0 ≡ 0 → map f (replicate n 0) ≡ replicate n 0
zero-map f zero none = refl
zero-map f (suc n) none = rw (none, zero-map f n none) refl

zero-delta : (m n i : ℕ) → (2 ^ m) % 2 ^ m ≡ 0 → delta_word m (replicate n 0) i ≡ 0
zero-delta m n zero whole = zero-get n 0
zero-delta m n (suc i) whole =
    let all : 0 + (2 ^ m - 0) ≡ 2 ^ m = omega arith in
    rw (zero-get n (suc i), zero-get n i, all) whole

zero-deltas : (m n : ℕ) → (2 ^ m) % 2 ^ m ≡ 0 → delta_words m (replicate n 0) ≡ replicate n 0
zero-deltas m n whole =
    sym (zero-list n _ (delta_word m (replicate n 0)) (sym (length-replicate {A = ℕ} n 0)) (λ i. zero-delta m n i whole))

-- a page of zeros has zeros alone
zero-numbers : (kind : ColumnType) (n m : ℕ) → kind ≢ Switch → m ≡ page_size kind n → replicate m 0 ≡ page_bytes kind (replicate n 0)
zero-numbers Bit n m other size = zero-bits n m (omega arith)
zero-numbers Byte n m other size = zero-plain 1 n m (omega arith)
zero-numbers Char n m other size = zero-plain 1 n m (omega arith)
zero-numbers Int8 n m other size = zero-plain 1 n m (omega arith)
zero-numbers UInt8 n m other size = zero-plain 1 n m (omega arith)
zero-numbers Int16 n m other size = zero-plain 2 n m (omega arith)
zero-numbers UInt16 n m other size = zero-plain 2 n m (omega arith)
zero-numbers Int32 n m other size = zero-plain 4 n m (omega arith)
zero-numbers UInt32 n m other size = zero-plain 4 n m (omega arith)
zero-numbers Int64 n m other size = zero-plain 8 n m (omega arith)
zero-numbers UInt64 n m other size = zero-plain 8 n m (omega arith)
zero-numbers Index32 n m other size = zero-plain 4 n m (omega arith)
zero-numbers Index64 n m other size = zero-plain 8 n m (omega arith)
zero-numbers Switch n m other size = absurd (other refl)
zero-numbers SplitInt16 n m other size = zero-split 2 n m (zigzag_words 16 (replicate n 0)) (zero-map _ n refl) (omega arith)
zero-numbers SplitUInt16 n m other size = zero-split 2 n m (replicate n 0) refl (omega arith)
zero-numbers SplitInt32 n m other size = zero-split 4 n m (zigzag_words 32 (replicate n 0)) (zero-map _ n refl) (omega arith)
zero-numbers SplitUInt32 n m other size = zero-split 4 n m (replicate n 0) refl (omega arith)
zero-numbers SplitInt64 n m other size = zero-split 8 n m (zigzag_words 64 (replicate n 0)) (zero-map _ n refl) (omega arith)
zero-numbers SplitUInt64 n m other size = zero-split 8 n m (replicate n 0) refl (omega arith)
zero-numbers SplitIndex32 n m other size = zero-split 4 n m (delta_words 32 (replicate n 0)) (zero-deltas 32 n refl) (omega arith)
zero-numbers SplitIndex64 n m other size = zero-split 8 n m (delta_words 64 (replicate n 0)) (zero-deltas 64 n refl) (omega arith)

numbers-page : (kind : ColumnType) (n m : ℕ) → kind ≢ Switch → m ≡ page_size kind n → replicate m 0 ≡ page_of kind (replicate n (plain 0))
numbers-page kind n m other size =
    rw (page_of-numbers kind (replicate n (plain 0)) other, numbers-replicate n) (zero-numbers kind n m other size)

pub zero-page : (kind : ColumnType) (n m : ℕ) → m ≡ page_size kind n → replicate m 0 ≡ page_of kind (replicate n (plain 0))
zero-page Switch n m size = zero-switch n m size
zero-page kind n m size = numbers-page kind n m (λ h. cc h) size
