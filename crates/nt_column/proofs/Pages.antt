-- Pages of elements.
use Rattle.std.proofs.Common.{◌≡◌, ◌≢◌, ℕ, ◌-◌, ◌*◌, ◌^◌, ◌<◌, Bool, List, length, map, take, drop}
use Rattle.std.proofs.Common.{get_or, refl, sym, ◌∙◌, ap, arith, Fits, w8}
use Rattle.std.specs.List.{slice_range}
use Rattle.std.proofs.lemmas.List.{take-map, drop-map, ext_get_or}
use Rattle.std.proofs.lemmas.List.FromFn.{get_or-map-range_with_len, length-map-range_with_len}
use Rattle.std.proofs.Math.Facts.{Fits-lt-pow}
use Rattle.std.proofs.Math.Nat.{div-one, mod-one, pow-zero, mod-eq_of_lt, one-mul, mul-zero}
use Rattle.nt_types.specs.declared.column_type.ColumnType.{ColumnType}
use Rattle.nt_types.specs.declared.column_type.ColumnType.TheVariants.{Bit, Byte, Char, Int8, UInt8, Switch}
use Rattle.nt_types.specs.ColumnTable.{bits_of}
use Rattle.nt_encode.specs.Plain.{plain_byte, plain_bytes}
use Rattle.nt_encode.specs.Pages.{page_bytes}
use Rattle.nt_column.specs.Elements.{Element, plain, numbers, page_of}
use Rattle.nt_column.specs.Bits.{bit_of}
use Rattle.nt_column.proofs.Numbers.{numbers-range, numbers-plain, numbers-plain_list}

-- but for a Switch a page is that of the numbers
pub page_of-numbers : (kind : ColumnType) (es : List Element) → kind ≢ Switch → page_of kind es ≡ page_bytes kind (numbers es)
page_of-numbers Switch es other = absurd (other refl)
page_of-numbers kind es other = refl

-- only a Switch has 96 bits
pub not_switch : (kind : ColumnType) (w : ℕ) → w ≡ bits_of kind → w ≢ 96 → kind ≢ Switch
not_switch kind w is other same = other (is ∙ ap bits_of same)

pub is_switch : (kind : ColumnType) → bits_of kind ≡ 96 → kind ≡ Switch
is_switch Switch is = refl
is_switch kind is = absurd (omega arith)

-- the page of a part of elements with these numbers
page-part : (kind : ColumnType) (es : List Element) (a b : ℕ) (ns page : List ℕ) → kind ≢ Switch → numbers es ≡ ns
    → page ≡ page_bytes kind (slice_range ns a b) → page ≡ page_of kind (slice_range es a b)
page-part kind es a b ns page other is written =
    rw (page_of-numbers kind (slice_range es a b) other, numbers-range es a b, is) written

-- of a list ys, read from xs, of numbers
pub page-numbers : (kind : ColumnType) (xs ys : List ℕ) (a b : ℕ) (page : List ℕ) → kind ≢ Switch → ys ≡ xs
    → page ≡ page_bytes kind (slice_range ys a b) → page ≡ page_of kind (slice_range (map plain xs) a b)
page-numbers kind xs ys a b page other same written =
    page-part kind (map plain xs) a b xs page other (numbers-plain_list xs) (rw same at written)

-- of truth values
pub page-bits : (kind : ColumnType) (xs ys : List Bool) (a b : ℕ) (page : List ℕ) → kind ≢ Switch → ys ≡ xs
    → page ≡ page_bytes kind (map bit_of (slice_range ys a b))
    → page ≡ page_of kind (slice_range (map (λ (x : Bool). plain (bit_of x)) xs) a b)
page-bits kind xs ys a b page other same written =
    let part : map bit_of (slice_range ys a b) ≡ slice_range (map bit_of xs) a b =
    rw same (sym (take-map bit_of (b - a) (drop a xs)) ∙ ap (take (b - a)) (sym (drop-map bit_of a xs))) in
    page-part kind _ a b (map bit_of xs) page other (numbers-plain bit_of xs) (written ∙ ap (page_bytes kind) part)

-- a page of bytes is its bytes
plain_bytes-one : (xs : List ℕ) → ((i : ℕ) → Fits w8 (get_or xs i 0)) → plain_bytes 1 xs ≡ xs
plain_bytes-one xs fits =
    ext_get_or 0 (plain_bytes 1 xs) xs (length-map-range_with_len (plain_byte 1 xs) 0 (1 * length xs) ∙ one-mul (length xs)) byte
  where
    byte : (i : ℕ) → i < length (plain_bytes 1 xs) → get_or (plain_bytes 1 xs) i 0 ≡ get_or xs i 0
    byte i h =
        let count : i < 1 * length xs = omega (arith, length-map-range_with_len (plain_byte 1 xs) 0 (1 * length xs)) in
        let fit : get_or xs i 0 < 2 ^ 8 = Fits-lt-pow (fits i) in
        get_or-map-range_with_len (plain_byte 1 xs) 0 (1 * length xs) i i 0 count (omega arith)
        ∙ rw (div-one i, mod-one i, mul-zero 8, pow-zero 2, div-one (get_or xs i 0)) (mod-eq_of_lt fit)

pub page-bytes : (kind : ColumnType) (xs : List ℕ) → bits_of kind ≡ 8 → ((i : ℕ) → Fits w8 (get_or xs i 0)) → page_bytes kind xs ≡ xs
page-bytes Byte xs width fits = plain_bytes-one xs fits
page-bytes Char xs width fits = plain_bytes-one xs fits
page-bytes Int8 xs width fits = plain_bytes-one xs fits
page-bytes UInt8 xs width fits = plain_bytes-one xs fits
page-bytes Bit xs width fits = absurd (omega arith)
page-bytes kind xs width fits = absurd (omega arith)
