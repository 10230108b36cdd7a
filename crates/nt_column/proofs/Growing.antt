-- Values that are added one after the other.
use Rattle.std.proofs.Common.{◌≡◌, ◌≢◌, ℕ, ◌+◌, ◌^◌, ◌<◌, ◌≤◌, List, [], ◌∷◌, ◌++◌, length, map, take, get_or, refl, sym, ◌∙◌, ap, arith}
use Rattle.std.proofs.Common.{append_assoc, add-one, Fits, w8}
use Rattle.std.specs.Prelude.{◌==◌}
use Rattle.std.proofs.lemmas.Bool.Decides.{nat_tests}
use Rattle.std.proofs.lemmas.List.{take_more, take_all, map-append, get_or_default}
use Rattle.std.proofs.Math.Facts.{Fits-lt-pow}
use Rattle.nt_types.specs.declared.column_type.ColumnType.{ColumnType}
use Rattle.nt_types.specs.ColumnTable.{bits_of}
use Rattle.nt_encode.specs.Delta.{index_before}
use Rattle.nt_types.specs.declared.column_type.ColumnType.TheVariants.{Switch}
use Rattle.nt_encode.specs.Elements.{Element, plain, page_elements}
use Rattle.nt_encode.specs.Pages.{page_bytes, page_values, AllFit}
use Rattle.nt_encode.proofs.Elements.{page_elements-values}
use Rattle.nt_encode.proofs.Spelled.{spelled}
use Rattle.nt_column.proofs.Pages.{not_switch, page-bytes}
use Rattle.nt_column.specs.Bits.{bit_of}

-- one value more
pub values-more : (old now values : List ℕ) (i v : ℕ) → now ≡ old ++ take i values → i < length values → v ≡ get_or values i 0
    → now ++ v ∷ [] ≡ old ++ take (i + 1) values
values-more old now values i v is within read =
    rw (is, append_assoc, read, ← take_more values i 0 within) refl

-- all values
pub values-all : (old now values : List ℕ) (i : ℕ) → now ≡ old ++ take i values → length values ≤ i → now ≡ old ++ values
values-all old now values i is all = is ∙ ap (λ (vs : List ℕ). old ++ vs) (take_all i values all)

-- the value before the next
pub before-next : (values : List ℕ) (i v : ℕ) → v ≡ get_or values i 0 → v ≡ index_before values (i + 1)
before-next values i v read = rw add-one read

-- a number of one bit as a truth value
pub bit-of_value : (w v : ℕ) → w ≡ 1 → v < 2 ^ w → bit_of (v == 1) ≡ v
bit-of_value w v one fits = let small : v < 2 = rw one at fits in grind (arith, nat_tests)

-- behind these values as elements those of a page
pub elements-more : {A : Type 0} (f : A → ℕ) (kind : ColumnType) (n : ℕ) (bytes : List ℕ) (old now : List A) → kind ≢ Switch
    → map f now ≡ map f old ++ page_values kind n bytes
    → map (λ (x : A). plain (f x)) now ≡ map (λ (x : A). plain (f x)) old ++ page_elements kind n bytes
elements-more f kind n bytes old now other grown =
    rw (page_elements-values kind n bytes other) (sym (map-plain f now)
    ∙ (ap (λ (ns : List ℕ). map plain ns) grown ∙ map-append plain (map f old) (page_values kind n bytes)
    ∙ ap (λ (es : List Element). es ++ map plain (page_values kind n bytes)) (map-plain f old)))
  where
    map-plain : {A : Type 0} (f : A → ℕ) (xs : List A) → map plain (map f xs) ≡ map (λ (x : A). plain (f x)) xs
    map-plain f [] = refl
    map-plain f (x ∷ xs) = ap (λ (es : List Element). plain (f x) ∷ es) (map-plain f xs)

-- of numbers
pub plain-more : (kind : ColumnType) (n : ℕ) (bytes old now : List ℕ) → kind ≢ Switch → now ≡ old ++ page_values kind n bytes
    → map plain now ≡ map plain old ++ page_elements kind n bytes
plain-more kind n bytes old now other grown =
    rw (page_elements-values kind n bytes other, grown) (map-append plain old (page_values kind n bytes))

-- a page of bytes has them as its values
pub values-bytes : (kind : ColumnType) (n : ℕ) (bytes : List ℕ) → bits_of kind ≡ 8 → length bytes ≡ n
    → ((i : ℕ) → Fits w8 (get_or bytes i 0)) → page_values kind n bytes ≡ bytes
values-bytes kind n bytes width count fits =
    let other : kind ≢ Switch = not_switch kind 8 (sym width) (omega arith) in
    let each : AllFit kind bytes = λ k d h. rw (width, get_or_default bytes k d 0 h) (Fits-lt-pow (fits k)) in
    let same : page_bytes kind bytes ≡ bytes = page-bytes kind bytes width fits in
    sym (ap (λ (bs : List ℕ). page_values kind n bs) same) ∙ (ap (λ (m : ℕ). page_values kind m (page_bytes kind bytes)) (sym count)
    ∙ spelled kind bytes other each)
