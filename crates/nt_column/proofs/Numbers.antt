-- The numbers and tags of elements.
use Rattle.std.proofs.Common.{◌≡◌, ℕ, zero, suc, ◌+◌, ◌-◌, ◌%◌, ◌^◌, ◌<◌, ◌≤◌, Bool, List, [], ◌∷◌, ◌++◌, length, map, take, drop, get_or}
use Rattle.std.proofs.Common.{replicate, true, false, refl, sym, ◌∙◌, ap, arith, Fits, w8}
use Rattle.std.specs.List.{slice_range}
use Rattle.std.specs.Int.{from_bool}
use Rattle.std.proofs.lemmas.List.{take-map, drop-map, length-map, get_or_read, get_or-map, map_push, ext_get_or}
use Rattle.std.proofs.lemmas.List.{length-take-le, length-drop, get_or-take, get_or-drop}
use Rattle.std.proofs.lemmas.List.Edits.{between_more}
use Rattle.std.proofs.Math.Facts.{Fits-lt-pow}
use Rattle.std.proofs.Math.Nat.{mod-eq_of_lt}
use Rattle.nt_encode.proofs.Lists.{Filled}
use Rattle.nt_column.specs.Elements.{Element, plain, numbers, tags, text_of}
use Rattle.nt_column.specs.Bits.{bit_of}

-- the numbers of a part are a part of the numbers
pub numbers-range : (es : List Element) (a b : ℕ) → numbers (slice_range es a b) ≡ slice_range (numbers es) a b
numbers-range es a b =
    sym (take-map (λ (e : Element). e.0) (b - a) _) ∙ ap (take (b - a)) (sym (drop-map (λ (e : Element). e.0) a es))

-- and so are the tags
pub tags-range : (es : List Element) (a b : ℕ) → tags (slice_range es a b) ≡ slice_range (tags es) a b
tags-range es a b =
    sym (take-map (λ (e : Element). e.1) (b - a) _) ∙ ap (take (b - a)) (sym (drop-map (λ (e : Element). e.1) a es))

pub length-numbers : (es : List Element) → length (numbers es) ≡ length es
length-numbers es = length-map es (λ (e : Element). e.0)

-- numbers alone come back
pub numbers-plain : {A : Type 0} (f : A → ℕ) (xs : List A) → numbers (map (λ (x : A). plain (f x)) xs) ≡ map f xs
numbers-plain f [] = refl
numbers-plain f (x ∷ xs) = ap (λ (ns : List ℕ). f x ∷ ns) (numbers-plain f xs)

pub numbers-plain_list : (xs : List ℕ) → numbers (map plain xs) ≡ xs
numbers-plain_list [] = refl
numbers-plain_list (x ∷ xs) = ap (λ (ns : List ℕ). x ∷ ns) (numbers-plain_list xs)

-- their tags are 0
pub tag-plain : {A : Type 0} (f : A → ℕ) (xs : List A) (i : ℕ) → get_or (tags (map (λ (x : A). plain (f x)) xs)) i 0 ≡ 0
tag-plain f [] i = refl
tag-plain f (x ∷ xs) zero = refl
tag-plain f (x ∷ xs) (suc i) = tag-plain f xs i

-- zeros before nothing are zeros
pub number-zeros : (n i : ℕ) → get_or (numbers (replicate n (plain 0) ++ [])) i 0 ≡ 0
number-zeros zero i = refl
number-zeros (suc n) zero = refl
number-zeros (suc n) (suc i) = number-zeros n i

pub tag-zeros : (n i : ℕ) → get_or (tags (replicate n (plain 0) ++ [])) i 0 ≡ 0
tag-zeros zero i = refl
tag-zeros (suc n) zero = refl
tag-zeros (suc n) (suc i) = tag-zeros n i

-- a number that was read from its list
pub number-read : (xs : List ℕ) (i x : ℕ) → i < length xs → x ≡ get_or xs i x → x ≡ get_or (numbers (map plain xs)) i 0
number-read xs i x within read = get_or_read xs i x within read 0 ∙ ap (λ (ns : List ℕ). get_or ns i 0) (sym (numbers-plain_list xs))

-- a bit that was read from its list
pub bit-read : (bs : List Bool) (i : ℕ) (b : Bool) → i < length bs → b ≡ get_or bs i b
    → bit_of b ≡ get_or (numbers (map (λ (x : Bool). plain (bit_of x)) bs)) i 0
bit-read bs i b within read =
    ap bit_of read ∙ (sym (get_or-map bit_of bs i b 0 within) ∙ ap (λ (ns : List ℕ). get_or ns i 0) (sym (numbers-plain bit_of bs)))

-- a truth value read as a number
pub bit-byte : (b : Bool) (n : ℕ) → n ≡ from_bool b → n ≡ bit_of b
bit-byte true n is = is
bit-byte false n is = is

-- bytes are their own low bytes
pub low-bytes : (xs : List ℕ) → ((i : ℕ) → Fits w8 (get_or xs i 0)) → map (λ (n : ℕ). n % 256) xs ≡ xs
low-bytes [] fits = refl
low-bytes (x ∷ xs) fits =
    let first : x < 256 = Fits-lt-pow (fits 0) in
    rw (mod-eq_of_lt first, low-bytes xs (λ i. fits (suc i))) refl

-- the text of bytes
pub text-bytes : (xs : List ℕ) → ((i : ℕ) → Fits w8 (get_or xs i 0)) → xs ≡ text_of (map plain xs)
text-bytes xs fits = rw (numbers-plain_list xs) (sym (low-bytes xs fits))

-- the elements of a part of what is kept
pub elements-range : {A : Type 0} (f : A → Element) (xs ys : List A) (a b : ℕ) → xs ≡ ys
    → map f (slice_range xs a b) ≡ slice_range (map f ys) a b
elements-range {A = A} f xs ys a b is =
    sym (ap (take (b - a)) (drop-map f a xs) ∙ take-map f (b - a) (drop a xs))
    ∙ ap (λ (l : List A). slice_range (map f l) a b) is

-- numbers that are read from a place on
pub numbers-read : (ns out : List ℕ) (from n : ℕ) → n ≤ length out → from + n ≤ length ns → Filled out n (λ p. get_or ns (from + p) 0)
    → take n out ≡ slice_range ns from (from + n)
numbers-read ns out from n room within filled =
    let count : from + n - from ≡ n = omega arith in
    let len : length (take n out) ≡ n = length-take-le n out room in
    let rest : length (take n (drop from ns)) ≡ n = length-take-le n (drop from ns) (omega (arith, length-drop from ns, within)) in
    rw count (ext_get_or 0 (take n out) (take n (drop from ns)) (len ∙ sym rest)
    (λ i h.
    let below : i < n = omega (arith, h, len) in
    get_or-take n out i 0 below
    ∙ (filled i below ∙ sym (get_or-take n (drop from ns) i 0 below ∙ get_or-drop from ns i 0))))

-- one element more
pub text-more : (es : List Element) (a i n : ℕ) → a ≤ i → i < length es → n ≡ get_or (numbers es) i 0
    → text_of (slice_range es a (i + 1)) ≡ text_of (slice_range es a i) ++ (n % 256) ∷ []
text-more es a i n order within read =
    let count : i < length (numbers es) = rw length-numbers within in
    let one : slice_range (numbers es) a (i + 1) ≡ slice_range (numbers es) a i ++ get_or (numbers es) i 0 ∷ [] =
    between_more (numbers es) a i 0 order count in
    rw (numbers-range es a (i + 1), numbers-range es a i, one, ← read) (map_push (λ (m : ℕ). m % 256) (slice_range (numbers es) a i) n)

-- a truth value is 0 or 1
pub bit-lt : (b : Bool) → bit_of b < 2 ^ 1
bit-lt true = omega arith
bit-lt false = omega arith

-- a truth value has one bit
pub bits-fit : (w : ℕ) (bs : List Bool) (xs : List ℕ) → w ≡ 1 → xs ≡ map bit_of bs → (k d : ℕ) → k < length xs → get_or xs k d < 2 ^ w
bits-fit w bs xs one is k d within =
    let count : k < length bs = rw (is, length-map) at within in
    rw (is, one, get_or-map bit_of bs k true d count) (bit-lt (get_or bs k true))

-- zeros are numbers and tags that are 0
pub numbers-replicate : (n : ℕ) → numbers (replicate n (plain 0)) ≡ replicate n 0
numbers-replicate zero = refl
numbers-replicate (suc n) = ap (λ (ns : List ℕ). 0 ∷ ns) (numbers-replicate n)

pub tags-replicate : (n : ℕ) → tags (replicate n (plain 0)) ≡ replicate n 0
tags-replicate zero = refl
tags-replicate (suc n) = ap (λ (ns : List ℕ). 0 ∷ ns) (tags-replicate n)
