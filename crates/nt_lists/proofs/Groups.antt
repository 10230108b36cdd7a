-- The groups of a list.
use Rattle.std.proofs.Common.{◌≡◌, ℕ, zero, suc, ◌+◌, ◌-◌, ◌*◌, ◌<◌, ◌≤◌, min, List, [], ◌++◌, length, map, drop, get_or, refl, sym, ◌∙◌}
use Rattle.std.proofs.Common.{ap, arith, add-one, add-zero, zero-add}
use Rattle.std.specs.Int.{div_ceil}
use Rattle.std.specs.List.{range_with_len, flat_map, slice_range}
use Rattle.std.proofs.lemmas.List.{length-map, length-take, length-drop, drop_all, drop-drop, take-append-drop, take_min}
use Rattle.std.proofs.lemmas.List.FromFn.{length-range_with_len, get_or-map-range_with_len}
use Rattle.std.proofs.lemmas.Grind.{div_ceil_times}
use Rattle.std.proofs.Math.Nat.{suc-mul, zero-mul, add-mul, mul-le-mul_right}
use Rattle.nt_lists.specs.Chunks.{chunk, chunks}

pub length-chunks : {A : Type 0} (n : ℕ) (xs : List A) → length (chunks n xs) ≡ div_ceil (length xs) n
length-chunks n xs = length-map (range_with_len 0 (div_ceil (length xs) n)) (chunk n xs) ∙ length-range_with_len 0 (div_ceil (length xs) n)

-- group i
pub chunks-at : {A : Type 0} (n : ℕ) (xs : List A) (i : ℕ) → i < length (chunks n xs) → get_or (chunks n xs) i [] ≡ chunk n xs i
chunks-at n xs i h =
    let count : i < div_ceil (length xs) n = omega (arith, length-chunks n xs) in
    get_or-map-range_with_len (chunk n xs) 0 (div_ceil (length xs) n) i i [] count (omega arith)

pub length-chunk : {A : Type 0} (n : ℕ) (xs : List A) (i : ℕ) → length (chunk n xs i) ≡ min n (length xs - i * n)
length-chunk n xs i =
    length-take (i * n + n - i * n) (drop (i * n) xs) ∙ (ap (λ (k : ℕ). min (i * n + n - i * n) k) (length-drop (i * n) xs)
    ∙ ap (λ (k : ℕ). min k (length xs - i * n)) (omega arith))

-- the groups from the k-th on are the rest of the list
joined-from : {A : Type 0} (n : ℕ) (xs : List A) (m k : ℕ) → length xs ≤ (k + m) * n
    → flat_map (λ (g : List A). g) (map (chunk n xs) (range_with_len k m)) ≡ drop (k * n) xs
joined-from n xs zero k enough = sym (drop_all (k * n) xs (rw add-zero at enough))
joined-from n xs (suc m) k enough =
    let order : k + 1 + m ≡ k + suc m = omega arith in
    let later : flat_map (λ (g : List _). g) (map (chunk n xs) (range_with_len (k + 1) m)) ≡ drop ((k + 1) * n) xs =
    joined-from n xs m (k + 1) (rw order enough) in
    let next : (k + 1) * n ≡ k * n + n = rw (add-one k, suc-mul k n) refl in
    let size : k * n + n - k * n ≡ n = omega arith in
    ap (λ (r : List _). chunk n xs k ++ r) later ∙ rw (next, size, ← drop-drop n (k * n) xs) (take-append-drop n (drop (k * n) xs))

pub chunks-joined : {A : Type 0} (n : ℕ) (xs : List A) → 0 < n → flat_map (λ (g : List A). g) (chunks n xs) ≡ xs
chunks-joined n xs some =
    joined-from n xs (div_ceil (length xs) n) 0 (rw zero-add (div_ceil_times (length xs) n some).0) ∙ ap (λ (k : ℕ). drop k xs) (zero-mul n)

-- a group before the last is full
pub chunk-full : {A : Type 0} (n : ℕ) (xs : List A) (i : ℕ) → 0 < n → i + 1 < length (chunks n xs) → length (get_or (chunks n xs) i []) ≡ n
chunk-full n xs i some h =
    let count : i + 2 ≤ div_ceil (length xs) n = omega (arith, length-chunks n xs) in
    let below : (i + 2) * n ≤ div_ceil (length xs) n * n = mul-le-mul_right n count in
    let parts : (i + 2) * n ≡ i * n + 2 * n = add-mul i 2 n in
    let bound : div_ceil (length xs) n * n < length xs + n = (div_ceil_times (length xs) n some).1 in
    ap length (chunks-at n xs i (omega arith)) ∙ (length-chunk n xs i ∙ omega arith)

-- the last one is not empty
pub chunk-last : {A : Type 0} (n : ℕ) (xs : List A) (i : ℕ) → 0 < n → i + 1 ≡ length (chunks n xs)
    → (0 < length (get_or (chunks n xs) i [])) × (length (get_or (chunks n xs) i []) ≤ n)
chunk-last n xs i some h =
    let count : i + 1 ≡ div_ceil (length xs) n = h ∙ length-chunks n xs in
    let same : (i + 1) * n ≡ div_ceil (length xs) n * n = ap (λ (k : ℕ). k * n) count in
    let parts : (i + 1) * n ≡ i * n + 1 * n = add-mul i 1 n in
    let bound : div_ceil (length xs) n * n < length xs + n = (div_ceil_times (length xs) n some).1 in
    let size : length (get_or (chunks n xs) i []) ≡ min n (length xs - i * n) = ap length (chunks-at n xs i (omega arith))
    ∙ length-chunk n xs i in
    (omega arith, omega arith)

-- a group begins before the list's end
pub chunk-begins : {A : Type 0} (n : ℕ) (xs : List A) (i : ℕ) → 0 < n → i < length (chunks n xs) → i * n < length xs
chunk-begins n xs i some h =
    let count : i + 1 ≤ div_ceil (length xs) n = omega (arith, length-chunks n xs) in
    let below : (i + 1) * n ≤ div_ceil (length xs) n * n = mul-le-mul_right n count in
    let parts : (i + 1) * n ≡ i * n + 1 * n = add-mul i 1 n in
    let bound : div_ceil (length xs) n * n < length xs + n = (div_ceil_times (length xs) n some).1 in
    omega arith

-- group i ends at the list's end, if not before
chunk-is : {A : Type 0} (n : ℕ) (xs : List A) (i : ℕ) → chunk n xs i ≡ slice_range xs (i * n) (i * n + min (length xs - i * n) n)
chunk-is n xs i =
    let whole : i * n + n - i * n ≡ n = omega arith in
    let least : i * n + min (length xs - i * n) n - i * n ≡ min n (length (drop (i * n) xs)) = omega (arith, length-drop (i * n) xs) in
    rw (whole, least) (sym (take_min n (drop (i * n) xs)))

pub chunk-at : {A : Type 0} (n : ℕ) (xs : List A) (i : ℕ) → i < length (chunks n xs)
    → get_or (chunks n xs) i [] ≡ slice_range xs (i * n) (i * n + min (length xs - i * n) n)
chunk-at n xs i h =
    let count : i < div_ceil (length xs) n = omega (arith, length-chunks n xs) in
    get_or-map-range_with_len (chunk n xs) 0 (div_ceil (length xs) n) i i [] count (omega arith) ∙ chunk-is n xs i

-- the same, with the numbers that were read
pub chunk-read : {A : Type 0} (n : ℕ) (xs : List A) (i count size : ℕ) → i < length (chunks n xs) → count ≡ length xs
    → size ≡ min (count - i * n) n
    → get_or (chunks n xs) i [] ≡ slice_range xs (i * n) (i * n + size)
chunk-read n xs i count size h all part = rw (part, all) (chunk-at n xs i h)
