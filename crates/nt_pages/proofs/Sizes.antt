-- How long pages are, one after the other.
use Rattle.std.proofs.Common.{◌≡◌, ℕ, zero, suc, ◌+◌, ◌-◌, ◌*◌, ◌/◌, ◌%◌, ◌^◌, ◌<◌, ◌≤◌, min, List, ◌∷◌, length, map, refl, sym, arith}
use Rattle.std.proofs.Common.{◌∙◌, ap, replicate, add-zero, zero-add, Option, None, Some}
use Rattle.std.specs.Option.{SomeIff, IfSome}
use Rattle.std.specs.Int.{w64, to_le_bytes, div_ceil}
use Rattle.std.specs.List.{flat_map, range_with_len}
use Rattle.std.proofs.lemmas.List.{length-append, length-replicate}
use Rattle.std.proofs.Math.Nat.{add-mul, suc-mul, zero-mul, mul_comm, div-add-mod, mod-lt}
use Rattle.nt_types.specs.declared.column_type.ColumnType.{ColumnType}
use Rattle.nt_encode.specs.Pages.{page_size}
use Rattle.nt_xxh3.specs.Sum.{xxh3}
use Rattle.nt_column.specs.Elements.{Element, page_of}
use Rattle.nt_lists.specs.Chunks.{chunk, chunks}
use Rattle.nt_lists.proofs.Groups.{length-chunk}
use Rattle.nt_column.specs.Column.{Column}
use Rattle.nt_pages.specs.Image.{stored_page, column_bytes, payload, image}

-- pages have the size of their type and count
abbrev pub Sized : ColumnType → Type 0
Sized kind = (es : List Element) → length (page_of kind es) ≡ page_size kind (length es)

length-stored : (kind : ColumnType) → Sized kind → (es : List Element) → length (stored_page kind es) ≡ page_size kind (length es) + 8
length-stored kind sized es = length-append (page_of kind es) (to_le_bytes w64 (xxh3 (page_of kind es))) ∙ ap (λ (n : ℕ). n + 8) (sized es)

-- one group more
one-more : (kind : ColumnType) (n : ℕ) (es : List Element) (k m : ℕ)
    → length (flat_map (stored_page kind) (map (chunk n es) (range_with_len k (suc m))))
    ≡ length (stored_page kind (chunk n es k)) + length (flat_map (stored_page kind) (map (chunk n es) (range_with_len (k + 1) m)))
one-more kind n es k m =
    length-append (stored_page kind (chunk n es k)) (flat_map (stored_page kind) (map (chunk n es) (range_with_len (k + 1) m)))

-- a group that has a whole one behind its beginning is full
full-size : (n k m len : ℕ) → (k + suc m) * n ≤ len → min n (len - k * n) ≡ n
full-size n k m len within =
    let parts : (k + suc m) * n ≡ k * n + suc m * n = add-mul k (suc m) n in
    let last : suc m * n ≡ m * n + n = suc-mul m n in
    omega arith

full-stored : (kind : ColumnType) → Sized kind → (n : ℕ) (es : List Element) (k m : ℕ) → (k + suc m) * n ≤ length es
    → length (stored_page kind (chunk n es k)) ≡ page_size kind n + 8
full-stored kind sized n es k m within =
    length-stored kind sized (chunk n es k)
    ∙ ap (λ (c : ℕ). page_size kind c + 8) (length-chunk n es k ∙ full-size n k m (length es) within)

-- m full groups from the k-th on
full-groups : (kind : ColumnType) → Sized kind → (n : ℕ) (es : List Element) (m k : ℕ) → (k + m) * n ≤ length es
    → length (flat_map (stored_page kind) (map (chunk n es) (range_with_len k m))) ≡ m * (page_size kind n + 8)
full-groups kind sized n es zero k within = sym (zero-mul (page_size kind n + 8))
full-groups kind sized n es (suc m) k within =
    let order : k + 1 + m ≡ k + suc m = omega arith in
    let rest : length (flat_map (stored_page kind) (map (chunk n es) (range_with_len (k + 1) m))) ≡ m * (page_size kind n + 8) =
    full-groups kind sized n es m (k + 1) (rw order within) in
    one-more kind n es k m ∙ rw (full-stored kind sized n es k m within, rest, suc-mul m (page_size kind n + 8)) (omega arith)

-- and a last one that is not
last-group : (kind : ColumnType) → Sized kind → (n : ℕ) (es : List Element) (m k : ℕ) → (k + m) * n ≤ length es
    → length es - (k + m) * n < n
    → length (flat_map (stored_page kind) (map (chunk n es) (range_with_len k (suc m)))) ≡ m * (page_size kind n + 8) +
    (page_size kind (length es - (k + m) * n) + 8)
last-group kind sized n es zero k within short =
    let here : k + 0 ≡ k = add-zero k in
    let bound : length es - k * n < n = rw here at short in
    let size : length (chunk n es k) ≡ length es - k * n = length-chunk n es k ∙ omega arith in
    let page : length (stored_page kind (chunk n es k)) ≡ page_size kind (length es - k * n) + 8 =
    length-stored kind sized (chunk n es k) ∙ ap (λ (c : ℕ). page_size kind c + 8) size in
    one-more kind n es k 0 ∙ rw (page, here, zero-mul (page_size kind n + 8)) (omega arith)
last-group kind sized n es (suc m) k within short =
    let order : k + 1 + m ≡ k + suc m = omega arith in
    let rest : length (flat_map (stored_page kind) (map (chunk n es) (range_with_len (k + 1) (suc m))))
    ≡ m * (page_size kind n + 8) + (page_size kind (length es - (k + suc m) * n) + 8) =
    rw order at (last-group kind sized n es m (k + 1) (rw order within) (rw order short)) in
    one-more kind n es k (suc m) ∙ rw (full-stored kind sized n es k m within, rest, suc-mul m (page_size kind n + 8)) (omega arith)

-- the size of a column whose last page is full
pub size-full : (kind : ColumnType) → Sized kind → (n : ℕ) (es : List Element) (s : ℕ) → 0 < n → length es % n ≡ 0
    → s ≡ length es / n * (page_size kind n + 8)
    → s ≡ length (flat_map (stored_page kind) (chunks n es))
size-full kind sized n es s some none is =
    let count : div_ceil (length es) n ≡ length es / n = omega arith in
    let whole : n * (length es / n) + length es % n ≡ length es = div-add-mod (length es) n in
    let within : (0 + length es / n) * n ≤ length es = rw (zero-add, mul_comm (length es / n) n) (omega arith) in
    rw count (is ∙ sym (full-groups kind sized n es (length es / n) 0 within))

-- and of one whose last page is shorter
pub size-short : (kind : ColumnType) → Sized kind → (n : ℕ) (es : List Element) (s : ℕ) → 0 < n → 0 < length es % n
    → s ≡ length es / n * (page_size kind n + 8) + (page_size kind (length es % n) + 8)
    → s ≡ length (flat_map (stored_page kind) (chunks n es))
size-short kind sized n es s some rest is =
    let count : div_ceil (length es) n ≡ suc (length es / n) = omega arith in
    let whole : n * (length es / n) + length es % n ≡ length es = div-add-mod (length es) n in
    let place : (0 + length es / n) * n ≡ n * (length es / n) = rw zero-add (mul_comm (length es / n) n) in
    let left : length es - (0 + length es / n) * n ≡ length es % n = omega arith in
    let below : length es % n < n = mod-lt (length es) some in
    let last = last-group kind sized n es (length es / n) 0 (omega arith) (omega arith) in
    rw count (is ∙ sym (rw left at last))

-- the full pages of a column are no longer than all
least-by : (kind : ColumnType) → Sized kind → (n : ℕ) (es : List Element) (r : ℕ) → 0 < n → length es % n ≡ r
    → length es / n * (page_size kind n + 8) ≤ length (flat_map (stored_page kind) (chunks n es))
least-by kind sized n es zero some is =
    let whole : length es / n * (page_size kind n + 8) ≡ length (flat_map (stored_page kind) (chunks n es)) =
    size-full kind sized n es (length es / n * (page_size kind n + 8)) some is refl in
    omega arith
least-by kind sized n es (suc r) some is =
    let whole : length es / n * (page_size kind n + 8) + (page_size kind (length es % n) + 8)
    ≡ length (flat_map (stored_page kind) (chunks n es)) =
    size-short kind sized n es _ some (omega arith) refl in
    omega arith

pub full-least : (kind : ColumnType) → Sized kind → (n : ℕ) (es : List Element) → 0 < n
    → length es / n * (page_size kind n + 8) ≤ length (flat_map (stored_page kind) (chunks n es))
full-least kind sized n es some = least-by kind sized n es (length es % n) some refl

-- what a number that is too large to be told is at most is too large as well
pub none-is : (v w : ℕ) → (v < 2 ^ 64 → ⊥) → v ≤ w → 2 ^ 64 ≤ w
none-is v w large most = omega (arith, large)

pub none-of : (r : Option ℕ) (v w : ℕ) → SomeIff r (v < 2 ^ 64) v → v ≡ w → r ≡ None → 2 ^ 64 ≤ w
none-of None v w large same is = none-is v w large (omega arith)
none-of (Some n) v w large same is = cc

-- a sum that was checked
pub sum-is : (r : Option ℕ) (P : Type 0) (v w : ℕ) → SomeIff r P v → v ≡ w → IfSome r (λ n. n ≡ w)
sum-is None P v w answer same = tt
sum-is (Some n) P v w answer same = answer.1 ∙ same

-- the size of an image begins with its room
pub size-first : (page : ℕ) (cs : List Column) → 42 + length (flat_map (column_bytes page) cs) ≡ length (image page cs)
size-first page cs = sym (length-append (replicate {A = ℕ} 42 0) (payload page cs) ∙ rw (length-replicate {A = ℕ} 42 0) refl)

-- the columns up to one are no longer than all
pub size-least : (page old all : ℕ) (left rest : List Column) (c : Column) → left ≡ c ∷ rest
    → old + length (flat_map (column_bytes page) left) ≡ all → old + length (column_bytes page c) ≤ all
size-least page old all left rest c parts is =
    let split : length (flat_map (column_bytes page) left) ≡ length (column_bytes page c) + length (flat_map (column_bytes page) rest) =
    rw parts (length-append (column_bytes page c) (flat_map (column_bytes page) rest)) in
    omega arith

-- and goes on by a column
pub size-next : (page old new all : ℕ) (left rest : List Column) (c : Column) → left ≡ c ∷ rest → new ≡ old + length (column_bytes page c)
    → old + length (flat_map (column_bytes page) left) ≡ all → new + length (flat_map (column_bytes page) rest) ≡ all
size-next page old new all left rest c parts more is =
    let split : length (flat_map (column_bytes page) left) ≡ length (column_bytes page c) + length (flat_map (column_bytes page) rest) =
    rw parts (length-append (column_bytes page c) (flat_map (column_bytes page) rest)) in
    omega arith
