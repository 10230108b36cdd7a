-- The elements of columns of a table.
use Rattle.std.proofs.Common.{◌≡◌, ℕ, ◌+◌, ◌-◌, ◌<◌, ◌≤◌, List, [], length, take, get_or, replicate, sym, ap, ◌∙◌, arith}
use Rattle.std.specs.List.{slice_range}
use Rattle.std.proofs.lemmas.List.{length-map, append-nil, get_or-map, take-replicate, drop-replicate}
use Rattle.nt_types.specs.declared.column_type.ColumnType.{ColumnType}
use Rattle.nt_encode.specs.Elements.{Element, plain, numbers, tags}
use Rattle.nt_column.specs.Column.{Column, Buffer, columns_of, elements_at}
use Rattle.nt_column.proofs.Numbers.{numbers-replicate, number-zeros, tag-zeros}
use Rattle.nt_view.specs.declared.table.Table.{Table}
use Rattle.nt_view.specs.declared.table.Held.{Held}
use Rattle.nt_view.specs.declared.table.Held.TheVariants.{Zeros, Pages, Sums}
use Rattle.nt_view.specs.Pages.{count_of}
use Rattle.nt_view.specs.Table.{held_at, elements_held, elements_in_table, IsColumnOf, IsHeldThere}
use Rattle.nt_view.proofs.Elements.{length-elements_of_pages}

-- the elements of a column that is held so
pub held-is : (store : List ℕ) (t : Table) (k : ℕ) (h : Held) → h ≡ held_at t.columns.items k
    → elements_in_table store t k ≡ elements_held store t.places.items t.sums.items h
held-is store t k h is = ap (λ (x : Held). elements_held store t.places.items t.sums.items x) (sym is)

pub there-is : (store : List ℕ) (t : Table) (k : ℕ) (h : Held) → h ≡ held_at t.columns.items k → IsColumnOf store t k
    → IsHeldThere store t.places.items t.sums.items h
there-is store t k h is there = rw is there

-- numbers that were added up are those of their buffer
pub sums-at : (bs : List Buffer) (s : ℕ) (b : Buffer) → b ≡ get_or bs s b → s < length bs
    → elements_at (columns_of bs) s ≡ b.column.elements
sums-at bs s b is lt =
    let column : Buffer → Column = λ x. x.column in
    let elements : Column → List Element = λ c. c.elements in
    get_or-map elements (columns_of bs) s b.column [] (omega (arith, length-map bs column))
    ∙ ap elements (get_or-map column bs s b b.column lt) ∙ ap (λ (x : Buffer). x.column.elements) (sym is)

pub sums-in : (store : List ℕ) (t : Table) (k s : ℕ) (b : Buffer) → Sums s ≡ held_at t.columns.items k → b ≡ get_or t.sums.items s b
    → IsColumnOf store t k → elements_in_table store t k ≡ b.column.elements
sums-in store t k s b is here there =
    held-is store t k (Sums s) is ∙ sums-at t.sums.items s b here (there-is store t k (Sums s) is there)

-- a column has as many elements as its pages
pub pages-in : (store : List ℕ) (t : Table) (k begin end count : ℕ) (kind : ColumnType) → Pages kind begin end count
    ≡ held_at t.columns.items k
    → length (elements_in_table store t k) ≡ count_of (slice_range t.places.items begin end)
pages-in store t k begin end count kind is =
    ap length (held-is store t k (Pages kind begin end count) is)
    ∙ length-elements_of_pages kind store (slice_range t.places.items begin end)

pub count-in : (store : List ℕ) (t : Table) (k begin end count : ℕ) (kind : ColumnType) → Pages kind begin end count
    ≡ held_at t.columns.items k
    → IsColumnOf store t k → count ≡ length (elements_in_table store t k)
count-in store t k begin end count kind is there =
    (there-is store t k (Pages kind begin end count) is there).all ∙ sym (pages-in store t k begin end count kind is)

-- zeros are numbers and tags that are 0
zero-number : (n i : ℕ) → 0 ≡ get_or (numbers (replicate n (plain 0))) i 0
zero-number n i = sym (rw append-nil at (number-zeros n i))

zero-tag : (n i : ℕ) → 0 ≡ get_or (tags (replicate n (plain 0))) i 0
zero-tag n i = sym (rw append-nil at (tag-zeros n i))

pub zeros-number : (store : List ℕ) (t : Table) (k n i : ℕ) → Zeros n ≡ held_at t.columns.items k
    → 0 ≡ get_or (numbers (elements_in_table store t k)) i 0
zeros-number store t k n i is = rw (held-is store t k (Zeros n) is) (zero-number n i)

pub zeros-tag : (store : List ℕ) (t : Table) (k n i : ℕ) → Zeros n ≡ held_at t.columns.items k
    → 0 ≡ get_or (tags (elements_in_table store t k)) i 0
zeros-tag store t k n i is = rw (held-is store t k (Zeros n) is) (zero-tag n i)

-- a part of zeros
pub zeros-part : (n from more z : ℕ) → from + more ≤ n → replicate more z ≡ slice_range (replicate n z) from (from + more)
zeros-part n from more z within =
    let count : from + more - from ≡ more = omega arith in
    rw count (sym (ap (take more) (drop-replicate from n z) ∙ take-replicate more (n - from) z (omega (arith, within))))

pub zeros-read : (store : List ℕ) (t : Table) (k n from more : ℕ) → Zeros n ≡ held_at t.columns.items k → from + more ≤ n
    → replicate more 0 ≡ slice_range (numbers (elements_in_table store t k)) from (from + more)
zeros-read store t k n from more is within =
    rw (held-is store t k (Zeros n) is, numbers-replicate n) (zeros-part n from more 0 within)
