-- What is seen of the columns of a set.
use Rattle.std.proofs.Common.{◌≡◌, ℕ, zero, suc, ◌+◌, ◌<◌, List, [], ◌∷◌, ◌++◌, length, map, take, drop, get_or, slice_get, Some, refl, sym}
use Rattle.std.proofs.Common.{◌∙◌, ap, subst, inl, inr, arith}
use Rattle.std.proofs.lemmas.Bool.{cases_lt}
use Rattle.std.proofs.Math.ListN.{set}
use Rattle.nt_types.specs.declared.column_type.ColumnType.{ColumnType}
use Rattle.nt_column.specs.Elements.{AreElementsOf}
use Rattle.std.proofs.lemmas.List.{map-set, length-map, length-append, take-append-drop, length-take-le, drop_more, get_or_at, set_at}
use Rattle.std.proofs.lemmas.List.{append_assoc, map_more, get_or-map, get_or_default}
use Rattle.std.specs.Option.{option_map}
use Rattle.std.proofs.lemmas.Option.{slice_get-map}
use Rattle.nt_column.specs.Column.{Column, Buffer, empty, changed, columns_of, elements_at, kind_at, IsInRange}

-- the elements of a column are those of its buffer
pub elements-at : (bs : List Buffer) (k : ℕ) (b : Buffer) → slice_get bs k ≡ Some b → elements_at (columns_of bs) k ≡ b.column.elements
elements-at [] k b at = absurd (cc)
elements-at (x ∷ bs) zero b at = let same : x ≡ b = cc in ap (λ (y : Buffer). y.column.elements) same
elements-at (x ∷ bs) (suc k) b at = elements-at bs k b at

pub column-there : (bs : List Buffer) (k i : ℕ) → i < length (elements_at (columns_of bs) k) → k < length bs
column-there [] k i within = absurd (omega arith)
column-there (x ∷ bs) zero i within = omega arith
column-there (x ∷ bs) (suc k) i within = omega (arith, column-there bs k i within)

-- one buffer more is changed
pub columns-set : (bs : List Buffer) (k : ℕ) (b : Buffer) (c : Column) → b.column ≡ c → columns_of (set bs k b) ≡ set (columns_of bs) k c
columns-set bs k b c is = map-set (λ (x : Buffer). x.column) bs k b ∙ ap (set (columns_of bs) k) is

-- one column more is emptied
pub emptied-next : (old now : List Column) (i : ℕ) (c d : Column) → now ≡ map (λ (x : Column). empty x.kind) (take i old) ++ drop i old
    → i < length old → c ≡ empty (get_or now i d).kind
    → set now i c ≡ map (λ (x : Column). empty x.kind) (take (i + 1) old) ++ drop (i + 1) old
emptied-next old now i c d is within new =
    let front : List Column = map (λ (x : Column). empty x.kind) (take i old) in
    let count : length front ≡ i = length-map (take i old) (λ (x : Column). empty x.kind) ∙ length-take-le i old (omega arith) in
    let parts : now ≡ front ++ get_or old i d ∷ drop (i + 1) old = is ∙ ap (λ (xs : List Column). front ++ xs) (drop_more old i d within) in
    let here : get_or now i d ≡ get_or old i d = ap (λ (xs : List Column). get_or xs i d) parts
    ∙ get_or_at front (get_or old i d) (drop (i + 1) old) d i count in
    let written : set now i c ≡ front ++ c ∷ drop (i + 1) old = ap (λ (xs : List Column). set xs i c) parts
    ∙ set_at front (get_or old i d) (drop (i + 1) old) c i count in
    let item : c ≡ empty (get_or old i d).kind = new ∙ ap (λ (x : Column). empty x.kind) here in
    written ∙ (ap (λ (x : Column). front ++ x ∷ drop (i + 1) old) item
    ∙ (sym (append_assoc front (empty (get_or old i d).kind ∷ []) (drop (i + 1) old))
    ∙ ap (λ (xs : List Column). xs ++ drop (i + 1) old) (sym (map_more (λ (x : Column). empty x.kind) old i d within))))

-- no column comes or goes
pub emptied-length : (old now : List Column) (i : ℕ) → now ≡ map (λ (x : Column). empty x.kind) (take i old) ++ drop i old
    → length now ≡ length old
emptied-length old now i is =
    ap length is ∙ (length-append (map (λ (x : Column). empty x.kind) (take i old)) (drop i old)
    ∙ rw (length-map (take i old) (λ (x : Column). empty x.kind))
    (sym (length-append (take i old) (drop i old)) ∙ ap length (take-append-drop i old)))

-- what was read of a buffer is read of its column
pub column-read : (bs : List Buffer) (i : ℕ) (b : Buffer) → i < length bs → b ≡ get_or bs i b → b.column ≡ get_or (columns_of bs) i b.column
column-read bs i b within read = ap (λ (x : Buffer). x.column) read ∙ sym (get_or-map (λ (x : Buffer). x.column) bs i b b.column within)

-- one column is changed
pub columns-changed : (f : Column → Column) (bs : List Buffer) (k : ℕ) (b new : Buffer) → slice_get bs k ≡ Some b → new.column ≡ f b.column
    → columns_of (set bs k new) ≡ changed f k (columns_of bs)
columns-changed f [] k b new at is = refl
columns-changed f (x ∷ bs) zero b new at is =
    let same : x ≡ b = cc in
    ap (λ (c : Column). c ∷ columns_of bs) (is ∙ ap (λ (y : Buffer). f y.column) (sym same))
columns-changed f (x ∷ bs) (suc k) b new at is = ap (λ (cs : List Column). x.column ∷ cs) (columns-changed f bs k b new at is)

-- the column of a buffer, where all columns are known
pub column-known : (bs : List Buffer) (cs : List Column) (k : ℕ) (b : Buffer) → columns_of bs ≡ cs → slice_get bs k ≡ Some b
    → slice_get cs k ≡ Some b.column
column-known bs cs k b known at =
    ap (λ (xs : List Column). slice_get xs k) (sym known)
    ∙ (slice_get-map (λ (x : Buffer). x.column) bs k ∙ ap (option_map (λ (x : Buffer). x.column)) at)

-- one column more is in its range
pub in_range-next : (bs : List Buffer) (i : ℕ) (b : Buffer) → ((k : ℕ) (d : Buffer) → k < i → IsInRange (get_or bs k d).column)
    → i < length bs → b ≡ get_or bs i b → IsInRange b.column
    → (k : ℕ) (d : Buffer) → k < i + 1 → IsInRange (get_or bs k d).column
in_range-next bs i b before within read here k d h =
    elim (cases_lt k i) [
      | inl low ↦ before k d low
      | inr high ↦
          let last : k ≡ i = omega arith in
          rw (last, get_or_default bs i d b within, ← read) here
    ]

-- of columns in their ranges, what is seen by id
pub in_range-at : (bs : List Buffer) → ((k : ℕ) (d : Buffer) → k < length bs → IsInRange (get_or bs k d).column) → (k : ℕ) (t : ColumnType)
    → kind_at (columns_of bs) k ≡ Some t → AreElementsOf t (elements_at (columns_of bs) k)
in_range-at [] all k t is = absurd (cc)
in_range-at (b ∷ bs) all zero t is =
    let same : b.column.kind ≡ t = cc in
    subst (λ (x : ColumnType). AreElementsOf x b.column.elements) same (all 0 b (omega arith))
in_range-at (b ∷ bs) all (suc k) t is = in_range-at bs (λ j d h. all (suc j) d (omega arith)) k t is
