-- One column of a set is changed.
use Rattle.std.proofs.Common.{◌≡◌, ℕ, zero, suc, ◌+◌, ◌<◌, ◌≤◌, ◌==◌, Bool, false, if◌then◌else◌, List, [], ◌∷◌, ◌++◌, length, map}
use Rattle.std.proofs.Common.{slice_get, Some, refl, sym, ◌∙◌, ap, arith, append-nil, length-append, inl, inr, ◌⊎◌}
use Rattle.std.proofs.Math.ListN.{set}
use Rattle.std.proofs.lemmas.Bool.{ne_eqb, eq-eqb, cases_eq}
use Rattle.std.proofs.lemmas.List.{length-map}
use Rattle.nt_types.specs.declared.column_type.ColumnType.{ColumnType}
use Rattle.nt_column.specs.Column.{Column, Buffer, with_more, columns_of, elements_at}
use Rattle.nt_column.specs.Elements.{Element}
use Rattle.nt_trees.specs.Columns.{Cols, add_to}
use Rattle.nt_trees.specs.Views.{cols_of}
use Rattle.nt_trees.proofs.Elsewhere.{add_to-here}
use Rattle.nt_trees.proofs.Lists.{Extends}
use Rattle.nt_shred.specs.Frame.{set_frame, capacity_at, ends_below, FitsIn}
use Rattle.nt_shred.specs.Steps.{GainsInRoom}

suc-same : (j k : ℕ) → (suc j == suc k) ≡ (j == k)
suc-same j k = go (cases_eq j k)
  where
    go : (j ≡ k) ⊎ (j ≡ k → ⊥) → (suc j == suc k) ≡ (j == k)
    go (inl e) = eq-eqb (suc j) (suc k) (ap suc e) ∙ sym (eq-eqb j k e)
    go (inr apart) = ne_eqb (suc j) (suc k) (λ e. apart (omega arith)) ∙ sym (ne_eqb j k apart)

elements-set : (bs : List Buffer) (k : ℕ) (b new : Buffer) (es : List Element) → slice_get bs k ≡ Some b
    → new.column ≡ with_more b.column es
    → (j : ℕ) → elements_at (columns_of (set bs k new)) j ≡ elements_at (columns_of bs) j ++ (if j == k then es else [])
elements-set [] k b new es at is j = absurd (cc)
elements-set (x ∷ bs) zero b new es at is zero =
    let same : x ≡ b = cc in
    ap (λ (c : Column). c.elements) is ∙ ap (λ (y : Buffer). y.column.elements ++ es) (sym same)
elements-set (x ∷ bs) zero b new es at is (suc j) =
    let no : (suc j == 0) ≡ false = ne_eqb (suc j) 0 (λ e. omega arith) in rw no (sym (append-nil (elements_at (columns_of bs) j)))
elements-set (x ∷ bs) (suc k) b new es at is zero =
    let no : (0 == suc k) ≡ false = ne_eqb 0 (suc k) (λ e. omega arith) in rw no (sym (append-nil x.column.elements))
elements-set (x ∷ bs) (suc k) b new es at is (suc j) =
    elements-set bs k b new es at is j ∙ ap (λ (t : Bool). elements_at (columns_of bs) j ++ (if t then es else [])) (sym (suc-same j k))

frame-set : (bs : List Buffer) (k : ℕ) (b new : Buffer) (es : List Element) → slice_get bs k ≡ Some b
    → new.column ≡ with_more b.column es → set_frame (set bs k new) ≡ set_frame bs
frame-set [] k b new es at is = refl
frame-set (x ∷ bs) zero b new es at is =
    let same : x ≡ b = cc in
    ap (λ (c : Column). (c.kind, c.zeros) ∷ set_frame bs) is
    ∙ ap (λ (y : Buffer). (y.column.kind, y.column.zeros) ∷ set_frame bs) (sym same)
frame-set (x ∷ bs) (suc k) b new es at is = ap (λ l. (x.column.kind, x.column.zeros) ∷ l) (frame-set bs k b new es at is)

capacity-set : (bs : List Buffer) (k : ℕ) (b new : Buffer) (es : List Element) → slice_get bs k ≡ Some b
    → new.column ≡ with_more b.column es → b.spare ≤ new.spare + length es
    → (j : ℕ) → capacity_at bs j ≤ capacity_at (set bs k new) j
capacity-set [] k b new es at is le j = omega arith
capacity-set (x ∷ bs) zero b new es at is le zero =
    let same : x ≡ b = cc in
    let old = ap (λ (y : Buffer). length y.column.elements + y.spare) same in
    let grown = ap (λ (c : Column). length c.elements) is in
    omega (arith, old, grown, length-append b.column.elements es)
capacity-set (x ∷ bs) zero b new es at is le (suc j) = omega arith
capacity-set (x ∷ bs) (suc k) b new es at is le zero = omega arith
capacity-set (x ∷ bs) (suc k) b new es at is le (suc j) = capacity-set bs k b new es at is le j

pub gains : (bs : List Buffer) (k : ℕ) (b new : Buffer) (es : List Element) → slice_get bs k ≡ Some b
    → new.column ≡ with_more b.column es → b.spare ≤ new.spare + length es → GainsInRoom (add_to k es) bs (set bs k new)
gains bs k b new es at is le = record {
  columns = λ i j. elements-set bs k b new es at is j i;
  frame = frame-set bs k b new es at is;
  room = capacity-set bs k b new es at is le;
}

-- ---- the buffer of a column

pub capacity-at : (bs : List Buffer) (k : ℕ) (b : Buffer) → slice_get bs k ≡ Some b → capacity_at bs k ≡ length b.column.elements + b.spare
capacity-at [] k b at = absurd (cc)
capacity-at (x ∷ bs) zero b at = let same : x ≡ b = cc in ap (λ (y : Buffer). length y.column.elements + y.spare) same
capacity-at (x ∷ bs) (suc k) b at = capacity-at bs k b at

pub elements-at : (bs : List Buffer) (k : ℕ) (b : Buffer) → slice_get bs k ≡ Some b → cols_of bs k ≡ b.column.elements
elements-at [] k b at = absurd (cc)
elements-at (x ∷ bs) zero b at = let same : x ≡ b = cc in ap (λ (y : Buffer). y.column.elements) same
elements-at (x ∷ bs) (suc k) b at = elements-at bs k b at

pub get-within : (bs : List Buffer) (k : ℕ) (b : Buffer) → slice_get bs k ≡ Some b → k < length bs
get-within [] k b at = absurd (cc)
get-within (x ∷ bs) zero b at = omega arith
get-within (x ∷ bs) (suc k) b at = omega (arith, get-within bs k b at)

pub spare-at : (bs : List Buffer) (k : ℕ) (b : Buffer) (es : List Element) → slice_get bs k ≡ Some b
    → FitsIn bs (add_to k es (cols_of bs)) → length es ≤ b.spare
spare-at bs k b es at r =
    let enough = r.memory k (get-within bs k b at) in
    let grown = ap length (add_to-here k es (cols_of bs)) ∙ length-append (cols_of bs k) es in
    omega (arith, enough, grown, capacity-at bs k b at, ap length (elements-at bs k b at))

-- ---- by the frame

pub framed : (bs : List Buffer) (k : ℕ) (b : Buffer) (c : ColumnType) (z : ℕ) → slice_get bs k ≡ Some b → slice_get (set_frame bs) k
    ≡ Some (c, z) → (b.column.kind ≡ c) × (b.column.zeros ≡ z)
framed [] k b c z at is = absurd (cc)
framed (x ∷ bs) zero b c z at is =
    let same : x ≡ b = cc in
    let both : (x.column.kind, x.column.zeros) ≡ (c, z) = cc in (
      ap (λ (y : Buffer). y.column.kind) (sym same) ∙ ap (λ (p : ColumnType × ℕ). p.0) both,
      ap (λ (y : Buffer). y.column.zeros)
          (sym same) ∙ ap (λ (p : ColumnType × ℕ). p.1) both,
    )
framed (x ∷ bs) (suc k) b c z at is = framed bs k b c z at is

pub frame-within : (bs : List Buffer) (k : ℕ) (f : ColumnType × ℕ) → slice_get (set_frame bs) k ≡ Some f → k < length bs
frame-within [] k f is = absurd (cc)
frame-within (x ∷ bs) zero f is = omega arith
frame-within (x ∷ bs) (suc k) f is = omega (arith, frame-within bs k f is)

pub same-length : (old new : List Buffer) → set_frame new ≡ set_frame old → length new ≡ length old
same-length old new is = sym (length-map new (λ (b : Buffer). (b.column.kind, b.column.zeros))) ∙ ap length is
    ∙ length-map old (λ (b : Buffer). (b.column.kind, b.column.zeros))

-- ---- room

pub extends-length : (a b : Cols) → Extends a b → (k : ℕ) → length (a k) ≤ length (b k)
extends-length a b x k = omega (arith, ap length (x k).1, length-append (a k) (x k).0)

-- room for columns is room for what they extend
pub less-room : (bs : List Buffer) (a b : Cols) → Extends a b → FitsIn bs b → FitsIn bs a
less-room bs a b x r = record {
  memory = λ k h. omega (arith, extends-length a b x k, r.memory k h);
  ends = λ k h. omega (arith, extends-length a b x k, r.ends k h);
}

-- room stays while elements are added
pub later-room : (old new : List Buffer) (cols : Cols) → set_frame new ≡ set_frame old
    → ((k : ℕ) → capacity_at old k ≤ capacity_at new k) → FitsIn old cols → FitsIn new cols
later-room old new cols is le r = record {
  memory = λ k h. omega (arith, le k, r.memory k (omega (arith, h, same-length old new is)));
  ends = λ k h. omega (arith, ap ends_below is, r.ends k (omega (arith, h, same-length old new is)));
}

-- ---- no column changes

pub columns-kept : (bs : List Buffer) (k : ℕ) (b new : Buffer) → slice_get bs k ≡ Some b → new.column ≡ b.column
    → columns_of (set bs k new) ≡ columns_of bs
columns-kept [] k b new at is = refl
columns-kept (x ∷ bs) zero b new at is = let same : x ≡ b = cc in
    ap (λ (c : Column). c ∷ columns_of bs) (is ∙ ap (λ (y : Buffer). y.column) (sym same))
columns-kept (x ∷ bs) (suc k) b new at is = ap (λ (cs : List Column). x.column ∷ cs) (columns-kept bs k b new at is)

frame-columns : (bs : List Buffer) → set_frame bs ≡ map (λ (c : Column). (c.kind, c.zeros)) (columns_of bs)
frame-columns [] = refl
frame-columns (b ∷ bs) = ap (λ l. (b.column.kind, b.column.zeros) ∷ l) (frame-columns bs)

pub frame-kept : (old new : List Buffer) → columns_of new ≡ columns_of old → set_frame new ≡ set_frame old
frame-kept old new is = frame-columns new ∙ ap (map (λ (c : Column). (c.kind, c.zeros))) is ∙ sym (frame-columns old)

pub cols-kept : (old new : List Buffer) → columns_of new ≡ columns_of old → cols_of new ≡ cols_of old
cols-kept old new is = λ i k. elements_at (is i) k

-- more memory for one column
pub capacity-kept : (bs : List Buffer) (k : ℕ) (b new : Buffer) → slice_get bs k ≡ Some b → new.column ≡ b.column → b.spare ≤ new.spare
    → (j : ℕ) → capacity_at bs j ≤ capacity_at (set bs k new) j
capacity-kept [] k b new at is le j = omega arith
capacity-kept (x ∷ bs) zero b new at is le zero =
    let same : x ≡ b = cc in
    omega (
      arith,
      le,
      ap (λ (y : Buffer). length y.column.elements + y.spare) same,
      ap (λ (c : Column). length c.elements) is,
    )
capacity-kept (x ∷ bs) zero b new at is le (suc j) = omega arith
capacity-kept (x ∷ bs) (suc k) b new at is le zero = omega arith
capacity-kept (x ∷ bs) (suc k) b new at is le (suc j) = capacity-kept bs k b new at is le j

-- the capacity of a column that gets a new buffer, and of any other
pub capacity-here : (bs : List Buffer) (k : ℕ) (new : Buffer) → k < length bs → capacity_at (set bs k new) k
    ≡ length new.column.elements + new.spare
capacity-here [] k new h = absurd (omega arith)
capacity-here (x ∷ bs) zero new h = refl
capacity-here (x ∷ bs) (suc k) new h = capacity-here bs k new (omega arith)

pub capacity-before : (bs : List Buffer) (k : ℕ) (new : Buffer) (j : ℕ) → j < k → capacity_at (set bs k new) j ≡ capacity_at bs j
capacity-before [] k new j h = refl
capacity-before (x ∷ bs) zero new j h = absurd (omega arith)
capacity-before (x ∷ bs) (suc k) new zero h = refl
capacity-before (x ∷ bs) (suc k) new (suc j) h = capacity-before bs k new j (omega arith)
