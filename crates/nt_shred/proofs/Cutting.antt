-- Columns that are cut back, one after the other.
use Rattle.std.proofs.Common.{◌≡◌, ℕ, zero, suc, ◌+◌, ◌<◌, ◌==◌, min, true, List, [], ◌∷◌, ◌++◌, length, take, slice_get, get_or, Some}
use Rattle.std.proofs.Common.{refl, sym, ◌∙◌, ap, ap₂, arith}
use Rattle.std.proofs.Math.ListN.{set}
use Rattle.std.proofs.Math.Seq.{take-append_seam}
use Rattle.std.proofs.lemmas.Bool.{and_parts, eqb-true}
use Rattle.std.proofs.lemmas.List.{length-map}
use Rattle.nt_types.specs.declared.column_type.ColumnType.{ColumnType}
use Rattle.nt_column.specs.Column.{Column, Buffer, columns_of, cut_to}
use Rattle.nt_column.specs.Elements.{Element}
use Rattle.nt_trees.specs.Described.{are_stored}
use Rattle.nt_trees.specs.Views.{cols_of}
use Rattle.nt_shred.specs.Frame.{set_frame}
use Rattle.nt_shred.specs.Places.{lengths_of}

-- the first columns are cut to these lengths
abbrev pub cut_first : ℕ → List ℕ → List Column → List Column
cut_first zero ms cs = cs
cut_first (suc n) (m ∷ ms) (c ∷ cs) = cut_to m c ∷ cut_first n ms cs
cut_first (suc n) [] cs = cs
cut_first (suc n) (m ∷ ms) [] = []

-- one more
pub cut-next : (n m : ℕ) (ms : List ℕ) (cs : List Column) (bs : List Buffer) (b new : Buffer) → columns_of bs ≡ cut_first n ms cs
    → slice_get bs n ≡ Some b → slice_get ms n ≡ Some m → new.column ≡ cut_to m b.column
    → columns_of (set bs n new) ≡ cut_first (suc n) ms cs
cut-next zero m [] cs bs b new is at mark cut = absurd (cc)
cut-next zero m (k ∷ ms) cs [] b new is at mark cut = absurd (cc)
cut-next zero m (k ∷ ms) [] (x ∷ bs) b new is at mark cut = absurd (cc)
cut-next zero m (k ∷ ms) (c ∷ cs) (x ∷ bs) b new is at mark cut =
    let same : x ≡ b = cc in
    let mark_is : k ≡ m = cc in
    let head : x.column ≡ c = cc in
    let tail : columns_of bs ≡ cs = cc in
    ap₂ (λ (d : Column) (ds : List Column). d ∷ ds)
    (cut ∙ ap₂ (λ (i : ℕ) (d : Column). cut_to i d) (sym mark_is) (ap (λ (y : Buffer). y.column) (sym same) ∙ head)) tail
cut-next (suc n) m [] cs bs b new is at mark cut = absurd (cc)
cut-next (suc n) m (k ∷ ms) cs [] b new is at mark cut = absurd (cc)
cut-next (suc n) m (k ∷ ms) [] (x ∷ bs) b new is at mark cut = absurd (cc)
cut-next (suc n) m (k ∷ ms) (c ∷ cs) (x ∷ bs) b new is at mark cut =
    let head : x.column ≡ cut_to k c = cc in
    let tail : columns_of bs ≡ cut_first n ms cs = cc in
    ap₂ (λ (d : Column) (ds : List Column). d ∷ ds) head (cut-next n m ms cs bs b new tail at mark cut)

-- what had grown is as it was
pub cut-whole : (start old : List Buffer) → set_frame old ≡ set_frame start
    → ((k : ℕ) → (more : List Element) × (cols_of old k ≡ cols_of start k ++ more)) → are_stored (columns_of start) ≡ true
    → cut_first (length old) (lengths_of start) (columns_of old) ≡ columns_of start
cut-whole [] [] frame grew stored = refl
cut-whole [] (o ∷ old) frame grew stored = absurd (cc)
cut-whole (s ∷ start) [] frame grew stored = absurd (cc)
cut-whole (s ∷ start) (o ∷ old) frame grew stored =
    let q = and_parts (s.column.zeros == 0) (are_stored (columns_of start)) stored in
    let none : s.column.zeros ≡ 0 = eqb-true s.column.zeros 0 q.0 in
    let both : (o.column.kind, o.column.zeros) ≡ (s.column.kind, s.column.zeros) = cc in
    let tail : set_frame old ≡ set_frame start = cc in
    let kind = ap (λ (p : ColumnType × ℕ). p.0) both in
    let zeros : min (length s.column.elements) o.column.zeros ≡ s.column.zeros =
    omega (arith, none, ap (λ (p : ColumnType × ℕ). p.1) both) in
    let es : take (length s.column.elements) o.column.elements ≡ s.column.elements =
    ap (take (length s.column.elements)) (grew 0).1 ∙ take-append_seam s.column.elements (grew 0).0 in
    ap₂ (λ (c : Column) (cs : List Column). c ∷ cs) (λ i. record { kind = kind i; elements = es i; zeros = zeros i })
    (cut-whole start old tail (λ k. grew (suc k)) q.1)

-- ---- what is noted, and how many columns there are

pub lengths-next : (bs : List Buffer) (k : ℕ) (b : Buffer) (n : ℕ) → slice_get bs k ≡ Some b → n ≡ length b.column.elements
    → take k (lengths_of bs) ++ n ∷ [] ≡ take (k + 1) (lengths_of bs)
lengths-next bs k b n at is = let up : suc k ≡ k + 1 = omega arith in go bs k at ∙ ap (λ m. take m (lengths_of bs)) up
  where
    go : (xs : List Buffer) (i : ℕ) → slice_get xs i ≡ Some b → take i (lengths_of xs) ++ n ∷ [] ≡ take (suc i) (lengths_of xs)
    go [] i h = absurd (cc)
    go (x ∷ xs) zero h = let same : x ≡ b = cc in
        ap (λ (m : ℕ). m ∷ []) (is ∙ ap (λ (y : Buffer). length y.column.elements) (sym same))
    go (x ∷ xs) (suc i) h = ap (λ ms. length x.column.elements ∷ ms) (go xs i h)

cut-length : (n : ℕ) (ms : List ℕ) (cs : List Column) → length (cut_first n ms cs) ≡ length cs
cut-length zero ms cs = refl
cut-length (suc n) [] cs = refl
cut-length (suc n) (m ∷ ms) [] = refl
cut-length (suc n) (m ∷ ms) (c ∷ cs) = ap suc (cut-length n ms cs)

pub cut-count : (old now : List Buffer) (n : ℕ) (ms : List ℕ) → columns_of now ≡ cut_first n ms (columns_of old) → length now ≡ length old
cut-count old now n ms is = sym (length-map now (λ (b : Buffer). b.column)) ∙ ap length is ∙ cut-length n ms (columns_of old)
    ∙ length-map old (λ (b : Buffer). b.column)

pub get-mark : (ms : List ℕ) (k : ℕ) → k < length ms → slice_get ms k ≡ Some (get_or ms k 0)
get-mark [] k h = absurd (omega arith)
get-mark (m ∷ ms) zero h = refl
get-mark (m ∷ ms) (suc k) h = get-mark ms k (omega arith)
