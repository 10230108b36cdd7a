-- What is seen of a buffer whose elements are a count of zeros or are stored.
use Rattle.std.proofs.Common.{◌≡◌, ℕ, zero, suc, ◌-◌, ◌<◌, ◌≤◌, min, List, [], ◌++◌, length, take, get_or, replicate, refl, sym, ◌∙◌, ap}
use Rattle.std.proofs.Common.{inl, inr, arith}
use Rattle.std.specs.List.{slice_range}
use Rattle.std.proofs.lemmas.List.{append-nil, length-replicate, take-replicate, drop-replicate, take_all}
use Rattle.nt_column.specs.Elements.{Element, plain, numbers, tags}
use Rattle.std.proofs.lemmas.Bool.{cases_lt}
use Rattle.nt_types.specs.declared.column_type.ColumnType.{ColumnType}
use Rattle.nt_column.specs.Column.{Column, cut_to}
use Rattle.nt_column.proofs.Numbers.{number-zeros, tag-zeros}

-- of a count of zeros every number and tag is 0
pub zero-seen : (n : ℕ) (stored es : List Element) (i : ℕ) → replicate n (plain 0) ++ stored ≡ es → stored ≡ []
    → 0 ≡ get_or (numbers es) i 0
zero-seen n stored es i seen none =
    sym (number-zeros n i) ∙ ap (λ (xs : List Element). get_or (numbers (replicate n (plain 0) ++ xs)) i 0) (sym none)
    ∙ ap (λ (xs : List Element). get_or (numbers xs) i 0) seen

pub zero_tag-seen : (n : ℕ) (stored es : List Element) (i : ℕ) → replicate n (plain 0) ++ stored ≡ es → stored ≡ []
    → 0 ≡ get_or (tags es) i 0
zero_tag-seen n stored es i seen none =
    sym (tag-zeros n i) ∙ ap (λ (xs : List Element). get_or (tags (replicate n (plain 0) ++ xs)) i 0) (sym none)
    ∙ ap (λ (xs : List Element). get_or (tags xs) i 0) seen

-- a part of zeros
pub zeros-range : (n : ℕ) (stored es : List Element) (a b k : ℕ) → replicate n (plain 0) ++ stored ≡ es → stored ≡ [] → a ≤ b
    → b ≤ length es → k ≡ b - a
    → slice_range es a b ≡ replicate k (plain 0)
zeros-range n stored es a b k seen none order within count =
    let whole : es ≡ replicate n (plain 0) = sym seen
    ∙ (ap (λ (xs : List Element). replicate n (plain 0) ++ xs) none ∙ append-nil (replicate n (plain 0))) in
    let many : b ≤ n = omega (arith, ap length whole, length-replicate n (plain 0)) in
    rw (whole, count, drop-replicate a n (plain 0)) (take-replicate (b - a) (n - a) (plain 0) (omega arith))

-- the first of some zeros
cut-zeros : (n len m : ℕ) → m ≡ min n len → take len (replicate n (plain 0)) ≡ replicate m (plain 0)
cut-zeros n len m is =
    elim (cases_lt len n) [
      | inl less ↦ let same : m ≡ len = omega arith in rw same (take-replicate len n (plain 0) (omega arith))
      | inr more ↦
          let same : m ≡ n = omega arith in
          rw same (take_all len (replicate n (plain 0)) (omega (arith, length-replicate n (plain 0))))
    ]

-- the first elements of a column that is a count of zeros or stored
cut-elements : (n len m : ℕ) (stored now : List Element) → m ≡ min n len → (0 < n → stored ≡ []) → now ≡ take len stored
    → replicate m (plain 0) ++ now ≡ take len (replicate n (plain 0) ++ stored)
cut-elements zero len m stored now is none cut =
    let no : m ≡ 0 = omega arith in rw no cut
cut-elements (suc n) len m stored now is none cut =
    let nothing : stored ≡ [] = none (omega arith) in
    let rest : now ≡ [] = cut ∙ (ap (take len) nothing ∙ take_all len [] (omega arith)) in
    rw (nothing, rest, append-nil (replicate m (plain 0)), append-nil (replicate (suc n) (plain 0))) (sym (cut-zeros (suc n) len m is))

pub cut-seen : (kind : ColumnType) (n len m : ℕ) (stored now : List Element) → m ≡ min n len → (0 < n → stored ≡ [])
    → now ≡ take len stored
    → ◌≡◌ {A = Column} (record { kind = kind; elements = replicate m (plain 0) ++ now; zeros = m })
    (cut_to len (record { kind = kind; elements = replicate n (plain 0) ++ stored; zeros = n }))
cut-seen kind n len m stored now is none cut =
    let zeros : m ≡ min len n = omega arith in
    rw (cut-elements n len m stored now is none cut, zeros) refl
