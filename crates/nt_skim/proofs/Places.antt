-- The places of open fields.
use Rattle.std.proofs.Common.{◌≡◌, ◌∙◌, ap, sym, refl, ℕ, zero, suc, ◌+◌, Bool, true, false, List, [], ◌∷◌, slice_get}
use Rattle.std.proofs.Common.{Option, Some, None, arith}
use Rattle.std.specs.Prelude.{option_and_then, is_some}
use Rattle.nt_types.specs.ShapeData.{ShapeData}
use Rattle.nt_grammar.specs.Open.{open_shapes, open_shape, top_shape}
use Rattle.nt_grammar.specs.Table.{Table}
use Rattle.nt_grammar.specs.declared.rows.FieldRow.{FieldRow}
use Rattle.nt_grammar.specs.declared.rows.ColumnRow.{ColumnRow}
use Rattle.nt_skim.specs.Planning.{shapes_before, open_place}

-- one more where this holds
abbrev one_if : Bool → ℕ
one_if true = 1
one_if false = 0

first-counted : (o : Option ShapeData) (shapes : List (Option ShapeData))
    → shapes_before (o ∷ shapes) 1 ≡ one_if (is_some o)
first-counted None [] = refl
first-counted None (p ∷ shapes) = refl
first-counted (Some k) [] = refl
first-counted (Some k) (p ∷ shapes) = refl

none-counted : (shapes : List (Option ShapeData)) → shapes_before shapes 0 ≡ 0
none-counted [] = refl
none-counted (o ∷ shapes) = refl

behind-counted : (o : Option ShapeData) (shapes : List (Option ShapeData)) (n m : ℕ)
    → shapes_before shapes (suc n) ≡ shapes_before shapes n + m
    → shapes_before (o ∷ shapes) (suc (suc n)) ≡ shapes_before (o ∷ shapes) (suc n) + m
behind-counted None shapes n m e = e
behind-counted (Some k) shapes n m e = omega (arith, e)

empty-counted : (n : ℕ) → shapes_before [] n ≡ 0
empty-counted zero = refl
empty-counted (suc n) = refl

counted-from : (fs : List FieldRow) (cs : List ColumnRow) (id j i : ℕ) (rs : List FieldRow) → j ≡ id + i
    → shapes_before (open_shapes fs cs id rs) (suc i)
    ≡ shapes_before (open_shapes fs cs id rs) i + one_if (is_some (option_and_then (top_shape fs cs j) (slice_get rs i)))
counted-from fs cs id j i [] is = omega (arith, empty-counted i)
counted-from fs cs id j zero (r ∷ rs) is =
    let same : id ≡ j = omega (arith, is) in
    let none_before : one_if (is_some (top_shape fs cs j r)) ≡ 0 + one_if (is_some (top_shape fs cs j r)) = omega arith in
    first-counted (top_shape fs cs id r) (open_shapes fs cs (id + 1) rs)
    ∙ (ap (λ (n : ℕ). one_if (is_some (top_shape fs cs n r))) same ∙ none_before)
counted-from fs cs id j (suc i) (r ∷ rs) is =
    behind-counted (top_shape fs cs id r) (open_shapes fs cs (id + 1) rs) i
    (one_if (is_some (option_and_then (top_shape fs cs j) (slice_get rs i))))
    (counted-from fs cs (id + 1) j i rs (omega (arith, is)))

-- the place of the next field
pub place-more : (t : Table) (id next : ℕ) → next ≡ id + 1
    → open_place t next ≡ open_place t id + one_if (is_some (open_shape t id))
place-more t id next is =
    let same : next ≡ suc id = omega (arith, is) in
    ap (open_place t) same ∙ counted-from t.fields t.columns 0 id id t.fields (omega arith)

-- one field further
pub place-stays : (t : Table) (id place : ℕ) (some : Bool) → place ≡ open_place t id → some ≡ is_some (open_shape t id) → some ≡ false
    → place ≡ open_place t (id + 1)
place-stays t id place some so-far is off =
    let step = place-more t id (id + 1) refl in
    let none : is_some (open_shape t id) ≡ false = sym is ∙ off in
    let more : one_if (is_some (open_shape t id)) ≡ 0 = ap one_if none in
    omega (arith, so-far, step, more)

pub place-counts : (t : Table) (id place more : ℕ) (some : Bool) → place ≡ open_place t id → some ≡ is_some (open_shape t id) → some ≡ true
    → more ≡ place + 1 → more ≡ open_place t (id + 1)
place-counts t id place more some so-far is on counted =
    let step = place-more t id (id + 1) refl in
    let one : is_some (open_shape t id) ≡ true = sym is ∙ on in
    let again : one_if (is_some (open_shape t id)) ≡ 1 = ap one_if one in
    omega (arith, so-far, counted, step, again)
