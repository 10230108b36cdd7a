-- What a reading of a row found is in range.
use Rattle.std.proofs.Common.{◌≡◌, ℕ, ◌<◌, ◌≤◌, ◌^◌, Bool, true, false, cond, leb, ltb, List, length, Result, Ok, Err, refl, subst, arith}
use Rattle.std.proofs.lemmas.Bool.{leb-true, ltb-true}
use Rattle.nt_num.specs.Place.{At}
use Rattle.nt_num.specs.Codes.{bad_field, bad_column}
use Rattle.nt_num.specs.Faults.{fault, with_values}
use Rattle.nt_num.specs.declared.fault.ReadError.{ReadError}
use Rattle.nt_lists.specs.Chaining.{◌>>=◌}
use Rattle.nt_format.specs.Reading.{placed, Yields, AndBytes}
use Rattle.nt_format.specs.Frames.{record_at}
use Rattle.nt_lists.proofs.Chaining.{bind_ok, guard_passed}
use Rattle.nt_lists.proofs.Variants.{ok_is}
use Rattle.nt_format.proofs.Frames.{record_takes}
use Rattle.nt_format.proofs.Chains.{yields-then, yields-made}
use Rattle.nt_format.proofs.Placed.{placed_ok, u16_at, u32_at, u64_at, text_at, u16-yields, u32-yields, u64-yields, text-yields}
use Rattle.nt_grammar.specs.declared.rows.FieldRow.{FieldRow}
use Rattle.nt_grammar.specs.declared.rows.ColumnRow.{ColumnRow}
use Rattle.nt_grammar.specs.Writing.{is_deferred}
use Rattle.nt_grammar.specs.Reading.{parent_at, names_at, field_at, owner_at, first_at, column_at}
use Rattle.nt_grammar.specs.ReadingBack.{IsFieldRow, IsColumnRow}

IsParent : ℕ → ℕ → Type 0
IsParent id parent = (parent ≤ id) × (parent < 2 ^ 32)

parent-yields : (id frame : ℕ) → Yields (parent_at id frame) (AndBytes (IsParent id))
unfolding parent_at u32_at IsParent
parent-yields id frame =
    let test : ℕ → At → Result (ℕ × At) ReadError =
    λ p here. cond (leb p id) (Ok (p, here)) (Err (with_values id p (fault bad_field frame))) in
    let tested : (p : ℕ) → p < 2 ^ 32 → Yields (test p) (AndBytes (IsParent id)) = λ p fits here w bytes e.
    let passed = guard_passed (leb p id) (with_values id p (fault bad_field frame)) (Ok (p, here)) w e in
    subst (AndBytes (IsParent id)) (ok_is (p, here) w passed.1) ((leb-true _ _ passed.0, fits), bytes) in
    yields-then u32_at (λ v here. u32_at here >>= λ t. u32_at t.1 >>= λ p. test p.0 p.1) (λ n. n < 2 ^ 32) (AndBytes (IsParent id))
    (u32-yields)
    (λ v small. yields-then u32_at (λ t here. u32_at here >>= λ p. test p.0 p.1) (λ n. n < 2 ^ 32) (AndBytes (IsParent id)) (u32-yields)
    (λ t little. yields-then u32_at test (λ n. n < 2 ^ 32) (AndBytes (IsParent id)) (u32-yields) tested))

AreShort : List ℕ × List ℕ → Type 0
AreShort names = (length names.0 < 2 ^ 32) × (length names.1 < 2 ^ 32)

names-yields : Yields names_at (AndBytes AreShort)
unfolding names_at text_at AreShort
names-yields =
    let IsShort : List ℕ → Type 0 = λ t. length t < 2 ^ 32 in
    let text = text-yields in
    yields-then text_at (λ name here. text_at here >>= λ type_name. text_at type_name.1 >>= λ alias. text_at alias.1 >>= λ t. Ok
    ((name, type_name.0), t.1)) IsShort (AndBytes AreShort) text
    (λ name short. yields-then text_at (λ type_name here. text_at here >>= λ alias. text_at alias.1 >>= λ t. Ok
    ((name, type_name), t.1)) IsShort (AndBytes AreShort) text
    (λ type_name shorter. yields-then text_at (λ alias here. text_at here >>= λ t. Ok ((name, type_name), t.1)) IsShort
    (AndBytes AreShort) text
    (λ alias any. yields-then text_at (λ t here. Ok ((name, type_name), here)) IsShort (AndBytes AreShort) text
    (λ t every. yields-made (λ here. ((name, type_name), here)) (AndBytes AreShort) (λ here bytes. ((short, shorter), bytes))))))

pub field-yields : (id : ℕ) → Yields (field_at id) (AndBytes (IsFieldRow id))
unfolding field_at u16_at IsParent AreShort
field-yields id here w bytes e =
    let row : ℕ → ℕ → ℕ → List ℕ × List ℕ → FieldRow =
    λ parent role flags names. record { parent = parent; role = role; flags = flags; name = names.0; type_name = names.1 } in
    let inner : At × At → Result (FieldRow × At) ReadError =
    λ frame. parent_at id here.place frame.0 >>= λ parent. u16_at parent.1 >>= λ role. u16_at role.1 >>= λ flags. names_at flags.1 >>=
    λ names. Ok (row parent.0 role.0 flags.0 names.0, frame.1) in
    let step = bind_ok (placed (record_at here)) inner w e in
    let frame = record_takes here step.0.0 step.0.1 bytes (placed_ok (record_at here) step.0 step.1) in
    let after = step.0.1 in
    let Q : FieldRow × At → Type 0 = AndBytes (IsFieldRow id) in
    yields-then (parent_at id here.place) (λ parent at. u16_at at >>= λ role. u16_at role.1 >>= λ flags. names_at flags.1 >>= λ names. Ok
    (row parent role.0 flags.0 names.0, after)) (IsParent id) Q (parent-yields id here.place)
    (λ parent p. yields-then u16_at (λ role at. u16_at at >>= λ flags. names_at flags.1 >>= λ names. Ok
    (row parent role flags.0 names.0, after)) (λ n. n < 2 ^ 16) Q (u16-yields)
    (λ role q. yields-then u16_at (λ flags at. names_at at >>= λ names. Ok (row parent role flags names.0, after)) (λ n. n < 2 ^ 16) Q
    (u16-yields)
    (λ flags r. yields-then names_at (λ names at. Ok (row parent role flags names, after)) AreShort Q (names-yields)
    (λ names s. yields-made (λ at. (row parent role flags names, after)) Q
    (λ at any. (record { parent = p.0; word = p.1; role = q; flags = r; name = s.0; type_name = s.1 }, frame.frame.bytes))))))
    step.0.0 w frame.bytes step.2

IsOwner : ℕ → ℕ → Type 0
IsOwner fields field = (field < fields) × (field < 2 ^ 32)

owner-yields : (fields frame : ℕ) → Yields (owner_at fields frame) (AndBytes (IsOwner fields))
unfolding owner_at u32_at IsOwner
owner-yields fields frame =
    let test : ℕ → At → Result (ℕ × At) ReadError =
    λ p here. cond (ltb p fields) (Ok (p, here)) (Err (with_values fields p (fault bad_column frame))) in
    let tested : (p : ℕ) → p < 2 ^ 32 → Yields (test p) (AndBytes (IsOwner fields)) = λ p fits here w bytes e.
    let passed = guard_passed (ltb p fields) (with_values fields p (fault bad_column frame)) (Ok (p, here)) w e in
    subst (AndBytes (IsOwner fields)) (ok_is (p, here) w passed.1) ((ltb-true _ _ passed.0, fits), bytes) in
    yields-then u32_at test (λ n. n < 2 ^ 32) (AndBytes (IsOwner fields)) (u32-yields) tested

-- the index of a first element, 0 where there is none
IsFirst : Bool → ℕ → Type 0
IsFirst there n = (n < 2 ^ 64) × (there ≡ false → n ≡ 0)

choice-yields : (there : Bool) → Yields (λ here. cond there (u64_at here) (Ok (0, here))) (AndBytes (IsFirst there))
unfolding IsFirst
choice-yields true here w bytes e = let n = u64-yields here w bytes e in ((n.0, λ no. absurd cc), n.1)
choice-yields false here w bytes e =
    let none : IsFirst false 0 = (omega arith, λ no. refl) in
    subst (AndBytes (IsFirst false)) (ok_is (0, here) w e) (none, bytes)

first-yields : (flags : ℕ) → Yields (first_at flags) (AndBytes (IsFirst (is_deferred flags)))
unfolding first_at u64_at
first-yields flags = choice-yields (is_deferred flags)

pub column-yields : (fields : ℕ) → Yields (column_at fields) (AndBytes (IsColumnRow fields))
unfolding column_at u16_at IsOwner IsFirst
column-yields fields here w bytes e =
    let row : ℕ → ℕ → ℕ → ℕ → ℕ → ℕ → ColumnRow = λ code bits field flags representation first. record
    { code = code; bits = bits; field = field; flags = flags; representation = representation; first = first } in
    let inner : At × At → Result (ColumnRow × At) ReadError =
    λ frame. u16_at frame.0 >>= λ code. u16_at code.1 >>= λ bits. owner_at fields here.place bits.1 >>= λ field. u16_at field.1 >>=
    λ flags. u16_at flags.1 >>= λ representation. first_at flags.0 representation.1 >>= λ first. Ok
    (row code.0 bits.0 field.0 flags.0 representation.0 first.0, frame.1) in
    let step = bind_ok (placed (record_at here)) inner w e in
    let frame = record_takes here step.0.0 step.0.1 bytes (placed_ok (record_at here) step.0 step.1) in
    let after = step.0.1 in
    let Q : ColumnRow × At → Type 0 = AndBytes (IsColumnRow fields) in
    yields-then u16_at (λ code at. u16_at at >>= λ bits. owner_at fields here.place bits.1 >>= λ field. u16_at field.1 >>=
    λ flags. u16_at flags.1 >>= λ representation. first_at flags.0 representation.1 >>= λ first. Ok
    (row code bits.0 field.0 flags.0 representation.0 first.0, after)) (λ n. n < 2 ^ 16) Q (u16-yields)
    (λ code p. yields-then u16_at (λ bits at. owner_at fields here.place at >>= λ field. u16_at field.1 >>= λ flags. u16_at flags.1 >>=
    λ representation. first_at flags.0 representation.1 >>= λ first. Ok (row code bits field.0 flags.0 representation.0 first.0, after))
    (λ n. n < 2 ^ 16) Q (u16-yields)
    (λ bits q. yields-then (owner_at fields here.place)
    (λ field at. u16_at at >>= λ flags. u16_at flags.1 >>= λ representation. first_at flags.0 representation.1 >>= λ first. Ok
    (row code bits field flags.0 representation.0 first.0, after)) (IsOwner fields) Q (owner-yields fields here.place)
    (λ field r. yields-then u16_at (λ flags at. u16_at at >>= λ representation. first_at flags representation.1 >>= λ first. Ok
    (row code bits field flags representation.0 first.0, after)) (λ n. n < 2 ^ 16) Q (u16-yields)
    (λ flags s. yields-then u16_at (λ representation at. first_at flags at >>= λ first. Ok
    (row code bits field flags representation first.0, after)) (λ n. n < 2 ^ 16) Q (u16-yields)
    (λ representation t. yields-then (first_at flags) (λ first at. Ok (row code bits field flags representation first, after))
    (IsFirst (is_deferred flags)) Q (first-yields flags)
    (λ first u. yields-made (λ at. (row code bits field flags representation first, after)) Q
    (λ at any. (
      record {
        code = p;
        bits = q;
        field = r.0;
        word = r.1;
        flags = s;
        representation = t;
        first = u.0;
        none = u.1;
      },
      frame.frame.bytes,
    ))))))))
    step.0.0 w frame.bytes step.2
