-- What is written of a row is read back, whatever follows it.
use Rattle.std.proofs.Common.{◌≡◌, ℕ, ◌+◌, ◌<◌, ◌≤◌, ◌^◌, Bool, true, false, cond, leb, ltb, List, [], ◌++◌, length, Result, Ok, Err, refl}
use Rattle.std.proofs.Common.{sym, ap, ◌∙◌, arith}
use Rattle.std.specs.Int.{w16, w32, w64, to_le_bytes}
use Rattle.std.proofs.lemmas.Bool.{le-leb, lt-ltb}
use Rattle.nt_num.specs.Place.{At}
use Rattle.nt_num.specs.Codes.{bad_field, bad_column}
use Rattle.nt_num.specs.Faults.{fault, with_values}
use Rattle.nt_num.specs.declared.fault.ReadError.{ReadError}
use Rattle.nt_lists.specs.Chaining.{◌>>=◌}
use Rattle.nt_format.specs.Reading.{standing, ReadsAs}
use Rattle.nt_format.specs.Strings.{string}
use Rattle.nt_format.specs.Frames.{record_at}
use Rattle.nt_format.proofs.Frames.{record_again}
use Rattle.nt_format.proofs.Chains.{alone, then, made}
use Rattle.nt_format.proofs.Placed.{u16_at, u32_at, u64_at, text_at, u16-reads, u32-reads, u64-reads, text-reads}
use Rattle.nt_grammar.specs.declared.rows.FieldRow.{FieldRow}
use Rattle.nt_grammar.specs.declared.rows.ColumnRow.{ColumnRow}
use Rattle.nt_grammar.specs.Writing.{field_numbers, field_texts, field_record, column_numbers, first_element, is_deferred, column_record}
use Rattle.nt_grammar.specs.Reading.{parent_at, names_at, field_at, owner_at, first_at, column_at}
use Rattle.nt_grammar.specs.ReadingBack.{IsFieldRow, IsColumnRow}

parent-reads : (id frame parent : ℕ) → parent ≤ id → parent < 2 ^ 32
    → ReadsAs (parent_at id frame) (to_le_bytes w32 0 ++ (to_le_bytes w32 0 ++ to_le_bytes w32 parent)) parent
unfolding parent_at u32_at
parent-reads id frame parent small fits =
    let bound : leb parent id ≡ true = le-leb _ _ small in
    let test : ℕ → At → Result (ℕ × At) ReadError =
    λ p here. cond (leb p id) (Ok (p, here)) (Err (with_values id p (fault bad_field frame))) in
    let last = made u32_at test (to_le_bytes w32 parent) parent parent (u32-reads parent fits) (λ here. rw bound refl) in
    let both = then u32_at (λ v here. u32_at here >>= λ p. test p.0 p.1) (to_le_bytes w32 0) (to_le_bytes w32 parent) 0 parent
    (u32-reads 0 (omega arith)) last in
    then u32_at (λ v here. u32_at here >>= λ w. u32_at w.1 >>= λ p. test p.0 p.1) (to_le_bytes w32 0)
    (to_le_bytes w32 0 ++ to_le_bytes w32 parent) 0 parent (u32-reads 0 (omega arith)) both

-- four parts, of which the first two are kept
four : {A B C D W : Type 0} (f : At → Result (A × At) ReadError) (g : A → At → Result (B × At) ReadError)
    (h : At → Result (C × At) ReadError) (k : At → Result (D × At) ReadError) (make : A → B → W)
    → (a b c d : List ℕ) (w : A) (x : B) (y : C) (z : D) → ReadsAs f a w → ReadsAs (g w) b x → ReadsAs h c y → ReadsAs k d z
    → ReadsAs (λ here. f here >>= λ p. g p.0 p.1 >>= λ q. h q.1 >>= λ r. k r.1 >>= λ s. Ok (make p.0 q.0, s.1)) (a ++ (b ++ (c ++ d)))
    (make w x)
four {A = A} {B = B} {W = W} f g h k make a b c d w x y z e1 e2 e3 e4 =
    let end : A → B → At → Result (W × At) ReadError = λ p q here. k here >>= λ s. Ok (make p q, s.1) in
    let last = made k (λ v here. Ok (make w x, here)) d z (make w x) e4 (λ here. refl) in
    let third = then h (λ v here. end w x here) c d y (make w x) e3 last in
    let second = then (g w) (λ q here. h here >>= λ r. end w q r.1) b (c ++ d) x (make w x) e2 third in
    then f (λ p here. g p here >>= λ q. h q.1 >>= λ r. end p q.0 r.1) a (b ++ (c ++ d)) w (make w x) e1 second

names-reads : (name type_name : List ℕ) → length name < 2 ^ 32 → length type_name < 2 ^ 32
    → ReadsAs names_at (string name ++ (string type_name ++ (string [] ++ string []))) (name, type_name)
unfolding names_at text_at
names-reads name type_name short shorter =
    four text_at (λ v. text_at) text_at text_at (λ a b. (a, b)) (string name) (string type_name) (string []) (string []) name type_name []
    []
    (text-reads name short) (text-reads type_name shorter) (text-reads [] (omega arith)) (text-reads [] (omega arith))

-- the contents of a record frame are read to its end
field-chain : (id place end parent role flags : ℕ) (name type_name f a b c d rest : List ℕ)
    → record_at (standing place (f ++ rest)) ≡ Ok (standing (place + 8) (a ++ (b ++ (c ++ d))), standing end rest)
    → ReadsAs (parent_at id place) a parent → ReadsAs u16_at b role → ReadsAs u16_at c flags → ReadsAs names_at d (name, type_name)
    → field_at id (standing place (f ++ rest)) ≡ Ok
    (record { parent = parent; role = role; flags = flags; name = name; type_name = type_name }, standing end rest)
unfolding field_at u16_at
field-chain id place end parent role flags name type_name f a b c d rest frame p q r s =
    let parent_is = p (place + 8) (b ++ (c ++ d)) in
    let role_is = q (place + 8 + length a) (c ++ d) in
    let flags_is = r (place + 8 + length a + length b) d in
    let names_is = alone names_at d (name, type_name) s (place + 8 + length a + length b + length c) in
    rw (frame, parent_is, role_is, flags_is, names_is) refl

pub field-reads : (id : ℕ) (r : FieldRow) → IsFieldRow id r → length (field_record r) < 2 ^ 63 → ReadsAs (field_at id) (field_record r) r
field-reads id r is fits place rest =
    let parent = to_le_bytes w32 0 ++ (to_le_bytes w32 0 ++ to_le_bytes w32 r.parent) in
    let inside = field_numbers r ++ field_texts r in
    let small : 8 + length inside < 2 ^ 63 = omega (arith, fits) in
    let frame = record_again inside rest place small in
    let end : place + (8 + length inside) ≡ place + length (field_record r) = omega arith in
    field-chain id place (place + length (field_record r)) r.parent r.role r.flags r.name r.type_name (field_record r) parent
    (to_le_bytes w16 r.role) (to_le_bytes w16 r.flags) (field_texts r) rest
    (frame ∙ ap (λ (k : ℕ). Ok (standing (place + 8) inside, standing k rest)) end) (parent-reads id place r.parent is.parent is.word)
    (u16-reads r.role is.role) (u16-reads r.flags is.flags) (names-reads r.name r.type_name is.name is.type_name)

owner-reads : (fields frame field : ℕ) → field < fields → field < 2 ^ 32 → ReadsAs (owner_at fields frame) (to_le_bytes w32 field) field
unfolding owner_at u32_at
owner-reads fields frame field small fits =
    let bound : ltb field fields ≡ true = lt-ltb _ _ small in
    let test : ℕ → At → Result (ℕ × At) ReadError =
    λ p here. cond (ltb p fields) (Ok (p, here)) (Err (with_values fields p (fault bad_column frame))) in
    made u32_at test (to_le_bytes w32 field) field field (u32-reads field fits) (λ here. rw bound refl)

-- a number that is there, or 0
choice-reads : (there : Bool) (n : ℕ) → n < 2 ^ 64 → (there ≡ false → n ≡ 0)
    → ReadsAs (λ here. cond there (u64_at here) (Ok (0, here))) (cond there (to_le_bytes w64 n) []) n
choice-reads true n fits none place rest = u64-reads n fits place rest
choice-reads false n fits none place rest =
    let zero_is : 0 ≡ n = sym (none refl) in
    let end : place ≡ place + 0 = omega arith in
    ap (λ (k : ℕ). Ok (k, standing place rest)) zero_is ∙ ap (λ (k : ℕ). Ok (n, standing k rest)) end

first-reads : (fields : ℕ) (c : ColumnRow) → IsColumnRow fields c → ReadsAs (first_at c.flags) (first_element c) c.first
unfolding first_at u64_at
first-reads fields c is = choice-reads (is_deferred c.flags) c.first is.first is.none

column-chain : (fields place end code bits field flags representation first : ℕ) (f a b c d e g rest : List ℕ)
    → record_at (standing place (f ++ rest)) ≡ Ok (standing (place + 8) (a ++ (b ++ (c ++ (d ++ (e ++ g))))), standing end rest)
    → ReadsAs u16_at a code → ReadsAs u16_at b bits → ReadsAs (owner_at fields place) c field → ReadsAs u16_at d flags
    → ReadsAs u16_at e representation → ReadsAs (first_at flags) g first
    → column_at fields (standing place (f ++ rest))
    ≡ Ok (
      record {
        code = code;
        bits = bits;
        field = field;
        flags = flags;
        representation = representation;
        first = first;
      },
      standing end rest,
    )
unfolding column_at u16_at
column-chain fields place end code bits field flags representation first f a b c d e g rest frame p q r s t u =
    let code_is = p (place + 8) (b ++ (c ++ (d ++ (e ++ g)))) in
    let bits_is = q (place + 8 + length a) (c ++ (d ++ (e ++ g))) in
    let field_is = r (place + 8 + length a + length b) (d ++ (e ++ g)) in
    let flags_is = s (place + 8 + length a + length b + length c) (e ++ g) in
    let representation_is = t (place + 8 + length a + length b + length c + length d) g in
    let first_is = alone (first_at flags) g first u (place + 8 + length a + length b + length c + length d + length e) in
    rw (frame, code_is, bits_is, field_is, flags_is, representation_is, first_is) refl

pub column-reads : (fields : ℕ) (c : ColumnRow) → IsColumnRow fields c → length (column_record c) < 2 ^ 63
    → ReadsAs (column_at fields) (column_record c) c
column-reads fields c is fits place rest =
    let inside = column_numbers c ++ first_element c in
    let small : 8 + length inside < 2 ^ 63 = omega (arith, fits) in
    let frame = record_again inside rest place small in
    let end : place + (8 + length inside) ≡ place + length (column_record c) = omega arith in
    column-chain fields place (place + length (column_record c)) c.code c.bits c.field c.flags c.representation c.first (column_record c)
    (to_le_bytes w16 c.code) (to_le_bytes w16 c.bits) (to_le_bytes w32 c.field) (to_le_bytes w16 c.flags)
    (to_le_bytes w16 c.representation) (first_element c) rest
    (frame ∙ ap (λ (k : ℕ). Ok (standing (place + 8) inside, standing k rest)) end)
    (u16-reads c.code is.code) (u16-reads c.bits is.bits) (owner-reads fields place c.field is.field is.word) (u16-reads c.flags is.flags)
    (u16-reads c.representation is.representation) (first-reads fields c is)
