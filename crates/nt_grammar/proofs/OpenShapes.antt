-- The shape that the rows of a described field give.
use Rattle.std.proofs.Common.{ℕ, suc, Bool, true, false, ◌≡◌, ◌+◌, ◌⊎◌, inl, inr, List, [], ◌∷◌, length, map}
use Rattle.std.proofs.Common.{Option, Some, slice_get, refl, sym, ap, subst, add-zero, arith}
use Rattle.std.proofs.lemmas.Bool.Decides.{nat_tests}
use Rattle.std.specs.Prelude.{◌&&◌}
use Rattle.nt_types.specs.ShapeData.{ShapeData, ShapesData, MembersData, MemberData, bool, char, byte, int, text, list, maybe, fields}
use Rattle.nt_types.specs.ShapeData.{tuple, choice, no_kinds, kind, no_parts, part, kinds_of, parts_of}
use Rattle.nt_types.specs.Spelling.{IsType, is_width}
use Rattle.nt_types.specs.Schema.{part_under}
use Rattle.nt_grammar.specs.Types.{int_name}
use Rattle.nt_grammar.specs.Columns.{column_types, int_type}
use Rattle.nt_grammar.specs.Rows.{NodeData, inside, members_in, places_in, place_name, field_row, column_row}
use Rattle.nt_grammar.specs.Added.{is_record}
use Rattle.nt_grammar.specs.Open.{all_some, leaf_shape, shape_by_role}
use Rattle.nt_grammar.specs.AsRead.{as_read, parts_as_read, places_as_read, kinds_as_read}
use Rattle.nt_grammar.proofs.Inside.{count_up}
use Rattle.nt_grammar.proofs.TypeNames.{list-read, maybe-read}

-- the parts of a field

-- what a field is read as
abbrev pub read_part : NodeData → MemberData
read_part n = part_under n.name (as_read n.of)

pub opened : (f : ℕ → Option MemberData) (from : ℕ) (ns : List NodeData)
    → ((k : ℕ) (c : NodeData) → slice_get ns k ≡ Some c → f (from + k) ≡ Some (read_part c))
    → all_some (map f (count_up from (length ns))) ≡ Some (map read_part ns)
opened f from [] h = refl
opened f from (n ∷ ns) h =
    let first : f from ≡ Some (read_part n) = rw add-zero at (h 0 n refl) in
    let later : all_some (map f (count_up (from + 1) (length ns))) ≡ Some (map read_part ns) =
    opened f (from + 1) ns (λ k c e. let next : (from + 1) + k ≡ from + suc k = omega arith in rw next (h (suc k) c e)) in
    rw (first, later) refl

members-read : (id : ℕ) (ps : MembersData) → parts_of (map read_part (members_in id ps)) ≡ parts_as_read ps
members-read id no_parts = refl
members-read id (part n k ps) = ap (λ (z : MembersData). part n (as_read k) z) (members-read id ps)

places-read : (id i : ℕ) (ks : ShapesData) → parts_of (map read_part (places_in id i ks)) ≡ places_as_read i ks
places-read id i no_kinds = refl
places-read id i (kind k ks) = ap (λ (z : MembersData). part (place_name i) (as_read k) z) (places-read id (i + 1) ks)

kinds-read : (id i : ℕ) (ks : ShapesData) → kinds_of (map (λ (q : MemberData). q.of) (map read_part (places_in id i ks))) ≡ kinds_as_read ks
kinds-read id i no_kinds = refl
kinds-read id i (kind k ks) = ap (λ (z : ShapesData). kind (as_read k) z) (kinds-read id (i + 1) ks)

-- an integer, in either writing
abbrev IsLeaf : Bool → Bool → ℕ → ℕ → Bool → Type 0
IsLeaf up plain i bits signed = leaf_shape up (int_name bits signed) (column_row i (int_type plain bits signed) ∷ [])
    ≡ Some (int bits signed)

int_8-open : (up plain signed : Bool) (i : ℕ) → IsLeaf up plain i 8 signed
int_8-open true true true i = refl
int_8-open true true false i = refl
int_8-open true false true i = refl
int_8-open true false false i = refl
int_8-open false true true i = refl
int_8-open false true false i = refl
int_8-open false false true i = refl
int_8-open false false false i = refl

int_16-open : (up plain signed : Bool) (i : ℕ) → IsLeaf up plain i 16 signed
int_16-open true true true i = refl
int_16-open true true false i = refl
int_16-open true false true i = refl
int_16-open true false false i = refl
int_16-open false true true i = refl
int_16-open false true false i = refl
int_16-open false false true i = refl
int_16-open false false false i = refl

int_32-open : (up plain signed : Bool) (i : ℕ) → IsLeaf up plain i 32 signed
int_32-open true true true i = refl
int_32-open true true false i = refl
int_32-open true false true i = refl
int_32-open true false false i = refl
int_32-open false true true i = refl
int_32-open false true false i = refl
int_32-open false false true i = refl
int_32-open false false false i = refl

int_64-open : (up plain signed : Bool) (i : ℕ) → IsLeaf up plain i 64 signed
int_64-open true true true i = refl
int_64-open true true false i = refl
int_64-open true false true i = refl
int_64-open true false false i = refl
int_64-open false true true i = refl
int_64-open false true false i = refl
int_64-open false false true i = refl
int_64-open false false false i = refl

int-open : (up plain : Bool) (i bits : ℕ) (signed : Bool) → (bits ≡ 8) ⊎ ((bits ≡ 16) ⊎ ((bits ≡ 32) ⊎ (bits ≡ 64)))
    → IsLeaf up plain i bits signed
int-open up plain i bits signed (inl e) = subst (λ (b : ℕ). IsLeaf up plain i b signed) (sym e) (int_8-open up plain signed i)
int-open up plain i bits signed (inr (inl e)) = subst (λ (b : ℕ). IsLeaf up plain i b signed) (sym e) (int_16-open up plain signed i)
int-open up plain i bits signed (inr (inr (inl e))) = subst (λ (b : ℕ). IsLeaf up plain i b signed) (sym e) (int_32-open up plain signed i)
int-open up plain i bits signed (inr (inr (inr e))) = subst (λ (b : ℕ). IsLeaf up plain i b signed) (sym e) (int_64-open up plain signed i)

width_cases : (bits : ℕ) → is_width bits ≡ true → (bits ≡ 8) ⊎ ((bits ≡ 16) ⊎ ((bits ≡ 32) ⊎ (bits ≡ 64)))
width_cases bits e = grind (arith, nat_tests)

-- fields of each kind

abbrev pub IsOpen : Bool → Bool → ℕ → ℕ → NodeData → Type 0
IsOpen up plain i from n = (inner : Bool → Option (List MemberData))
    → inner (is_record n.of && up) ≡ Some (map read_part (inside i n.of))
    → shape_by_role up (field_row n) (map (column_row i) (column_types plain n.of)) (count_up from (length (inside i n.of))) inner
    ≡ Some (as_read n.of)

pub shape-open : (up plain : Bool) (i from parent : ℕ) (name : List ℕ) (within : Bool) (k : ShapeData) → IsType within k
    → IsOpen up plain i from (record { parent = parent; name = name; of = k })
shape-open true plain i from parent name within bool t inner h = refl
shape-open false plain i from parent name within bool t inner h = refl
shape-open true plain i from parent name within char t inner h = refl
shape-open false plain i from parent name within char t inner h = refl
shape-open true plain i from parent name within byte t inner h = refl
shape-open false plain i from parent name within byte t inner h = refl
shape-open up plain i from parent name within (int bits signed) t inner h = int-open up plain i bits signed (width_cases bits t)
shape-open true true i from parent name within text t inner h = refl
shape-open true false i from parent name within text t inner h = refl
shape-open false true i from parent name within text t inner h = refl
shape-open false false i from parent name within text t inner h = refl
shape-open true true i from parent name within (list k) t inner h = rw h (list-read k)
shape-open true false i from parent name within (list k) t inner h = rw h (list-read k)
shape-open false true i from parent name within (list k) t inner h = rw h (list-read k)
shape-open false false i from parent name within (list k) t inner h = rw h (list-read k)
shape-open true true i from parent name within (maybe k) t inner h = rw h (maybe-read within k t)
shape-open true false i from parent name within (maybe k) t inner h = rw h (maybe-read within k t)
shape-open false true i from parent name within (maybe k) t inner h = rw h (maybe-read within k t)
shape-open false false i from parent name within (maybe k) t inner h = rw h (maybe-read within k t)
shape-open up plain i from parent name within (fields no_parts) t inner h = absurd t.2
shape-open up plain i from parent name within (fields (part n k ps)) t inner h =
    rw h (ap (λ (z : MembersData). Some (fields (part n (as_read k) z))) (members-read i ps))
shape-open up plain i from parent name within (tuple no_kinds) t inner h = absurd t
shape-open up plain i from parent name within (tuple (kind k ks)) t inner h =
    rw h (ap (λ (z : MembersData). Some (fields (part (place_name 0) (as_read k) z))) (places-read i 1 ks))
shape-open up plain i from parent name within (choice no_kinds) t inner h = absurd t.1
shape-open true plain i from parent name within (choice (kind k ks)) t inner h =
    rw h (ap (λ (z : ShapesData). Some (choice (kind (as_read k) z))) (kinds-read i 1 ks))
shape-open false plain i from parent name within (choice (kind k ks)) t inner h =
    rw h (ap (λ (z : ShapesData). Some (choice (kind (as_read k) z))) (kinds-read i 1 ks))
