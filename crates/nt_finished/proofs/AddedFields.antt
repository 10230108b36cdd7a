-- Fields that are added one after the other, and their zeros.
use Rattle.std.proofs.Common.{◌≡◌, ℕ, ◌+◌, ◌≤◌, List, length, refl, ap, subst, ◌∙◌, arith}
use Rattle.nt_types.specs.ShapeData.{ShapeData, ShapesData, MembersData, MemberData, no_kinds, kind, no_parts, part, parts_of}
use Rattle.nt_types.specs.ShapeData as kinds
use Rattle.nt_types.specs.TreeData.{TreeData, parts, tree}
use Rattle.nt_types.specs.Schema.{field_count}
use Rattle.nt_types.specs.Limits.{max_fields}
use Rattle.nt_grammar.specs.declared.rows.ColumnRow.{ColumnRow}
use Rattle.nt_grammar.specs.declared.rows.FieldRow.{FieldRow}
use Rattle.nt_grammar.specs.Table.{Table, IsFew}
use Rattle.nt_grammar.specs.AsRead.{as_read, parts_as_read, places_as_read}
use Rattle.nt_grammar.specs.ReadingBack.{IsDescribed}
use Rattle.nt_grammar.proofs.AddedRows.{added-count, added-length, Added-described, Added-few}
use Rattle.nt_plans.specs.Place.{place}
use Rattle.nt_finished.specs.AddedFields.{AddsField, AddsFields, adds_none, adds_one}
use Rattle.nt_finished.specs.LeftOut.{IsLeftOut, LacksFields, lacks_none, lacks_one}
use Rattle.nt_finished.specs.Zeros.{zero_tree, zero_parts, zero_kinds, zero_of}

-- ---- a shape and what it is read as have one zero

mutual
  pub zero-read : (k : ShapeData) → zero_tree (as_read k) ≡ zero_tree k
  zero-read kinds.bool = refl
  zero-read kinds.char = refl
  zero-read kinds.byte = refl
  zero-read (kinds.int bits signed) = refl
  zero-read kinds.text = refl
  zero-read (kinds.list k) = refl
  zero-read (kinds.maybe k) = refl
  zero-read (kinds.fields ps) = ap parts (zero-parts-read ps)
  zero-read (kinds.tuple ks) = ap parts (zero-places-read 0 ks)
  zero-read (kinds.choice ks) = refl

  zero-parts-read : (ps : MembersData) → zero_parts (parts_as_read ps) ≡ zero_parts ps
  zero-parts-read no_parts = refl
  zero-parts-read (part n k ps) =
      ap (λ (x : TreeData). tree x (zero_parts (parts_as_read ps))) (zero-read k) ∙ ap (tree (zero_tree k)) (zero-parts-read ps)

  zero-places-read : (i : ℕ) (ks : ShapesData) → zero_parts (places_as_read i ks) ≡ zero_kinds ks
  zero-places-read i no_kinds = refl
  zero-places-read i (kind k ks) =
      ap (λ (x : TreeData). tree x (zero_parts (places_as_read (i + 1) ks))) (zero-read k)
      ∙ ap (tree (zero_tree k)) (zero-places-read (i + 1) ks)

-- ---- several fields

field-longer : (low : ℕ) (t : Table) (field : MemberData) (s : Table) → AddsField low t field s
    → length s.fields ≡ length t.fields + field_count field.of
field-longer low t field s f =
    added-length t field f.plain f.written s f.added
    ∙ ap (λ (n : ℕ). length t.fields + n) (added-count t field f.plain f.written s f.added)

fields-longer : (low : ℕ) (new t : Table) (fields : List MemberData) → AddsFields low new t fields → length t.fields ≤ length new.fields
fields-longer low new t fields adds_none = omega arith
fields-longer low new t fields (adds_one {s = s} {field = field} {fields = others} f more) =
    omega (arith, field-longer low t field s f, fields-longer low new s others more)

module _ (left_out : (low : ℕ) (t : Table) (field : MemberData) (new : Table) → IsDescribed t → IsFew new → AddsField low t field new
    → IsLeftOut low t new (place new.fields new.columns (as_read field.of) (length t.fields)))
    (zero_is : (fields : List FieldRow) (columns : List ColumnRow) (shape : ShapeData) (id : ℕ)
    → zero_of (place fields columns (as_read shape) id) ≡ zero_tree shape) where
  pub fields-lacked : (low : ℕ) (new t : Table) (fields : List MemberData) → IsDescribed t → IsFew t → length new.fields ≤ max_fields
      → AddsFields low new t fields → LacksFields low new t (zero_parts (parts_of fields))
  fields-lacked low new t fields described few short adds_none = lacks_none
  fields-lacked low new t fields described few short (adds_one {s = s} {field = field} {fields = others} f more) =
      let longer : length s.fields ≡ length t.fields + field_count field.of = field-longer low t field s f in
      let within : length s.fields ≤ length new.fields = fields-longer low new s others more in
      let room : length t.fields + field_count field.of ≤ max_fields = omega arith in
      let few_after : IsFew s = Added-few t field f.plain f.written s few room f.added in
      let described_after : IsDescribed s =
      Added-described t field f.plain f.written s described f.is few_after (omega (arith, f.short)) f.added in
      subst (λ (z : TreeData). LacksFields low new t (tree z (zero_parts (parts_of others))))
      (zero_is s.fields s.columns field.of (length t.fields))
      (lacks_one (left_out low t field s described few_after f) (fields-lacked low new s others described_after few_after short more))
