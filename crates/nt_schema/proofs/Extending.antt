-- What the code puts together is the table of its fields, or one with a field more.
use Rattle.std.proofs.Common.{ℕ, Bool, true, false, ◌≡◌, ◌≤◌, ◌+◌, ◌*◌, List, [], ◌∷◌, ◌++◌, length, map, None, refl, sym, ap, ◌∙◌, arith}
use Rattle.std.specs.Prelude.{is_some, nat_lt}
use Rattle.std.specs.List.{list_all}
use Rattle.std.proofs.lemmas.Bool.Decides.{nat_tests}
use Rattle.std.proofs.lemmas.List.{length-append, length-map}
use Rattle.std.proofs.lemmas.List.Folds.{list_all-append}
use Rattle.nt_types.specs.ShapeData.{MemberData}
use Rattle.nt_types.specs.Limits.{max_fields}
use Rattle.nt_types.specs.Schema.{field_count}
use Rattle.nt_types.specs.Rules.{IsField}
use Rattle.nt_grammar.specs.declared.rows.FieldRow.{FieldRow}
use Rattle.nt_grammar.specs.declared.rows.ColumnRow.{ColumnRow}
use Rattle.nt_grammar.specs.Table.{Table, IsFew, in_header, is_short}
use Rattle.nt_grammar.specs.Rows.{Rows, field_row}
use Rattle.nt_grammar.specs.Added.{MarkedData, nodes_of, added_rows, AreMarked}
use Rattle.nt_grammar.proofs.Added.{added_rows-zero}
use Rattle.nt_grammar.proofs.AllNodes.{all-fields-from, rows-short}
use Rattle.nt_grammar.proofs.Marks.{AreMarked-nodes}
use Rattle.nt_grammar.proofs.ReadingSchemas.{count-listed}
use Rattle.nt_schema.specs.ByName.{find_from}
use Rattle.nt_schema.specs.Schema.{IsTable}
use Rattle.nt_schema.specs.Extending.{refused}

-- rows of fields behind none, before any entry, describe these fields
pub described_rows : (ps : List MemberData) (plain : Bool) (marks : List MarkedData) (fields : List FieldRow) (columns : List ColumnRow)
    → AreMarked 0 ps marks → fields ≡ map field_row (nodes_of marks) → columns ≡ added_rows plain 0 0 marks
    → Rows ps plain (in_header fields columns)
described_rows ps plain marks fields columns order e f = record {
  nodes = nodes_of marks;
  order = AreMarked-nodes 0 ps marks order;
  field_rows = e;
  columns_by_field = f ∙ added_rows-zero plain 0 marks;
  fields_in_header = refl;
  columns_in_header = refl;
}

both : (p : FieldRow → Bool) (a b : List FieldRow) → list_all p a ≡ true → list_all p b ≡ true → list_all p (a ++ b) ≡ true
both p a b h k = list_all-append p a b ∙ rw (h, k) refl

-- with the rows of one field behind it a table stays one that is kept
pub extended_table : (t new : Table) (field : MemberData) (marks : List MarkedData) (more : List ColumnRow) → IsTable t → IsFew t
    → IsField field → AreMarked (length t.fields) (field ∷ []) marks → length t.fields + length marks ≤ 4096
    → new.fields ≡ t.fields ++ map field_row (nodes_of marks) → new.columns ≡ t.columns ++ more
    → length new.columns ≤ length t.columns + 2 * length marks
    → new.header_fields ≡ t.header_fields → new.header_columns ≡ t.header_columns → IsTable new
extended_table t new field marks more is few rules order count e f columns header header_columns =
    let from : ℕ = length t.fields in
    let nodes = nodes_of marks in
    let listed = AreMarked-nodes from (field ∷ []) marks order in
    let all : length nodes ≡ length marks = length-map marks (λ (m : MarkedData). m.node) in
    let same = count-listed from (field ∷ []) nodes listed in
    let fields : length new.fields ≡ from + length nodes = ap length e ∙ (length-append t.fields (map field_row nodes)
    ∙ ap (λ (n : ℕ). from + n) (length-map nodes field_row)) in
    let behind : length new.columns ≡ length t.columns + length more = ap length f ∙ length-append t.columns more in
    let short : list_all is_short (map field_row nodes) ≡ true =
    rows-short nodes (all-fields-from from (field ∷ []) nodes (rules.named, rules.typed, tt) (omega (arith, same, all, count)) listed) in
    record {
      few_fields = omega (arith, fields, all, count);
      few_columns = omega (arith, few.fields, few.columns, columns, count);
      header_fields = omega (arith, is.header_fields, header, fields);
      header_columns = omega (arith, is.header_columns, header_columns, behind);
      short = ap (list_all is_short) e ∙ both is_short t.fields (map field_row nodes) is.short short;
    }

-- nothing stands against a field with a new name, for which there is room
pub not_refused : (t : Table) (field : MemberData) (named : Bool) → named ≡ is_some (find_from 0 t.fields field.name) → named ≡ false
    → length t.fields + field_count field.of ≤ max_fields → refused t field ≡ None
not_refused t field named e new few =
    let no : is_some (find_from 0 t.fields field.name) ≡ false = sym e ∙ new in
    let room : nat_lt max_fields (length t.fields + field_count field.of) ≡ false = grind (arith, nat_tests) in
    rw (no, room) refl
