-- The table with one more field.
use Rattle.std.proofs.Common.{ℕ, Bool, true, false, ◌≡◌, ◌+◌, List, [], ◌∷◌, ◌++◌, length, map, refl, sym, ◌∙◌, ap}
use Rattle.nt_types.specs.ShapeData.{MemberData}
use Rattle.nt_types.specs.declared.column_type.ColumnType.{ColumnType}
use Rattle.nt_grammar.specs.declared.rows.ColumnRow.{ColumnRow}
use Rattle.nt_grammar.specs.Columns.{column_types}
use Rattle.nt_grammar.specs.Rows.{field_row, column_row, column_rows}
use Rattle.nt_grammar.specs.Table.{Table}
use Rattle.nt_grammar.specs.Added.{MarkedData, nodes_of, late_rows, first_of, added_rows, Added}
use Rattle.nt_grammar.proofs.Listing.{same_tables}
use Rattle.nt_grammar.proofs.Marks.{AreMarked-one}

-- there is one such table
pub Added-one : (t : Table) (field : MemberData) (plain : Bool) (entries : ℕ) (one other : Table) → Added t field plain entries one
    → Added t field plain entries other → one ≡ other
Added-one t field plain entries one other a b =
    let e : a.marks ≡ b.marks = AreMarked-one (length t.fields) (field ∷ []) a.marks b.marks a.order b.order in
    same_tables one other
    (a.field_rows ∙ (ap (λ (ms : List MarkedData). t.fields ++ map field_row (nodes_of ms)) e ∙ sym b.field_rows))
    (a.columns_by_field ∙ (ap (λ (ms : List MarkedData). t.columns ++ added_rows plain entries (length t.fields) ms) e
    ∙ sym b.columns_by_field))
    (a.header_fields ∙ sym b.header_fields) (a.header_columns ∙ sym b.header_columns)

-- before the first entry no column is deferred

pub late_rows-zero : (id : ℕ) (ts : List ColumnType) → late_rows 0 id ts ≡ map (column_row id) ts
late_rows-zero id [] = refl
late_rows-zero id (t ∷ ts) = refl

pub first_of-zero : (principal : Bool) → first_of 0 principal ≡ 0
first_of-zero true = refl
first_of-zero false = refl

pub added_rows-zero : (plain : Bool) (id : ℕ) (ms : List MarkedData) → added_rows plain 0 id ms ≡ column_rows plain id (nodes_of ms)
added_rows-zero plain id [] = refl
added_rows-zero plain id (m ∷ ms) =
    ap (λ (first : ℕ). late_rows first id (column_types plain m.node.of) ++ added_rows plain 0 (id + 1) ms) (first_of-zero m.principal)
    ∙ (ap (λ (z : List ColumnRow). z ++ added_rows plain 0 (id + 1) ms) (late_rows-zero id (column_types plain m.node.of))
    ∙ ap (λ (z : List ColumnRow). map (column_row id) (column_types plain m.node.of) ++ z) (added_rows-zero plain (id + 1) ms))
