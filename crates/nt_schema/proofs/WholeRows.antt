-- The rows of described fields, and those of a field that is added, are whole.
use Rattle.std.proofs.Common.{ℕ, Bool, true, false, ◌≡◌, ◌+◌, List, [], ◌∷◌, ◌++◌, map, refl, ap, ◌∙◌}
use Rattle.std.specs.Prelude.{nat_le, ◌==◌, ◌&&◌, if◌then◌else◌}
use Rattle.std.specs.List.{list_all}
use Rattle.std.proofs.lemmas.List.Folds.{list_all-append}
use Rattle.nt_types.specs.ShapeData.{MemberData}
use Rattle.nt_types.specs.declared.column_type.ColumnType.{ColumnType}
use Rattle.nt_grammar.specs.Codes.{deferred_flag}
use Rattle.nt_grammar.specs.Table.{Table}
use Rattle.nt_grammar.specs.Columns.{column_types}
use Rattle.nt_grammar.specs.Rows.{NodeData, Rows, field_row, column_row, column_rows}
use Rattle.nt_grammar.specs.Added.{MarkedData, Added, nodes_of, first_of, late_rows, added_rows}
use Rattle.nt_schema.specs.Whole.{is_whole_field, is_whole_column, AreWhole}

both : {X : Type 0} (p : X → Bool) (a b : List X) → list_all p a ≡ true → list_all p b ≡ true → list_all p (a ++ b) ≡ true
both p a b h k = list_all-append p a b ∙ rw (h, k) refl

fields-whole : (ns : List NodeData) → list_all is_whole_field (map field_row ns) ≡ true
fields-whole [] = refl
fields-whole (n ∷ ns) = fields-whole ns

types-whole : (id : ℕ) (ts : List ColumnType) → list_all is_whole_column (map (column_row id) ts) ≡ true
types-whole id [] = refl
types-whole id (t ∷ ts) = types-whole id ts

columns-whole : (plain : Bool) (id : ℕ) (ns : List NodeData) → list_all is_whole_column (column_rows plain id ns) ≡ true
columns-whole plain id [] = refl
columns-whole plain id (n ∷ ns) =
    both is_whole_column (map (column_row id) (column_types plain n.of)) (column_rows plain (id + 1) ns)
    (types-whole id (column_types plain n.of)) (columns-whole plain (id + 1) ns)

-- described fields have no flags
pub described_whole : (ps : List MemberData) (plain : Bool) (t : Table) → Rows ps plain t → AreWhole t
described_whole ps plain t r = record {
  fields = ap (list_all is_whole_field) r.field_rows ∙ fields-whole r.nodes;
  columns = ap (list_all is_whole_column) r.columns_by_field ∙ columns-whole plain 0 r.nodes;
}

flag-whole : (early : Bool) → nat_le (if early then 0 else deferred_flag) deferred_flag ≡ true
flag-whole true = refl
flag-whole false = refl

late-whole : (first id : ℕ) (ts : List ColumnType) → list_all is_whole_column (late_rows first id ts) ≡ true
late-whole first id [] = refl
late-whole first id (t ∷ ts) =
    ap (λ (b : Bool). b && list_all is_whole_column (map (column_row id) ts)) (flag-whole (first == 0)) ∙ types-whole id ts

added_rows-whole : (plain : Bool) (entries id : ℕ) (ms : List MarkedData) → list_all is_whole_column (added_rows plain entries id ms) ≡ true
added_rows-whole plain entries id [] = refl
added_rows-whole plain entries id (m ∷ ms) =
    let first = first_of entries m.principal in
    both is_whole_column (late_rows first id (column_types plain m.node.of)) (added_rows plain entries (id + 1) ms)
    (late-whole first id (column_types plain m.node.of)) (added_rows-whole plain entries (id + 1) ms)

-- a field that is added is deferred at most
pub added-whole : (t : Table) (field : MemberData) (plain : Bool) (entries : ℕ) (new : Table) → Added t field plain entries new → AreWhole t
    → AreWhole new
added-whole t field plain entries new a h = record {
  fields = ap (list_all is_whole_field) a.field_rows
      ∙ both is_whole_field t.fields (map field_row (nodes_of a.marks)) h.fields (fields-whole (nodes_of a.marks));
  columns = ap (list_all is_whole_column) a.columns_by_field
      ∙ both is_whole_column t.columns (added_rows plain entries _ a.marks) h.columns (added_rows-whole plain entries _ a.marks);
}
