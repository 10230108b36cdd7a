-- The rows of a field that is added are in range.
use Rattle.std.proofs.Common.{◌≡◌, ℕ, suc, ◌+◌, ◌*◌, ◌<◌, ◌≤◌, ◌^◌, Bool, true, false, List, [], ◌∷◌, ◌++◌, length, map, refl, ap, subst}
use Rattle.std.proofs.Common.{◌∙◌, ◌==◌, arith}
use Rattle.std.proofs.lemmas.Bool.{eqb-true, true≢false}
use Rattle.std.proofs.lemmas.List.{length-append, length-map}
use Rattle.std.specs.Prelude.{if◌then◌else◌}
use Rattle.std.specs.List.{AllByRecursion}
use Rattle.nt_types.specs.ShapeData.{ShapeData, MemberData, text, fields, tuple}
use Rattle.nt_types.specs.Limits.{max_fields}
use Rattle.nt_types.specs.Schema.{field_count}
use Rattle.nt_types.specs.Rules.{IsField}
use Rattle.nt_types.specs.declared.column_type.ColumnType.{ColumnType}
use Rattle.nt_grammar.specs.declared.rows.FieldRow.{FieldRow}
use Rattle.nt_grammar.specs.declared.rows.ColumnRow.{ColumnRow}
use Rattle.nt_grammar.specs.declared.part.Part.TheVariants.{Extension}
use Rattle.nt_grammar.specs.Codes.{deferred_flag}
use Rattle.nt_grammar.specs.Table.{Table, IsFew, table_of}
use Rattle.nt_grammar.specs.Columns.{column_types}
use Rattle.nt_grammar.specs.Writing.{is_deferred}
use Rattle.nt_grammar.specs.Rows.{NodeData, AreNodesFrom, at_top, field_row, column_row}
use Rattle.nt_grammar.specs.Added.{MarkedData, nodes_of, late_rows, first_of, added_rows, Added}
use Rattle.nt_grammar.specs.ReadingBack.{IsColumnRow, IsDescribed, AddsRows}
use Rattle.nt_grammar.proofs.AllNodes as nodes
use Rattle.nt_grammar.proofs.AllNodes.{AllNodes, all-fields-from}
use Rattle.nt_grammar.proofs.Listing.{same_tables}
use Rattle.nt_grammar.proofs.Marks.{AreMarked-nodes}
use Rattle.nt_grammar.proofs.ReadingDescribed.{each-append, AddsRows-described}
use Rattle.nt_grammar.proofs.ReadingSchemas.{placed-top, placed-listed, count-listed, rows-in_range, code-fits, bits-fit, types-in_range}

-- where the first element isn't that of entry 0, the column is deferred
undeferred : (first : ℕ) (b : Bool) → (first == 0) ≡ b → is_deferred (if b then 0 else deferred_flag) ≡ false → first ≡ 0
undeferred first true e h = eqb-true first 0 e
undeferred first false e h = absurd (true≢false h)

flags-fit : (b : Bool) → (if b then 0 else deferred_flag) < 2 ^ 16
flags-fit true = omega arith
flags-fit false = omega arith

late-in_range : (n first id : ℕ) (ts : List ColumnType) → id < n → n ≤ 4096 → first < 2 ^ 64
    → AllByRecursion (IsColumnRow n) (late_rows first id ts)
late-in_range n first id [] lt few short = tt
late-in_range n first id (t ∷ ts) lt few short = (
  record {
    code = code-fits t;
    bits = bits-fit t;
    field = lt;
    word = omega arith;
    flags = flags-fit (first == 0);
    representation = omega arith;
    first = short;
    none = undeferred first (first == 0) refl;
  },
  types-in_range n id ts lt few,
)

first-fits : (entries : ℕ) (principal : Bool) → entries < 2 ^ 64 → first_of entries principal < 2 ^ 64
first-fits entries true h = h
first-fits entries false h = omega arith

added-in_range : (plain : Bool) (n entries id : ℕ) (ms : List MarkedData) → id + length ms ≤ n → n ≤ 4096 → entries < 2 ^ 64
    → AllByRecursion (IsColumnRow n) (added_rows plain entries id ms)
added-in_range plain n entries id [] le few short = tt
added-in_range plain n entries id (m ∷ ms) le few short =
    each-append n (late_rows (first_of entries m.principal) id (column_types plain m.node.of)) (added_rows plain entries (id + 1) ms)
    (late-in_range n (first_of entries m.principal) id (column_types plain m.node.of) (omega arith) few
    (first-fits entries m.principal short))
    (added-in_range plain n entries (id + 1) ms (omega arith) few short)

-- the fields of an added one
pub added-order : (t : Table) (field : MemberData) (plain : Bool) (entries : ℕ) (new : Table) → (a : Added t field plain entries new)
    → AreNodesFrom (length t.fields) (field ∷ []) (nodes_of a.marks)
added-order t field plain entries new a = AreMarked-nodes (length t.fields) (field ∷ []) a.marks a.order

-- there are as many as its shape makes
pub added-count : (t : Table) (field : MemberData) (plain : Bool) (entries : ℕ) (new : Table) → (a : Added t field plain entries new)
    → length (nodes_of a.marks) ≡ field_count field.of
added-count t field plain entries new a =
    omega (arith, count-listed (length t.fields) (field ∷ []) (nodes_of a.marks) (added-order t field plain entries new a))

pub added-length : (t : Table) (field : MemberData) (plain : Bool) (entries : ℕ) (new : Table) → (a : Added t field plain entries new)
    → length new.fields ≡ length t.fields + length (nodes_of a.marks)
added-length t field plain entries new a = ap length a.field_rows ∙ (length-append t.fields (map field_row (nodes_of a.marks))
    ∙ ap (λ (n : ℕ). length t.fields + n) (length-map (nodes_of a.marks) field_row))

pub added-rules : (t : Table) (field : MemberData) (plain : Bool) (entries : ℕ) (new : Table) → IsField field → IsFew new
    → (a : Added t field plain entries new) → AllNodes nodes.IsField (nodes_of a.marks)
added-rules t field plain entries new is few a =
    let count : length (nodes_of a.marks) ≡ field_count field.of = added-count t field plain entries new a in
    let all : length new.fields ≡ length t.fields + length (nodes_of a.marks) = added-length t field plain entries new a in
    all-fields-from (length t.fields) (field ∷ []) (nodes_of a.marks) (is.named, is.typed, tt) (omega (arith, count, all, few.fields))
    (added-order t field plain entries new a)

-- they stand behind those of the table, as a description can add them
pub Added-rows : (t : Table) (field : MemberData) (plain : Bool) (entries : ℕ) (new : Table) → IsField field → IsFew new
    → entries < 2 ^ 64 → Added t field plain entries new → AddsRows Extension t new
Added-rows t field plain entries new is few short a =
    let from : ℕ = length t.fields in
    let ns : List NodeData = nodes_of a.marks in
    let rows : List FieldRow = map field_row ns in
    let columns : List ColumnRow = added_rows plain entries from a.marks in
    let all : length new.fields ≡ from + length ns = added-length t field plain entries new a in
    let placed = placed-listed from (at_top from (field ∷ [])) ns (added-order t field plain entries new a)
    (placed-top from (field ∷ [])) in
    let marks : length ns ≡ length a.marks = length-map a.marks (λ (m : MarkedData). m.node) in
    let same : length new.fields ≡ length (t.fields ++ rows) = ap length a.field_rows in
    record {
      fields = rows;
      columns = columns;
      ids = rows-in_range from ns (omega (arith, all, few.fields)) placed (added-rules t field plain entries new is few a);
      owners = subst (λ (n : ℕ). AllByRecursion (IsColumnRow n) columns) same
          (added-in_range plain (length new.fields) entries from a.marks (omega arith) few.fields short);
      rows = same_tables new (table_of (t.fields ++ rows) (t.columns ++ columns) t.header_fields t.header_columns)
          a.field_rows a.columns_by_field a.header_fields a.header_columns;
    }

pub Added-described : (t : Table) (field : MemberData) (plain : Bool) (entries : ℕ) (new : Table) → IsDescribed t → IsField field
    → IsFew new → entries < 2 ^ 64 → Added t field plain entries new → IsDescribed new
Added-described t field plain entries new described is few short a =
    AddsRows-described Extension t new (Added-rows t field plain entries new is few short a) described

-- two columns a field at most

types-few : (plain : Bool) (k : ShapeData) → length (column_types plain k) ≤ 2
types-few plain text = omega arith
types-few plain (fields ps) = omega arith
types-few plain (tuple ks) = omega arith
types-few plain k = omega arith

late-length : (first id : ℕ) (ts : List ColumnType) → length (late_rows first id ts) ≡ length ts
late-length first id [] = refl
late-length first id (t ∷ ts) = ap suc (length-map ts (column_row id))

added-few : (plain : Bool) (entries id : ℕ) (ms : List MarkedData) → length (added_rows plain entries id ms) ≤ 2 * length ms
added-few plain entries id [] = omega arith
added-few plain entries id (m ∷ ms) =
    let own : List ColumnRow = late_rows (first_of entries m.principal) id (column_types plain m.node.of) in
    let two : length own ≡ length (column_types plain m.node.of) = late-length (first_of entries m.principal) id _ in
    let all : length (own ++ added_rows plain entries (id + 1) ms) ≡ length own + length (added_rows plain entries (id + 1) ms) =
    length-append own (added_rows plain entries (id + 1) ms) in
    omega (arith, two, types-few plain m.node.of, added-few plain entries (id + 1) ms, all)

pub Added-few : (t : Table) (field : MemberData) (plain : Bool) (entries : ℕ) (new : Table) → IsFew t
    → length t.fields + field_count field.of ≤ max_fields → Added t field plain entries new → IsFew new
Added-few t field plain entries new is few a =
    let count : length (nodes_of a.marks) ≡ field_count field.of = added-count t field plain entries new a in
    let marks : length (nodes_of a.marks) ≡ length a.marks = length-map a.marks (λ (m : MarkedData). m.node) in
    let all : length new.fields ≡ length t.fields + length (nodes_of a.marks) = added-length t field plain entries new a in
    let columns : length new.columns ≡ length t.columns + length (added_rows plain entries (length t.fields) a.marks) =
    ap length a.columns_by_field ∙ length-append t.columns (added_rows plain entries (length t.fields) a.marks) in
    record {
      fields = omega (arith, count, all, few);
      columns = omega (arith, columns, all, marks, is.columns, added-few plain entries (length t.fields) a.marks);
    }
