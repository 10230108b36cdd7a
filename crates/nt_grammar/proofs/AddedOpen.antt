-- A field that is added is open, and those before it are open as they were.
use Rattle.std.proofs.Common.{◌≡◌, ℕ, zero, suc, ◌+◌, ◌<◌, ◌≤◌, ◌^◌, Bool, true, false, List, [], ◌∷◌, ◌++◌, length, map, refl}
use Rattle.std.proofs.Common.{sym, ap, ap₂, subst, ◌∙◌, ◌==◌, Some, slice_get, append-nil, add-zero, zero-add, arith}
use Rattle.std.proofs.lemmas.Bool.Decides.{nat_tests}
use Rattle.std.proofs.lemmas.Option.{slice_get-map}
use Rattle.std.specs.Prelude.{option_map, option_and_then}
use Rattle.std.specs.List.{AllByRecursion}
use Rattle.nt_types.specs.ShapeData.{MemberData}
use Rattle.nt_types.specs.Rules.{IsField}
use Rattle.nt_types.specs.declared.column_type.ColumnType.{ColumnType}
use Rattle.nt_grammar.specs.declared.rows.FieldRow.{FieldRow}
use Rattle.nt_grammar.specs.declared.rows.ColumnRow.{ColumnRow}
use Rattle.nt_grammar.specs.Table.{Table, IsFew}
use Rattle.nt_grammar.specs.Columns.{column_types}
use Rattle.nt_grammar.specs.Rows.{NodeData, AreNodesFrom, all_inside, field_row, column_row}
use Rattle.nt_grammar.specs.Added.{MarkedData, nodes_of, late_row, late_rows, first_of, added_rows, Added}
use Rattle.nt_grammar.specs.Open.{ids_inside, columns_of_field, open_field, top_shape, open_shape}
use Rattle.nt_grammar.specs.AsRead.{as_read}
use Rattle.nt_grammar.specs.ReadingBack.{AreFieldRows, IsColumnRow, IsDescribed}
use Rattle.nt_grammar.proofs.AllNodes.{AllNodes}
use Rattle.nt_grammar.proofs.Described.{two-columns, other-columns, own-columns}
use Rattle.nt_grammar.proofs.FieldsInside.{ids_inside-append}
use Rattle.nt_grammar.proofs.Inside.{Within, all_inside-parents, ids_inside-is}
use Rattle.nt_grammar.proofs.OpenFields.{Stands, field-open}
use Rattle.nt_grammar.proofs.OpenShapes.{read_part}
use Rattle.nt_grammar.proofs.Grown.{LieFrom, OwnedFrom, slice_get-old, slice_get-new, then-same, top_shape-old}
use Rattle.nt_grammar.proofs.ReadingDescribed.{columns-of}
use Rattle.nt_grammar.proofs.AddedMarks.{IsMarked, node-mark, mark-inside}
use Rattle.nt_grammar.proofs.AddedRows.{added-order, added-rules}

-- the columns of an added field

late-other : (first id j : ℕ) (ts : List ColumnType) → (j == id) ≡ false → columns_of_field id (late_rows first j ts) ≡ []
late-other first id j [] h = refl
late-other first id j (t ∷ ts) h = rw h (other-columns id j ts h)

late-own : (first id : ℕ) (ts : List ColumnType) → (id == id) ≡ true → columns_of_field id (late_rows first id ts) ≡ late_rows first id ts
late-own first id [] h = refl
late-own first id (t ∷ ts) h = rw h (ap (λ (z : List ColumnRow). late_row first id t ∷ z) (own-columns id ts h))

later-added : (plain : Bool) (entries id from : ℕ) (ms : List MarkedData) → id < from
    → columns_of_field id (added_rows plain entries from ms) ≡ []
later-added plain entries id from [] h = refl
later-added plain entries id from (m ∷ ms) h =
    let other : (from == id) ≡ false = grind (arith, nat_tests) in
    let first : ℕ = first_of entries m.principal in
    two-columns id (late_rows first from (column_types plain m.node.of)) (added_rows plain entries (from + 1) ms)
    ∙ rw (late-other first id from (column_types plain m.node.of) other) (later-added plain entries id (from + 1) ms (omega arith))

added-from : (plain : Bool) (entries from k : ℕ) (ms : List MarkedData) (m : MarkedData) → slice_get ms k ≡ Some m
    → columns_of_field (from + k) (added_rows plain entries from ms)
    ≡ late_rows (first_of entries m.principal) (from + k) (column_types plain m.node.of)
added-from plain entries from k [] m is = cc
added-from plain entries from zero (q ∷ ms) m is =
    let same : q ≡ m = cc in
    let own : (from == from) ≡ true = grind (arith, nat_tests) in
    let first : ℕ = first_of entries q.principal in
    rw add-zero (two-columns from (late_rows first from (column_types plain q.node.of)) (added_rows plain entries (from + 1) ms)
    ∙ rw (late-own first from (column_types plain q.node.of) own, later-added plain entries from (from + 1) ms (omega arith), same)
    (append-nil (late_rows (first_of entries m.principal) from (column_types plain m.node.of))))
added-from plain entries from (suc k) (q ∷ ms) m is =
    let next : (from + 1) + k ≡ from + suc k = omega arith in
    let other : (from == (from + suc k)) ≡ false = grind (arith, nat_tests) in
    let first : ℕ = first_of entries q.principal in
    let later : columns_of_field (from + suc k) (added_rows plain entries (from + 1) ms)
    ≡ late_rows (first_of entries m.principal) (from + suc k) (column_types plain m.node.of) =
    rw next at (added-from plain entries (from + 1) k ms m is) in
    two-columns (from + suc k) (late_rows first from (column_types plain q.node.of)) (added_rows plain entries (from + 1) ms)
    ∙ rw (late-other first (from + suc k) from (column_types plain q.node.of) other) later

-- rows of a table say nothing of fields behind them

no-columns : (p n : ℕ) (cs : List ColumnRow) → AllByRecursion (IsColumnRow n) cs → n ≤ p → columns_of_field p cs ≡ []
no-columns p n [] a h = refl
no-columns p n (c ∷ cs) a h =
    let below : c.field < n = a.0.field in
    let other : (c.field == p) ≡ false = grind (arith, nat_tests) in
    rw other (no-columns p n cs a.1 h)

pub no-fields : (p id : ℕ) (rows : List FieldRow) → AreFieldRows id rows → id + length rows ≤ p → ids_inside p id rows ≡ []
no-fields p id [] a h = refl
no-fields p id (r ∷ rs) a h =
    let next : suc id ≡ id + 1 = omega arith in
    let above : r.parent ≤ id = a.0.parent in
    let other : (r.parent == p) ≡ false = grind (arith, nat_tests) in
    rw other (no-fields p (id + 1) rs (subst (λ (k : ℕ). AreFieldRows k rs) next a.1) (omega arith))

-- where the added rows lie

nodes-lie : (from to : ℕ) (ns : List NodeData) → AllNodes (Within from to) ns → LieFrom from (map field_row ns)
nodes-lie from to [] a = tt
nodes-lie from to (n ∷ ns) a = (omega (arith, a.0.above), nodes-lie from to ns a.1)

lie-nodes : (from : ℕ) (field : MemberData) (ns : List NodeData) → AreNodesFrom from (field ∷ []) ns → LieFrom from (map field_row ns)
lie-nodes from field ns e =
    let inner : LieFrom from (map field_row (all_inside from ns)) =
    nodes-lie from (from + length ns) (all_inside from ns) (all_inside-parents from ns) in
    subst (λ (z : List NodeData). LieFrom from (map field_row z)) (sym e) (omega arith, inner)

types-owned : (from id : ℕ) (ts : List ColumnType) (rest : List ColumnRow) → from ≤ id → OwnedFrom from rest
    → OwnedFrom from (map (column_row id) ts ++ rest)
types-owned from id [] rest h later = later
types-owned from id (t ∷ ts) rest h later = (h, types-owned from id ts rest h later)

late-owned : (from first id : ℕ) (ts : List ColumnType) (rest : List ColumnRow) → from ≤ id → OwnedFrom from rest
    → OwnedFrom from (late_rows first id ts ++ rest)
late-owned from first id [] rest h later = later
late-owned from first id (t ∷ ts) rest h later = (h, types-owned from id ts rest h later)

pub rows-owned : (plain : Bool) (entries from id : ℕ) (ms : List MarkedData) → from ≤ id → OwnedFrom from (added_rows plain entries id ms)
rows-owned plain entries from id [] h = tt
rows-owned plain entries from id (m ∷ ms) h =
    late-owned from (first_of entries m.principal) id (column_types plain m.node.of) (added_rows plain entries (id + 1) ms) h
    (rows-owned plain entries from (id + 1) ms (omega arith))

pub added-lie : (t : Table) (field : MemberData) (plain : Bool) (entries : ℕ) (new : Table) → (a : Added t field plain entries new)
    → LieFrom (length t.fields) (map field_row (nodes_of a.marks))
added-lie t field plain entries new a = lie-nodes (length t.fields) field (nodes_of a.marks) (added-order t field plain entries new a)

-- the rows of an added field stand behind all others

added-stand : (t : Table) (field : MemberData) (plain : Bool) (entries : ℕ) (new : Table) → IsDescribed t → IsField field → IsFew new
    → entries < 2 ^ 63 → (a : Added t field plain entries new)
    → Stands new.fields new.columns (length t.fields) (field ∷ []) (nodes_of a.marks) plain entries (IsMarked a.marks)
added-stand t field plain entries new described is few short a =
    let from : ℕ = length t.fields in
    let ns : List NodeData = nodes_of a.marks in
    let columns : List ColumnRow = added_rows plain entries from a.marks in
    record {
      order = added-order t field plain entries new a;
      rules = added-rules t field plain entries new is few a;
      few = short;
      rows = λ i n at. ap (λ (z : List FieldRow). slice_get z (from + i)) a.field_rows
          ∙ (slice_get-new t.fields (map field_row ns) i ∙ (slice_get-map field_row ns i ∙ ap (option_map field_row) at));
      ids = λ i n at. ap (ids_inside (from + i) 0) a.field_rows
          ∙ (ids_inside-append (from + i) 0 t.fields (map field_row ns)
          ∙ (ap (λ (z : List ℕ). z ++ ids_inside (from + i) (0 + from) (map field_row ns))
          (no-fields (from + i) 0 t.fields described.fields (omega arith))
          ∙ (ap (λ (j : ℕ). ids_inside (from + i) j (map field_row ns)) (zero-add from)
          ∙ ids_inside-is from (field ∷ []) ns i n (added-order t field plain entries new a) at)));
      columns = λ i n up at m. ap (columns_of_field (from + i)) a.columns_by_field
          ∙ (two-columns (from + i) t.columns columns
          ∙ (ap (λ (z : List ColumnRow). z ++ columns_of_field (from + i) columns)
          (no-columns (from + i) from t.columns (columns-of t described) (omega arith))
          ∙ (added-from plain entries from i a.marks m.0 m.1
          ∙ ap₂ (λ (b : Bool) (x : NodeData). late_rows (first_of entries b) (from + i) (column_types plain x.of)) m.2
          (node-mark a.marks i m.0 n m.1 at))));
      marks = λ i n up k c at m in_it. mark-inside from (field ∷ []) a.marks i n up k c a.order at m in_it;
    }

-- the added field is open with its shape
pub added-open : (t : Table) (field : MemberData) (plain : Bool) (entries : ℕ) (new : Table) → IsDescribed t → IsField field → IsFew new
    → entries < 2 ^ 63 → Added t field plain entries new → open_shape new (length t.fields) ≡ Some (as_read field.of)
added-open t field plain entries new described is few short a =
    let from : ℕ = length t.fields in
    let n : NodeData = record { parent = from; name = field.name; of = field.of } in
    let s = added-stand t field plain entries new described is few short a in
    let here : slice_get (nodes_of a.marks) 0 ≡ Some n = ap (λ (z : List NodeData). slice_get z 0) s.order in
    let mark : IsMarked a.marks 0 true =
    (record { node = n; principal = true }, ap (λ (z : List MarkedData). slice_get z 0) a.order, refl) in
    let row : slice_get new.fields from ≡ Some (field_row n) = rw add-zero at (s.rows 0 n here) in
    let part_is : open_field 64 new.fields new.columns true from ≡ Some (read_part n) =
    rw add-zero at (field-open new.fields new.columns from (field ∷ []) (nodes_of a.marks) plain entries (IsMarked a.marks) s 64 0
    true n here mark (omega (arith, is.shallow))) in
    let top : (from == from) ≡ true = grind (arith, nat_tests) in
    rw (row, top, part_is) refl

-- fields before it have the shapes that they had
pub added-old : (t : Table) (field : MemberData) (plain : Bool) (entries : ℕ) (new : Table) → Added t field plain entries new
    → (id : ℕ) → id < length t.fields → open_shape new id ≡ open_shape t id
added-old t field plain entries new a id h =
    let from : ℕ = length t.fields in
    let rows : List FieldRow = map field_row (nodes_of a.marks) in
    let columns : List ColumnRow = added_rows plain entries from a.marks in
    ap₂ (λ (fs : List FieldRow) (cs : List ColumnRow). option_and_then (top_shape fs cs id) (slice_get fs id)) a.field_rows
    a.columns_by_field
    ∙ (ap (option_and_then (top_shape (t.fields ++ rows) (t.columns ++ columns) id)) (slice_get-old t.fields rows id h)
    ∙ then-same (top_shape (t.fields ++ rows) (t.columns ++ columns) id) (top_shape t.fields t.columns id) (slice_get t.fields id)
    (λ r. top_shape-old t.fields rows t.columns columns (added-lie t field plain entries new a)
    (rows-owned plain entries from from a.marks (omega arith)) id r h))
