-- Described fields are open.
use Rattle.std.proofs.Common.{ℕ, zero, suc, Bool, true, false, ◌≡◌, ◌<◌, ◌≤◌, ◌+◌, List, [], ◌∷◌, ◌++◌, map}
use Rattle.std.proofs.Common.{Some, slice_get, ◌==◌, refl, sym, ap, ◌∙◌, zero-add, add-zero, append-nil, arith}
use Rattle.std.proofs.lemmas.Bool.Decides.{nat_tests}
use Rattle.std.proofs.lemmas.List.Elements.{filter-append}
use Rattle.std.proofs.lemmas.Option.{slice_get-map}
use Rattle.std.specs.Prelude.{option_map}
use Rattle.nt_types.specs.ShapeData.{MemberData, parts_of}
use Rattle.nt_types.specs.Spelling.{depth, deepest_part}
use Rattle.nt_types.specs.Rules.{AreFields}
use Rattle.nt_types.specs.declared.column_type.ColumnType.{ColumnType}
use Rattle.nt_grammar.specs.declared.rows.FieldRow.{FieldRow}
use Rattle.nt_grammar.specs.declared.rows.ColumnRow.{ColumnRow}
use Rattle.nt_grammar.specs.Columns.{column_types}
use Rattle.nt_grammar.specs.Table.{Table}
use Rattle.nt_grammar.specs.Rows.{NodeData, Rows, at_top, all_inside, field_row}
use Rattle.nt_grammar.specs.Rows.{column_row, column_rows}
use Rattle.nt_grammar.specs.Open.{columns_of_field, open_field, open_shape}
use Rattle.nt_grammar.specs.AsRead.{as_read}
use Rattle.nt_grammar.proofs.AllNodes.{all-fields}
use Rattle.nt_grammar.proofs.Added.{late_rows-zero, first_of-zero}
use Rattle.nt_grammar.proofs.Inside.{ids_inside-is}
use Rattle.nt_grammar.proofs.OpenShapes.{read_part}
use Rattle.nt_grammar.proofs.OpenFields.{Stands, field-open, max-parts, slice_get-front}

-- the columns of a field

pub other-columns : (id j : ℕ) (ts : List ColumnType) → (j == id) ≡ false → columns_of_field id (map (column_row j) ts) ≡ []
other-columns id j [] h = refl
other-columns id j (t ∷ ts) h = rw h (other-columns id j ts h)

pub own-columns : (id : ℕ) (ts : List ColumnType) → (id == id) ≡ true
    → columns_of_field id (map (column_row id) ts) ≡ map (column_row id) ts
own-columns id [] h = refl
own-columns id (t ∷ ts) h = rw h (ap (λ (z : List ColumnRow). column_row id t ∷ z) (own-columns id ts h))

pub two-columns : (id : ℕ) (a b : List ColumnRow) → columns_of_field id (a ++ b) ≡ columns_of_field id a ++ columns_of_field id b
two-columns id a b = filter-append (λ (c : ColumnRow). c.field == id) a b

later-columns : (plain : Bool) (id from : ℕ) (ns : List NodeData) → id < from → columns_of_field id (column_rows plain from ns) ≡ []
later-columns plain id from [] h = refl
later-columns plain id from (n ∷ ns) h =
    let other : (from == id) ≡ false = grind (arith, nat_tests) in
    two-columns id (map (column_row from) (column_types plain n.of)) (column_rows plain (from + 1) ns)
    ∙ rw (other-columns id from (column_types plain n.of) other) (later-columns plain id (from + 1) ns (omega arith))

columns-from : (plain : Bool) (from k : ℕ) (ns : List NodeData) (n : NodeData) → slice_get ns k ≡ Some n
    → columns_of_field (from + k) (column_rows plain from ns) ≡ map (column_row (from + k)) (column_types plain n.of)
columns-from plain from k [] n is = cc
columns-from plain from zero (m ∷ ns) n is =
    let same : m ≡ n = cc in
    let own : (from == from) ≡ true = grind (arith, nat_tests) in
    rw add-zero (two-columns from (map (column_row from) (column_types plain m.of)) (column_rows plain (from + 1) ns)
    ∙ rw (own-columns from (column_types plain m.of) own, later-columns plain from (from + 1) ns (omega arith), same)
    (append-nil (map (column_row from) (column_types plain n.of))))
columns-from plain from (suc k) (m ∷ ns) n is =
    let next : (from + 1) + k ≡ from + suc k = omega arith in
    let other : (from == (from + suc k)) ≡ false = grind (arith, nat_tests) in
    let later : columns_of_field (from + suc k) (column_rows plain (from + 1) ns)
    ≡ map (column_row (from + suc k)) (column_types plain n.of) = rw next at (columns-from plain (from + 1) k ns n is) in
    two-columns (from + suc k) (map (column_row from) (column_types plain m.of)) (column_rows plain (from + 1) ns)
    ∙ rw (other-columns (from + suc k) from (column_types plain m.of) other) later

columns-is : (plain : Bool) (i : ℕ) (nodes : List NodeData) (n : NodeData) → slice_get nodes i ≡ Some n
    → columns_of_field i (column_rows plain 0 nodes) ≡ map (column_row i) (column_types plain n.of)
columns-is plain i nodes n is = rw zero-add at (columns-from plain 0 i nodes n is)

-- fields at the top level

pub top-get : (from : ℕ) (ps : List MemberData) (k : ℕ) (p : MemberData) → slice_get ps k ≡ Some p
    → slice_get (at_top from ps) k ≡ Some (record { parent = from + k; name = p.name; of = p.of })
top-get from [] k p is = cc
top-get from (q ∷ ps) zero p is = let same : q ≡ p = cc in rw (add-zero, same) refl
top-get from (q ∷ ps) (suc k) p is = let next : (from + 1) + k ≡ from + suc k = omega arith in rw next at (top-get (from + 1) ps k p is)

top-shallow : (ps : List MemberData) (k : ℕ) (p : MemberData) → deepest_part (parts_of ps) ≤ 32 → slice_get ps k ≡ Some p → depth p.of ≤ 32
top-shallow [] k p h is = cc
top-shallow (q ∷ ps) zero p h is = let same : q ≡ p = cc in let both = max-parts (depth q.of) (deepest_part (parts_of ps)) 32 h in
    rw (← same) both.0
top-shallow (q ∷ ps) (suc k) p h is = top-shallow ps k p (max-parts (depth q.of) (deepest_part (parts_of ps)) 32 h).1 is

-- their rows stand from id 0 on, whatever is principal
described-stand : (ps : List MemberData) (plain : Bool) (t : Table) → AreFields ps → (r : Rows ps plain t)
    → Stands t.fields t.columns 0 ps r.nodes plain 0 (λ i up. Unit {0})
described-stand ps plain t a r = record {
  order = r.order;
  rules = all-fields ps r.nodes a r.order;
  few = omega arith;
  rows = λ i n is. ap (slice_get t.fields) (zero-add i) ∙ (ap (λ (z : List FieldRow). slice_get z i) r.field_rows
      ∙ (slice_get-map field_row r.nodes i ∙ ap (option_map field_row) is));
  ids = λ i n is. rw r.field_rows (ids_inside-is 0 ps r.nodes i n r.order is);
  columns = λ i n up is m. rw (r.columns_by_field, first_of-zero up, zero-add) (columns-is plain i r.nodes n is
      ∙ sym (late_rows-zero i (column_types plain n.of)));
  marks = λ i n up k c is m in_it. tt;
}

-- described fields have the shapes that they were described from, with tuples read as records
pub described-open : (ps : List MemberData) (plain : Bool) (t : Table) → AreFields ps → Rows ps plain t → (id : ℕ) (p : MemberData)
    → slice_get ps id ≡ Some p → open_shape t id ≡ Some (as_read p.of)
described-open ps plain t a r id p is =
    let n : NodeData = record { parent = 0 + id; name = p.name; of = p.of } in
    let here : slice_get r.nodes id ≡ Some n = ap (λ (z : List NodeData). slice_get z id) r.order
    ∙ slice_get-front (at_top 0 ps) (all_inside 0 r.nodes) id n (top-get 0 ps id p is) in
    let row : slice_get t.fields id ≡ Some (field_row n) = ap (λ (z : List FieldRow). slice_get z id) r.field_rows
    ∙ (slice_get-map field_row r.nodes id ∙ ap (option_map field_row) here) in
    let part_is : open_field 64 t.fields t.columns true id ≡ Some (read_part n) =
    rw zero-add at (field-open t.fields t.columns 0 ps r.nodes plain 0 (λ i up. Unit {0}) (described-stand ps plain t a r) 64 id true n here
    tt (omega (arith, top-shallow ps id p a.shallow is))) in
    let top : ((0 + id) == id) ≡ true = grind (arith, nat_tests) in
    rw (row, top, part_is) refl
