-- What a reading of lists of rows found is in range.
use Rattle.std.proofs.Common.{◌≡◌, ℕ, zero, suc, List, [], ◌∷◌, ◌++◌, length, Result, Ok, sym, ap, subst, ◌∙◌, append_assoc, arith}
use Rattle.std.specs.List.{AllByRecursion}
use Rattle.std.proofs.lemmas.List.{append-nil, length-append}
use Rattle.nt_num.specs.Place.{At}
use Rattle.nt_lists.specs.Chaining.{◌>>=◌}
use Rattle.nt_format.specs.Reading.{placed, IsBytes}
use Rattle.nt_num.specs.declared.fault.ReadError.{ReadError}
use Rattle.nt_format.specs.Frames.{list_at}
use Rattle.nt_grammar.specs.declared.rows.FieldRow.{FieldRow}
use Rattle.nt_grammar.specs.declared.rows.ColumnRow.{ColumnRow}
use Rattle.nt_grammar.specs.declared.part.Part.{Part}
use Rattle.nt_grammar.specs.Table.{Table}
use Rattle.nt_grammar.specs.Reading.{field_at, fields_on, fields_at, column_at, columns_on, columns_at, rows_at, extended, description_at}
use Rattle.nt_lists.proofs.Chaining.{bind_ok}
use Rattle.nt_lists.proofs.Variants.{ok_is}
use Rattle.nt_format.proofs.Frames.{list_takes}
use Rattle.nt_format.proofs.Placed.{placed_ok}
use Rattle.nt_grammar.proofs.ReadingFound.{field-yields, column-yields}
use Rattle.nt_grammar.specs.ReadingBack.{AreFieldRows, IsColumnRow, AddsRows}

-- rows that are added behind others
fields-found : (n : ℕ) (rows all : List FieldRow) (here : At) → IsBytes here.left → fields_on n rows here ≡ Ok all
    → (more : List FieldRow) × (all ≡ rows ++ more) × AreFieldRows (length rows) more
fields-found zero rows all here bytes e = ([], sym (ok_is rows all e) ∙ sym (append-nil rows), tt)
fields-found (suc n) rows all here bytes e =
    let step = bind_ok (field_at (length rows) here) (λ row. fields_on n (rows ++ row.0 ∷ []) row.1) all e in
    let row = field-yields (length rows) here step.0 bytes step.1 in
    let others = fields-found n (rows ++ step.0.0 ∷ []) all step.0.1 row.1 step.2 in
    let ids : length (rows ++ step.0.0 ∷ []) ≡ suc (length rows) = omega (arith, length-append rows (step.0.0 ∷ [])) in (
      step.0.0 ∷ others.0,
      others.1 ∙ append_assoc rows (step.0.0 ∷ []) others.0,
      (row.0, subst (λ (k : ℕ). AreFieldRows k others.0) ids others.2),
    )

columns-found : (fields n : ℕ) (rows all : List ColumnRow) (here : At) → IsBytes here.left → columns_on fields n rows here ≡ Ok all
    → (more : List ColumnRow) × (all ≡ rows ++ more) × AllByRecursion (IsColumnRow fields) more
columns-found fields zero rows all here bytes e = ([], sym (ok_is rows all e) ∙ sym (append-nil rows), tt)
columns-found fields (suc n) rows all here bytes e =
    let step = bind_ok (column_at fields here) (λ row. columns_on fields n (rows ++ row.0 ∷ []) row.1) all e in
    let row = column-yields fields here step.0 bytes step.1 in
    let others = columns-found fields n (rows ++ step.0.0 ∷ []) all step.0.1 row.1 step.2 in
    (step.0.0 ∷ others.0, others.1 ∙ append_assoc rows (step.0.0 ∷ []) others.0, (row.0, others.2))

field-list-found : (rows : List FieldRow) (here : At) (w : List FieldRow × At) → IsBytes here.left → fields_at rows here ≡ Ok w
    → (more : List FieldRow) × (w.0 ≡ rows ++ more) × AreFieldRows (length rows) more × IsBytes w.1.left
unfolding fields_at
field-list-found rows here w bytes e =
    let step = bind_ok (placed (list_at here)) (λ list. fields_on list.0.0 rows list.0.1 >>= λ fields. Ok (fields, list.1)) w e in
    let list = list_takes here step.0.0.0 step.0.0.1 step.0.1 bytes (placed_ok (list_at here) step.0 step.1) in
    let on = bind_ok (fields_on step.0.0.0 rows step.0.0.1) (λ fields. Ok (fields, step.0.1)) w step.2 in
    let rows_found = fields-found step.0.0.0 rows on.0 step.0.0.1 list.bytes on.1 in
    let w_is = ok_is (on.0, step.0.1) w on.2 in
    subst (λ (p : List FieldRow × At). (more : List FieldRow) × (p.0 ≡ rows ++ more) × AreFieldRows (length rows) more
    × IsBytes p.1.left) w_is (rows_found.0, rows_found.1, rows_found.2, list.frame.bytes)

column-list-found : (fields : ℕ) (rows : List ColumnRow) (here : At) (w : List ColumnRow × At) → IsBytes here.left
    → columns_at fields rows here ≡ Ok w
    → (more : List ColumnRow) × (w.0 ≡ rows ++ more) × AllByRecursion (IsColumnRow fields) more
unfolding columns_at
column-list-found fields rows here w bytes e =
    let step = bind_ok (placed (list_at here)) (λ list. columns_on fields list.0.0 rows list.0.1 >>= λ columns. Ok (columns, list.1)) w e in
    let list = list_takes here step.0.0.0 step.0.0.1 step.0.1 bytes (placed_ok (list_at here) step.0 step.1) in
    let on = bind_ok (columns_on fields step.0.0.0 rows step.0.0.1) (λ columns. Ok (columns, step.0.1)) w step.2 in
    let rows_found = columns-found fields step.0.0.0 rows on.0 step.0.0.1 list.bytes on.1 in
    let w_is = ok_is (on.0, step.0.1) w on.2 in
    subst (λ (p : List ColumnRow × At). (more : List ColumnRow) × (p.0 ≡ rows ++ more)
    × AllByRecursion (IsColumnRow fields) more) w_is rows_found

-- rows behind these, in range
abbrev AreMore : List FieldRow → List ColumnRow → List FieldRow × List ColumnRow → Type 0
AreMore fields columns rows =
    (more : List FieldRow) × (new : List ColumnRow) × (rows.0 ≡ fields ++ more) × (rows.1 ≡ columns ++ new)
    × AreFieldRows (length fields) more × AllByRecursion (IsColumnRow (length (fields ++ more))) new

rows-found : (old_fields : List FieldRow) (old_columns : List ColumnRow) (here : At) (w : (List FieldRow × List ColumnRow) × At)
    → IsBytes here.left
    → rows_at old_fields old_columns here ≡ Ok w → AreMore old_fields old_columns w.0
unfolding rows_at
rows-found old_fields old_columns here w bytes e =
    let last : List FieldRow → List ColumnRow × At
    → Result ((List FieldRow × List ColumnRow) × At) ReadError =
    λ fields columns. placed (list_at columns.1) >>= λ aliases. placed (list_at aliases.1) >>= λ types. Ok ((fields, columns.0), types.1) in
    let fields = bind_ok (fields_at old_fields here) (λ fields. columns_at (length fields.0) old_columns fields.1 >>= last fields.0) w e in
    let columns = bind_ok (columns_at (length fields.0.0) old_columns fields.0.1) (last fields.0.0) w fields.2 in
    let aliases = bind_ok (placed (list_at columns.0.1))
    (λ a. placed (list_at a.1) >>= λ types. Ok ((fields.0.0, columns.0.0), types.1)) w columns.2 in
    let types = bind_ok (placed (list_at aliases.0.1)) (λ types. Ok ((fields.0.0, columns.0.0), types.1)) w aliases.2 in
    let more = field-list-found old_fields here fields.0 bytes fields.1 in
    let new = column-list-found (length fields.0.0) old_columns fields.0.1 columns.0 more.3 columns.1 in
    subst (λ (p : (List FieldRow × List ColumnRow) × At). AreMore old_fields old_columns p.0)
    (ok_is ((fields.0.0, columns.0.0), types.0.1) w types.2)
    (more.0, new.0, more.1, new.1, more.2, subst (λ (l : List FieldRow). AllByRecursion (IsColumnRow (length l)) new.0) more.1 new.2)

extended-is : (part : Part) (t : Table) (rows : List FieldRow × List ColumnRow) (fields : List FieldRow) (columns : List ColumnRow)
    → rows.0 ≡ fields → rows.1 ≡ columns
    → extended part t rows.0 rows.1 ≡ extended part t fields columns
extended-is part t rows fields columns e f = ap (λ (l : List FieldRow). extended part t l rows.1) e
    ∙ ap (λ (l : List ColumnRow). extended part t fields l) f

pub description-found : (part : Part) (t read : Table) (here after : At) → IsBytes here.left
    → description_at part t here ≡ Ok (read, after) → AddsRows part t read
unfolding description_at
description-found part t read here after bytes e =
    let rows = bind_ok (rows_at t.fields t.columns here) (λ rows. Ok (extended part t rows.0.0 rows.0.1, rows.1)) (read, after) e in
    let more = rows-found t.fields t.columns here rows.0 bytes rows.1 in
    let read_as : extended part t rows.0.0.0 rows.0.0.1 ≡ read =
    ap (λ (p : Table × At). p.0) (ok_is (extended part t rows.0.0.0 rows.0.0.1, rows.0.1) (read, after) rows.2) in
    record {
      fields = more.0;
      columns = more.1;
      ids = more.4;
      owners = more.5;
      rows = subst (λ (x : Table). x ≡ extended part t (t.fields ++ more.0) (t.columns ++ more.1)) read_as
          (extended-is part t rows.0.0 (t.fields ++ more.0) (t.columns ++ more.1) more.2 more.3);
    }
