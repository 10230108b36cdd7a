-- What is written of lists of rows is read back, whatever follows it.
use Rattle.std.proofs.Common.{◌≡◌, ℕ, suc, ◌+◌, ◌<◌, ◌^◌, List, [], ◌∷◌, ◌++◌, length, Result, Ok, refl, sym, ap, subst, ◌∙◌, append_assoc}
use Rattle.std.proofs.Common.{arith}
use Rattle.std.specs.List.{AllByRecursion}
use Rattle.std.proofs.lemmas.List.{append-nil, length-append}
use Rattle.nt_num.specs.Place.{At}
use Rattle.nt_lists.specs.Chaining.{◌>>=◌}
use Rattle.nt_format.specs.Reading.{standing, ReadsAs}
use Rattle.nt_num.specs.declared.fault.ReadError.{ReadError}
use Rattle.nt_format.specs.Frames.{list_frame, list_at}
use Rattle.nt_grammar.specs.declared.rows.FieldRow.{FieldRow}
use Rattle.nt_grammar.specs.declared.rows.ColumnRow.{ColumnRow}
use Rattle.nt_grammar.specs.declared.part.Part.{Part}
use Rattle.nt_grammar.specs.Table.{Table}
use Rattle.nt_grammar.specs.Writing.{field_record, column_record, field_records, column_records, description}
use Rattle.nt_grammar.specs.Reading.{fields_on, fields_at, columns_on, columns_at, rows_at, extended, description_at}
use Rattle.nt_format.proofs.Frames.{list_again}
use Rattle.nt_grammar.proofs.ReadingRows.{field-reads, column-reads}
use Rattle.nt_grammar.specs.ReadingBack.{AreFieldRows, IsColumnRow}

-- the first of two parts is no longer than both
front-below : (a b : List ℕ) (n : ℕ) → length (a ++ b) < n → length a < n
front-below a b n h = omega (arith, length-append a b, h)

back-below : (a b : List ℕ) (n : ℕ) → length (a ++ b) < n → length b < n
back-below a b n h = omega (arith, length-append a b, h)

fields-read : (rows fields : List FieldRow) (place : ℕ) (rest : List ℕ) → AreFieldRows (length rows) fields
    → length (field_records fields) < 2 ^ 63
    → fields_on (length fields) rows (standing place (field_records fields ++ rest)) ≡ Ok (rows ++ fields)
fields-read rows [] place rest are fits = ap (λ (l : List FieldRow). Ok l) (sym (append-nil rows))
fields-read rows (r ∷ rs) place rest are fits =
    let first = field-reads (length rows) r are.0 (front-below (field_record r) (field_records rs) (2 ^ 63) fits) place
    (field_records rs ++ rest) in
    let ids : length (rows ++ r ∷ []) ≡ suc (length rows) = omega (arith, length-append rows (r ∷ [])) in
    let others = fields-read (rows ++ r ∷ []) rs (place + length (field_record r)) rest
    (subst (λ (id : ℕ). AreFieldRows id rs) (sym ids) are.1) (back-below (field_record r) (field_records rs) (2 ^ 63) fits) in
    ap (λ (b : List ℕ). fields_on (suc (length rs)) rows (standing place b)) (append_assoc (field_record r) (field_records rs) rest)
    ∙ (ap (λ (x : Result (FieldRow × At) ReadError). x >>= λ row. fields_on (length rs) (rows ++ row.0 ∷ []) row.1) first
    ∙ (others ∙ ap (λ (l : List FieldRow). Ok l) (append_assoc rows (r ∷ []) rs)))

columns-read : (fields : ℕ) (rows columns : List ColumnRow) (place : ℕ) (rest : List ℕ) → AllByRecursion (IsColumnRow fields) columns
    → length (column_records columns) < 2 ^ 63
    → columns_on fields (length columns) rows (standing place (column_records columns ++ rest)) ≡ Ok (rows ++ columns)
columns-read fields rows [] place rest are fits = ap (λ (l : List ColumnRow). Ok l) (sym (append-nil rows))
columns-read fields rows (c ∷ cs) place rest are fits =
    let first = column-reads fields c are.0 (front-below (column_record c) (column_records cs) (2 ^ 63) fits) place
    (column_records cs ++ rest) in
    let others = columns-read fields (rows ++ c ∷ []) cs (place + length (column_record c)) rest are.1
    (back-below (column_record c) (column_records cs) (2 ^ 63) fits) in
    ap (λ (b : List ℕ). columns_on fields (suc (length cs)) rows (standing place b))
    (append_assoc (column_record c) (column_records cs) rest)
    ∙ (ap (λ (x : Result (ColumnRow × At) ReadError). x >>= λ row. columns_on fields (length cs) (rows ++ row.0 ∷ []) row.1) first
    ∙ (others ∙ ap (λ (l : List ColumnRow). Ok l) (append_assoc rows (c ∷ []) cs)))

fields-chain : (rows all : List FieldRow) (n place end : ℕ) (f inside rest : List ℕ)
    → list_at (standing place (f ++ rest)) ≡ Ok ((n, standing (place + 12) inside), standing end rest)
    → fields_on n rows (standing (place + 12) inside) ≡ Ok all → fields_at rows (standing place (f ++ rest)) ≡ Ok (all, standing end rest)
unfolding fields_at
fields-chain rows all n place end f inside rest list on = rw (list, on) refl

columns-chain : (fields : ℕ) (rows all : List ColumnRow) (n place end : ℕ) (f inside rest : List ℕ)
    → list_at (standing place (f ++ rest)) ≡ Ok ((n, standing (place + 12) inside), standing end rest)
    → columns_on fields n rows (standing (place + 12) inside) ≡ Ok all
    → columns_at fields rows (standing place (f ++ rest)) ≡ Ok (all, standing end rest)
unfolding columns_at
columns-chain fields rows all n place end f inside rest list on = rw (list, on) refl

-- a list frame, and the place behind it
list-read : (n place : ℕ) (inside rest : List ℕ) → n < 2 ^ 32 → 12 + length inside < 2 ^ 63
    → list_at (standing place (list_frame n inside ++ rest))
    ≡ Ok ((n, standing (place + 12) inside), standing (place + length (list_frame n inside)) rest)
list-read n place inside rest few small =
    let end : place + (12 + length inside) ≡ place + length (list_frame n inside) = omega arith in
    list_again n inside rest place few small ∙ ap (λ (k : ℕ). Ok ((n, standing (place + 12) inside), standing k rest)) end

field-list-reads : (rows fields : List FieldRow) → AreFieldRows (length rows) fields → length fields < 2 ^ 32
    → 12 + length (field_records fields) < 2 ^ 63
    → ReadsAs (fields_at rows) (list_frame (length fields) (field_records fields)) (rows ++ fields)
field-list-reads rows fields are few small place rest =
    let inside = field_records fields in
    let all = ap (λ (b : List ℕ). fields_on (length fields) rows (standing (place + 12) b)) (sym (append-nil inside))
    ∙ fields-read rows fields (place + 12) [] are (omega (arith, small)) in
    fields-chain rows (rows ++ fields) (length fields) place (place + length (list_frame (length fields) inside))
    (list_frame (length fields) inside) inside rest (list-read (length fields) place inside rest few small) all

column-list-reads : (fields : ℕ) (rows columns : List ColumnRow) → AllByRecursion (IsColumnRow fields) columns → length columns < 2 ^ 32
    → 12 + length (column_records columns) < 2 ^ 63
    → ReadsAs (columns_at fields rows) (list_frame (length columns) (column_records columns)) (rows ++ columns)
column-list-reads fields rows columns are few small place rest =
    let inside = column_records columns in
    let all = ap (λ (b : List ℕ). columns_on fields (length columns) rows (standing (place + 12) b)) (sym (append-nil inside))
    ∙ columns-read fields rows columns (place + 12) [] are (omega (arith, small)) in
    columns-chain fields rows (rows ++ columns) (length columns) place (place + length (list_frame (length columns) inside))
    (list_frame (length columns) inside) inside rest (list-read (length columns) place inside rest few small) all

-- a list frame that is skipped
IsSkipped : List ℕ → Type 0
IsSkipped text = (place : ℕ) (rest : List ℕ) → (v : ℕ × At)
    × (list_at (standing place (text ++ rest)) ≡ Ok (v, standing (place + length text) rest))

rows-chain : (old_fields fields : List FieldRow) (old_columns columns : List ColumnRow) (a b c d : List ℕ)
    → ReadsAs (fields_at old_fields) a fields → ReadsAs (columns_at (length fields) old_columns) b columns → IsSkipped c → IsSkipped d
    → ReadsAs (rows_at old_fields old_columns) (a ++ (b ++ (c ++ d))) (fields, columns)
unfolding rows_at IsSkipped
rows-chain old_fields fields old_columns columns a b c d f g h k place rest =
    let grouped : (a ++ (b ++ (c ++ d))) ++ rest ≡ a ++ (b ++ (c ++ (d ++ rest))) = simp append_assoc in
    let fields_are = f place (b ++ (c ++ (d ++ rest))) in
    let columns_are = g (place + length a) (c ++ (d ++ rest)) in
    let aliases = h (place + length a + length b) (d ++ rest) in
    let types = k (place + length a + length b + length c) rest in
    let end : place + length a + length b + length c + length d ≡ place + length (a ++ (b ++ (c ++ d))) =
    omega (arith, length-append a (b ++ (c ++ d)), length-append b (c ++ d), length-append c d) in
    ap (λ (l : List ℕ). rows_at old_fields old_columns (standing place l)) grouped
    ∙ (rw (fields_are, columns_are, aliases.1, types.1) refl ∙ ap (λ (p : ℕ). Ok ((fields, columns), standing p rest)) end)

description-of : (part : Part) (t : Table) (fields : List FieldRow) (columns : List ColumnRow) (text : List ℕ)
    → ReadsAs (rows_at t.fields t.columns) text (fields, columns) → ReadsAs (description_at part t) text (extended part t fields columns)
unfolding description_at
description-of part t fields columns text rows place rest =
    ap (λ (r : Result ((List FieldRow × List ColumnRow) × At) ReadError). r >>= λ p. Ok (extended part t p.0.0 p.0.1, p.1))
    (rows place rest)

empty-skipped : IsSkipped (list_frame 0 [])
unfolding IsSkipped
empty-skipped place rest = ((0, standing (place + 12) []), list-read 0 place [] rest (omega arith) (omega arith))

pub description-reads : (part : Part) (t : Table) (fields : List FieldRow) (columns : List ColumnRow) (place : ℕ) (rest : List ℕ)
    → AreFieldRows (length t.fields) fields → AllByRecursion (IsColumnRow (length (t.fields ++ fields))) columns
    → length fields < 2 ^ 32 → length columns < 2 ^ 32 → length (description fields columns) < 2 ^ 63
    → description_at part t (standing place (description fields columns ++ rest))
    ≡ Ok (extended part t (t.fields ++ fields) (t.columns ++ columns), standing (place + length (description fields columns)) rest)
description-reads part t fields columns place rest are of few_fields few_columns fits =
    let a = list_frame (length fields) (field_records fields) in
    let b = list_frame (length columns) (column_records columns) in
    let e = list_frame 0 [] in
    let small : 12 + length (field_records fields) < 2 ^ 63 = omega (arith, front-below a (b ++ (e ++ e)) (2 ^ 63) fits) in
    let short : 12 + length (column_records columns) < 2 ^ 63 =
    omega (arith, front-below b (e ++ e) (2 ^ 63) (back-below a (b ++ (e ++ e)) (2 ^ 63) fits)) in
    description-of part t (t.fields ++ fields) (t.columns ++ columns) (a ++ (b ++ (e ++ e)))
    (rows-chain t.fields (t.fields ++ fields) t.columns (t.columns ++ columns) a b e e
    (field-list-reads t.fields fields are few_fields small)
    (column-list-reads (length (t.fields ++ fields)) t.columns columns of few_columns short) (empty-skipped) (empty-skipped)) place rest
