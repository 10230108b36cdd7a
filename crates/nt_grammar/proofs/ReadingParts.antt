-- What is written of a part of a table is read back behind the rows before it.
use Rattle.std.proofs.Common.{◌≡◌, ℕ, zero, suc, ◌+◌, ◌<◌, ◌^◌, List, [], ◌∷◌, ◌++◌, length, take, drop, Ok, sym, ap, subst, ◌∙◌, arith}
use Rattle.std.specs.List.{AllByRecursion}
use Rattle.std.proofs.lemmas.List.{length-take, length-drop, length-take-le, take-append-drop}
use Rattle.nt_format.specs.Reading.{standing}
use Rattle.nt_grammar.specs.declared.rows.FieldRow.{FieldRow}
use Rattle.nt_grammar.specs.declared.rows.ColumnRow.{ColumnRow}
use Rattle.nt_grammar.specs.declared.part.Part.{Part}
use Rattle.nt_grammar.specs.declared.part.Part.TheVariants.{Header, Extension}
use Rattle.nt_grammar.specs.Table.{Table, table_of, no_rows}
use Rattle.nt_grammar.specs.Writing.{description, part_fields, part_columns}
use Rattle.nt_grammar.specs.Reading.{description_at}
use Rattle.nt_grammar.specs.ReadingBack.{AreFieldRows, IsColumnRow, IsDescribed, header_of, before, up_to}
use Rattle.nt_grammar.proofs.ReadingBack.{description-reads}

AreFieldRows-take : (n id : ℕ) (rs : List FieldRow) → AreFieldRows id rs → AreFieldRows id (take n rs)
AreFieldRows-take zero id rs are = tt
AreFieldRows-take (suc n) id [] are = tt
AreFieldRows-take (suc n) id (r ∷ rs) are = (are.0, AreFieldRows-take n (suc id) rs are.1)

AreFieldRows-drop : (n id : ℕ) (rs : List FieldRow) → AreFieldRows id rs → AreFieldRows (id + n) (drop n rs)
AreFieldRows-drop zero id rs are =
    let same : id ≡ id + 0 = omega arith in
    subst (λ (k : ℕ). AreFieldRows k rs) same are
AreFieldRows-drop (suc n) id [] are = tt
AreFieldRows-drop (suc n) id (r ∷ rs) are =
    let same : suc id + n ≡ id + suc n = omega arith in
    subst (λ (k : ℕ). AreFieldRows k (drop n rs)) same (AreFieldRows-drop n (suc id) rs are.1)

few : {X : Type 0} (xs : List X) (n : ℕ) → length xs < 2 ^ 32 → (length (take n xs) < 2 ^ 32) × (length (drop n xs) < 2 ^ 32)
few xs n h = (omega (arith, length-take n xs), omega (arith, length-drop n xs))

pub part-reads : (part : Part) (t : Table) (place : ℕ) (rest : List ℕ) → IsDescribed t → length t.fields < 2 ^ 32
    → length t.columns < 2 ^ 32
    → length (description (part_fields part t) (part_columns part t)) < 2 ^ 63
    → description_at part (before part t) (standing place (description (part_fields part t) (part_columns part t) ++ rest))
    ≡ Ok (up_to part t, standing (place + length (description (part_fields part t) (part_columns part t))) rest)
part-reads Header t place rest is few_fields few_columns fits =
    let count : length (take t.header_fields t.fields) ≡ t.header_fields = length-take-le t.header_fields t.fields is.header_fields in
    let columns : length (take t.header_columns t.columns) ≡ t.header_columns =
    length-take-le t.header_columns t.columns is.header_columns in
    let of = subst (λ (n : ℕ). AllByRecursion (IsColumnRow n) (take t.header_columns t.columns)) (sym count) is.header in
    let read = description-reads Header no_rows (take t.header_fields t.fields) (take t.header_columns t.columns) place rest
    (AreFieldRows-take t.header_fields 0 t.fields is.fields) of (few t.fields t.header_fields few_fields).0
    (few t.columns t.header_columns few_columns).0 fits in
    let end = standing (place + length (description (take t.header_fields t.fields) (take t.header_columns t.columns))) rest in
    read
    ∙ (ap (λ (n : ℕ). Ok (
      table_of (take t.header_fields t.fields) (take t.header_columns t.columns) n
          (length (take t.header_columns t.columns)),
      end,
    )) count
    ∙ ap (λ (n : ℕ). Ok (table_of (take t.header_fields t.fields) (take t.header_columns t.columns) t.header_fields n, end)) columns)
part-reads Extension t place rest is few_fields few_columns fits =
    let count : length (take t.header_fields t.fields) ≡ t.header_fields = length-take-le t.header_fields t.fields is.header_fields in
    let fields : take t.header_fields t.fields ++ drop t.header_fields t.fields ≡ t.fields = take-append-drop t.header_fields t.fields in
    let columns : take t.header_columns t.columns ++ drop t.header_columns t.columns ≡ t.columns =
    take-append-drop t.header_columns t.columns in
    let none : 0 + t.header_fields ≡ t.header_fields = omega arith in
    let ids = subst (λ (k : ℕ). AreFieldRows k (drop t.header_fields t.fields)) none
    (AreFieldRows-drop t.header_fields 0 t.fields is.fields) in
    let are = subst (λ (k : ℕ). AreFieldRows k (drop t.header_fields t.fields)) (sym count) ids in
    let of = subst (λ (l : List FieldRow). AllByRecursion (IsColumnRow (length l)) (drop t.header_columns t.columns))
    (sym fields) is.extension in
    let read = description-reads Extension (header_of t) (drop t.header_fields t.fields) (drop t.header_columns t.columns) place rest are of
    (few t.fields t.header_fields few_fields).1 (few t.columns t.header_columns few_columns).1 fits in
    let end = standing (place + length (description (drop t.header_fields t.fields) (drop t.header_columns t.columns))) rest in
    read
    ∙ (ap (λ (l : List FieldRow). Ok
    (table_of l (take t.header_columns t.columns ++ drop t.header_columns t.columns) t.header_fields t.header_columns, end)) fields
    ∙ ap (λ (l : List ColumnRow). Ok (table_of t.fields l t.header_fields t.header_columns, end)) columns)
