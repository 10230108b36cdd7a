-- The rows of a description are read as what stands in their list frames.
use Rattle.std.proofs.Common.{◌≡◌, ℕ, zero, suc, List, [], ◌∷◌, ◌++◌, length, sym, ap, subst, arith}
use Rattle.std.specs.List.{AllByRecursion}
use Rattle.std.proofs.lemmas.List.{length-append}
use Rattle.nt_num.specs.Place.{At}
use Rattle.nt_format.specs.Reading.{IsBytes}
use Rattle.nt_format.specs.Relations.{Agrees, With, Stands}
use Rattle.nt_grammar.specs.declared.rows.FieldRow.{FieldRow}
use Rattle.nt_grammar.specs.declared.rows.ColumnRow.{ColumnRow}
use Rattle.nt_grammar.specs.Reading.{fields_on, fields_at, columns_on, columns_at}
use Rattle.nt_grammar.specs.ReadingBack.{AreFieldRows, IsColumnRow}
use Rattle.nt_payloads.specs.Framed.{InRecord, InList, Series, no_item, and_item}
use Rattle.nt_payloads.specs.Descriptions.{FieldRowText, ColumnRowText}
use Rattle.nt_payloads.proofs.Texts.{Opens, Ended, reword_open, seq_open}
use Rattle.nt_payloads.proofs.Tests.{map_open}
use Rattle.nt_payloads.proofs.Frames.{in_list}
use Rattle.nt_payloads.proofs.Loops.{Behind, loop_end_open, loop_more_open, series_parts, series_none}
use Rattle.nt_payloads.proofs.FieldRows.{FieldFrame, field_is}
use Rattle.nt_payloads.proofs.ColumnRows.{ColumnFrame, column_is}

-- fields from this id on stand here
abbrev FieldsAre : ℕ → ℕ → List ℕ → List FieldRow → Type 0
FieldsAre id place text rs = Series (InRecord FieldRowText) place text rs × AreFieldRows id rs

one_more : (rows : List FieldRow) (r : FieldRow) → length (rows ++ r ∷ []) ≡ suc (length rows)
one_more rows r = omega (arith, length-append rows (r ∷ []))

fields_on_are : (n : ℕ) (rows : List FieldRow) (here : At) → IsBytes here.left
    → Agrees (fields_on n rows here) (Opens (Behind n rows (FieldsAre (length rows))) here)
fields_on_are zero rows here bytes = loop_end_open rows bytes (no_item, tt) (λ text s. series_none here.place text s.0)
fields_on_are (suc n) rows here bytes =
    loop_more_open
    {Item = FieldFrame (length rows)}
    {Others = λ r. FieldsAre (length (rows ++ r ∷ []))}
    {Such = FieldsAre (length rows)}
    n rows
    (λ first others r rs f o. (and_item f.is o.0, (f.row, subst (λ (id : ℕ). AreFieldRows id rs) (one_more rows r) o.1)))
    (λ text r rs s.
    let p = series_parts here.place text r rs s.0 in
    record {
      first = p.first;
      others = p.others;
      parts = p.parts;
      is_first = record { is = p.is_first; row = s.1.0 };
      are_others = (p.are_others, subst (λ (id : ℕ). AreFieldRows id rs) (sym (one_more rows r)) s.1.1);
    })
    (seq_open _ bytes (field_is (length rows) here bytes) λ r m fm. fields_on_are n (rows ++ r ∷ []) m fm)

-- columns of so many fields stand here
abbrev ColumnsAre : ℕ → ℕ → List ℕ → List ColumnRow → Type 0
ColumnsAre fields place text cs = Series (InRecord ColumnRowText) place text cs × AllByRecursion (IsColumnRow fields) cs

columns_on_are : (fields n : ℕ) (rows : List ColumnRow) (here : At) → IsBytes here.left
    → Agrees (columns_on fields n rows here) (Opens (Behind n rows (ColumnsAre fields)) here)
columns_on_are fields zero rows here bytes = loop_end_open rows bytes (no_item, tt) (λ text s. series_none here.place text s.0)
columns_on_are fields (suc n) rows here bytes =
    loop_more_open
    {Item = ColumnFrame fields}
    {Others = λ c. ColumnsAre fields}
    {Such = ColumnsAre fields}
    n rows
    (λ first others c cs f o. (and_item f.is o.0, (f.row, o.1)))
    (λ text c cs s.
    let p = series_parts here.place text c cs s.0 in
    record {
      first = p.first;
      others = p.others;
      parts = p.parts;
      is_first = record { is = p.is_first; row = s.1.0 };
      are_others = (p.are_others, s.1.1);
    })
    (seq_open _ bytes (column_is fields here bytes) λ c m fm. columns_on_are fields n (rows ++ c ∷ []) m fm)

-- the value, and the reading goes on behind the frame
ended_so : {V : Type 0} (Text : ℕ → List ℕ → V → Type 0) (after : At) (place : ℕ) (text : List ℕ) (read : V × At)
    → With (Text place text) (λ (x : V) (y : V × At). y ≡ (x, after)) read → Ended Text after place text read
ended_so {V = V} Text after place text read w =
    (subst (λ (v : V). Text place text v) (sym (ap (λ (p : V × At). p.0) w.second)) w.first, ap (λ (p : V × At). p.1) w.second)

ended_from : {V : Type 0} (Text : ℕ → List ℕ → V → Type 0) (after : At) (place : ℕ) (text : List ℕ) (read : V × At)
    → Ended Text after place text read → With (Text place text) (λ (x : V) (y : V × At). y ≡ (x, after)) read
ended_from {V = V} Text after place text read e = record { middle = read.0; first = e.0; second = ap (λ (a : At). (read.0, a)) e.1 }

abbrev pub FieldsText : List FieldRow → ℕ → List ℕ → List FieldRow → Type 0
FieldsText rows = InList (λ count. Behind count rows (FieldsAre (length rows)))

pub fields_are : (rows : List FieldRow) (here : At) → IsBytes here.left
    → Agrees (fields_at rows here) (Stands (FieldsText rows here.place) here)
unfolding fields_at
fields_are rows here bytes = in_list _ bytes λ count inside after fi. reword_open
    (λ text read w. ended_so (Behind count rows (FieldsAre (length rows))) after inside.place text read w)
    (λ text read e. ended_from (Behind count rows (FieldsAre (length rows))) after inside.place text read e)
    (map_open (λ fields. (fields, after)) (fields_on_are count rows inside fi))

abbrev pub ColumnsText : ℕ → List ColumnRow → ℕ → List ℕ → List ColumnRow → Type 0
ColumnsText fields rows = InList (λ count. Behind count rows (ColumnsAre fields))

pub columns_are : (fields : ℕ) (rows : List ColumnRow) (here : At) → IsBytes here.left
    → Agrees (columns_at fields rows here) (Stands (ColumnsText fields rows here.place) here)
unfolding columns_at
columns_are fields rows here bytes = in_list _ bytes λ count inside after fi. reword_open
    (λ text read w. ended_so (Behind count rows (ColumnsAre fields)) after inside.place text read w)
    (λ text read e. ended_from (Behind count rows (ColumnsAre fields)) after inside.place text read e)
    (map_open (λ columns. (columns, after)) (columns_on_are fields count rows inside fi))
