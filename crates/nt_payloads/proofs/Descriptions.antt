-- A description is read as the rows that stand in it.
use Rattle.std.proofs.Common.{◌≡◌, ℕ, ◌+◌, ◌^◌, ◌<◌, List, [], ◌++◌, length, refl, sym, ap, subst, ◌∙◌}
use Rattle.std.specs.List.{AllByRecursion}
use Rattle.std.proofs.lemmas.List.{append-nil}
use Rattle.nt_num.specs.Place.{At}
use Rattle.nt_format.specs.Reading.{placed, standing, IsBytes}
use Rattle.nt_format.specs.Frames.{list_frame, list_at, IsList}
use Rattle.nt_format.specs.Relations.{Agrees, Stands}
use Rattle.nt_format.proofs.Relations.{in_words}
use Rattle.nt_grammar.specs.declared.rows.FieldRow.{FieldRow}
use Rattle.nt_grammar.specs.declared.rows.ColumnRow.{ColumnRow}
use Rattle.nt_grammar.specs.declared.part.Part.{Part}
use Rattle.nt_grammar.specs.Table.{Table}
use Rattle.nt_grammar.specs.Reading.{rows_at, extended, description_at}
use Rattle.nt_grammar.specs.ReadingBack.{IsColumnRow}
use Rattle.nt_payloads.specs.Descriptions.{DescriptionText, AreRowsBehind, AddsDescription}
use Rattle.nt_payloads.proofs.Texts.{Both, Done, reword, seq, done}
use Rattle.nt_payloads.proofs.Frames.{list_steps, list_there}
use Rattle.nt_payloads.proofs.Words.{both}
use Rattle.nt_payloads.proofs.RowLists.{ColumnsText, FieldsText, columns_are, fields_are}

-- a list frame that is skipped
record Skipped (place : ℕ) (text : List ℕ) (list : ℕ × At) : Type 0 where
  frame : text ≡ list_frame list.0 list.1.left
  few : list.0 < 2 ^ 32
  size : 12 + length list.1.left < 2 ^ 63
  begins : list.1.place ≡ place + 12

skipped : (here : At) → IsBytes here.left → Agrees (placed (list_at here)) (Stands (Skipped here.place) here)
skipped here bytes = in_words
    (λ l i. record {
      text = list_frame l.0.0 l.0.1.left;
      takes = i.frame;
      is = record { frame = refl; few = i.items; size = i.size; begins = i.place };
    })
    (λ l s. subst (λ (k : ℕ). IsList here l.0.0 (standing k l.0.1.left) l.1) (sym s.is.begins)
    (list_there here l.1 l.0.0 l.0.1.left s.text bytes s.takes s.is.frame s.is.few s.is.size))
    (list_steps here bytes)

abbrev RowsSteps : List FieldRow → List ColumnRow → ℕ → List ℕ → List FieldRow × List ColumnRow → Type 0
RowsSteps old_fields old_columns =
    Both (FieldsText old_fields) λ fields. Both
    (ColumnsText (length fields) old_columns) λ columns. Both Skipped λ aliases. Both Skipped λ types. Done (fields, columns)

rows_steps : (old_fields : List FieldRow) (old_columns : List ColumnRow) (here : At) → IsBytes here.left
    → Agrees (rows_at old_fields old_columns here) (Stands (RowsSteps old_fields old_columns here.place) here)
unfolding rows_at
rows_steps old_fields old_columns here bytes =
    seq _ bytes (fields_are old_fields here bytes) λ fields m fm. seq _ fm (columns_are (length fields) old_columns m fm) λ columns n fn.
    seq _ fn (skipped n fn) λ aliases o fo. seq _ fo (skipped o fo) λ types q fq. done (fields, columns) fq

-- rows stand here behind those
record RowsAre (old_fields : List FieldRow) (old_columns : List ColumnRow) (place : ℕ) (text : List ℕ)
    (read : List FieldRow × List ColumnRow) : Type 0 where
  rows : List FieldRow × List ColumnRow
  is : DescriptionText place text rows
  behind : AreRowsBehind old_fields rows
  all : read ≡ (old_fields ++ rows.0, old_columns ++ rows.1)

rows_are : (old_fields : List FieldRow) (old_columns : List ColumnRow) (here : At) → IsBytes here.left
    → Agrees (rows_at old_fields old_columns here) (Stands (RowsAre old_fields old_columns here.place) here)
rows_are old_fields old_columns here bytes = reword to from (rows_steps old_fields old_columns here bytes)
  where
    to : (text : List ℕ) (read : List FieldRow × List ColumnRow) → RowsSteps old_fields old_columns here.place text read
        → RowsAre old_fields old_columns here.place text read
    to text read t =
        let f = t.is_first in
        let u = t.is_second in
        let c = u.is_first in
        let v = u.is_second in
        let w = v.is_second in
        let all : read ≡ (old_fields ++ f.is.more, old_columns ++ c.is.more) =
        w.is_second.is ∙ ap (λ (x : List FieldRow). (x, u.head)) f.is.is
        ∙ ap (λ (x : List ColumnRow). (old_fields ++ f.is.more, x)) c.is.is in
        record {
          rows = (f.is.more, c.is.more);
          is = record {
            fields = t.first;
            columns = u.first;
            aliases = v.first;
            types = w.first;
            parts = t.parts ∙ ap (λ (x : List ℕ). t.first ++ x)
                (u.parts ∙ ap (λ (x : List ℕ). u.first ++ x) (v.parts ∙ ap (λ (x : List ℕ). v.first ++ x)
                (w.parts ∙ ap (λ (x : List ℕ). w.first ++ x) w.is_second.none ∙ append-nil w.first)));
            are_fields = record {
              count = f.count;
              known = f.known;
              more = f.more;
              frame = f.frame;
              few = f.few;
              size = f.size;
              is = record { len = f.is.len; series = f.is.such.0 };
            };
            are_columns = record {
              count = c.count;
              known = c.known;
              more = c.more;
              frame = c.frame;
              few = c.few;
              size = c.size;
              is = record { len = c.is.len; series = c.is.such.0 };
            };
            are_aliases = record {
              count = v.head.0;
              inside = v.head.1.left;
              frame = v.is_first.frame;
              few = v.is_first.few;
              size = v.is_first.size;
            };
            are_types = record {
              count = w.head.0;
              inside = w.head.1.left;
              frame = w.is_first.frame;
              few = w.is_first.few;
              size = w.is_first.size;
            };
          };
          behind = record {
            ids = f.is.such.1;
            owners = subst (λ (x : List FieldRow). AllByRecursion (IsColumnRow (length x)) c.is.more) f.is.is c.is.such.1;
          };
          all = all;
        }

    from : (text : List ℕ) (read : List FieldRow × List ColumnRow) → RowsAre old_fields old_columns here.place text read
        → RowsSteps old_fields old_columns here.place text read
    from text read t =
        let d = t.is in
        let f = d.are_fields in
        let c = d.are_columns in
        let a = d.are_aliases in
        let y = d.are_types in
        let n = here.place + length d.fields + length d.columns in
        let whole : RowsSteps old_fields old_columns here.place (d.fields ++ (d.columns ++ (d.aliases ++ (d.types ++ [])))) read =
        both (old_fields ++ t.rows.0) d.fields (d.columns ++ (d.aliases ++ (d.types ++ [])))
        (record {
          count = f.count;
          known = f.known;
          more = f.more;
          frame = f.frame;
          few = f.few;
          size = f.size;
          is = record { more = t.rows.0; is = refl; len = f.is.len; such = (f.is.series, t.behind.ids) };
        })
        (both (old_columns ++ t.rows.1) d.columns (d.aliases ++ (d.types ++ []))
        (record {
          count = c.count;
          known = c.known;
          more = c.more;
          frame = c.frame;
          few = c.few;
          size = c.size;
          is = record { more = t.rows.1; is = refl; len = c.is.len; such = (c.is.series, t.behind.owners) };
        })
        (both (a.count, standing (n + 12) a.inside) d.aliases (d.types ++ [])
        (record { frame = a.frame; few = a.few; size = a.size; begins = refl })
        (both (y.count, standing (n + length d.aliases + 12) y.inside) d.types []
        (record { frame = y.frame; few = y.few; size = y.size; begins = refl })
        (record { none = refl; is = t.all })))) in
        subst (λ (x : List ℕ). RowsSteps old_fields old_columns here.place x read)
        (sym (d.parts ∙ ap (λ (x : List ℕ). d.fields ++ (d.columns ++ (d.aliases ++ x))) (sym (append-nil d.types)))) whole

abbrev DescriptionSteps : Part → Table → ℕ → List ℕ → Table → Type 0
DescriptionSteps part t = Both (RowsAre t.fields t.columns) λ rows. Done (extended part t rows.0 rows.1)

description_steps : (part : Part) (t : Table) (here : At) → IsBytes here.left
    → Agrees (description_at part t here) (Stands (DescriptionSteps part t here.place) here)
unfolding description_at
description_steps part t here bytes =
    seq _ bytes (rows_are t.fields t.columns here bytes) λ rows m fm. done (extended part t rows.0 rows.1) fm

pub described : (part : Part) (t : Table) (here : At) → IsBytes here.left
    → Agrees (description_at part t here) (Stands (AddsDescription part t here.place) here)
described part t here bytes = reword
    (λ text read s.
    let r = s.is_first in
    let alone : text ≡ s.first = s.parts ∙ ap (λ (x : List ℕ). s.first ++ x) s.is_second.none ∙ append-nil s.first in
    record {
      rows = r.rows;
      is = subst (λ (x : List ℕ). DescriptionText here.place x r.rows) (sym alone) r.is;
      behind = r.behind;
      table = s.is_second.is ∙ ap (λ (x : List FieldRow × List ColumnRow). extended part t x.0 x.1) r.all;
    })
    (λ text read a. record {
      head = (t.fields ++ a.rows.0, t.columns ++ a.rows.1);
      first = text;
      second = [];
      parts = sym (append-nil text);
      is_first = record { rows = a.rows; is = a.is; behind = a.behind; all = refl };
      is_second = record { none = refl; is = a.table };
    })
    (description_steps part t here bytes)
