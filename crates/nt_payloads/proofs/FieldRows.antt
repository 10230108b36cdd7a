-- The fields of a description are read as what stands there.
use Rattle.std.proofs.Common.{◌≡◌, ℕ, true, leb, List, [], ◌++◌, refl, sym, ap, subst, ◌∙◌, append_assoc}
use Rattle.std.specs.Int.{w16, w32, to_le_bytes}
use Rattle.std.proofs.lemmas.Bool.{leb-true, le-leb}
use Rattle.std.proofs.lemmas.List.{append-nil}
use Rattle.nt_num.specs.Place.{At}
use Rattle.nt_format.specs.Reading.{IsBytes}
use Rattle.nt_format.specs.Strings.{string}
use Rattle.nt_format.specs.Relations.{Agrees, Stands}
use Rattle.nt_grammar.specs.declared.rows.FieldRow.{FieldRow}
use Rattle.nt_grammar.specs.Reading.{parent_at, names_at, field_at}
use Rattle.nt_grammar.specs.ReadingBack.{IsFieldRow}
use Rattle.nt_payloads.specs.Framed.{InRecord}
use Rattle.nt_payloads.specs.Descriptions.{FieldRowText}
use Rattle.nt_payloads.proofs.Texts.{Both, Done, Ended, reword, reword_open, seq, seq_open, done, done_open}
use Rattle.nt_payloads.proofs.Tests.{tested, Word32, word32}
use Rattle.nt_payloads.proofs.Frames.{in_record}
use Rattle.nt_payloads.proofs.Words.{Word16, word16, Str, str, both, two}

abbrev ParentWord : ℕ → ℕ → List ℕ → ℕ → Type 0
ParentWord id place text n = Word32 place text n × (leb n id ≡ true)

abbrev ParentSteps : ℕ → ℕ → List ℕ → ℕ → Type 0
ParentSteps id = Both Word32 λ version. Both Word32 λ type_version. ParentWord id

parent_steps : (id frame : ℕ) (here : At) → IsBytes here.left → Agrees (parent_at id frame here) (Stands (ParentSteps id here.place) here)
unfolding parent_at
parent_steps id frame here bytes =
    seq _ bytes (word32 here bytes) λ version m fm. seq _ fm (word32 m fm) λ type_version n fn. tested (λ k. leb k id) _ (word32 n fn)

abbrev NamesSteps : ℕ → List ℕ → List ℕ × List ℕ → Type 0
NamesSteps = Both Str λ name. Both Str λ type_name. Both Str λ alias. Both Str λ about. Done (name, type_name)

names_steps : (here : At) → IsBytes here.left → Agrees (names_at here) (Stands (NamesSteps here.place) here)
unfolding names_at
names_steps here bytes =
    seq _ bytes (str here bytes) λ name m fm. seq _ fm (str m fm) λ type_name n fn. seq _ fn (str n fn) λ alias o fo.
    seq _ fo (str o fo) λ about q fq. done (name, type_name) fq

abbrev field_made : ℕ → ℕ → ℕ → List ℕ × List ℕ → FieldRow
field_made parent role flags names = record { parent = parent; role = role; flags = flags; name = names.0; type_name = names.1 }

abbrev FieldSteps : ℕ → At → ℕ → List ℕ → FieldRow × At → Type 0
FieldSteps id after =
    Both (ParentSteps id) λ parent. Both Word16 λ role. Both Word16 λ flags. Both NamesSteps λ names. Done
    (field_made parent role flags names, after)

-- what stands in the frame of the field with this id
record FieldIs (id place : ℕ) (text : List ℕ) (r : FieldRow) : Type 0 where
  is : FieldRowText place text r
  row : IsFieldRow id r

flat : (a b c d e f g h i : List ℕ)
    → (a ++ (b ++ c)) ++ (d ++ (e ++ ((f ++ (g ++ (h ++ (i ++ [])))) ++ []))) ≡ a ++ (b ++ (c ++ (d ++ (e ++ (f ++ (g ++ (h ++ i)))))))
flat a b c d e f g h i = simp (append_assoc, append-nil)

field_steps : (id : ℕ) (here : At) → IsBytes here.left → Agrees (field_at id here) (Stands (InRecord (FieldIs id) here.place) here)
unfolding field_at
field_steps id here bytes = in_record _ bytes λ inside after fi. reword_open (to inside after) (from inside after)
    (seq_open _ fi (parent_steps id here.place inside fi) λ parent m fm. seq_open _ fm (word16 m fm) λ role n fn. seq_open _ fn
    (word16 n fn) λ flags o fo.
    seq_open _ fo (names_steps o fo) λ names q fq. done_open (field_made parent role flags names, after) fq)
  where
    to : (inside after : At) (text : List ℕ) (read : FieldRow × At) → FieldSteps id after inside.place text read
        → Ended (FieldIs id) after inside.place text read
    to inside after text read t =
        let p = t.is_first in
        let u = t.is_second in
        let v = u.is_second in
        let w = v.is_second in
        let n = w.is_first in
        let n2 = n.is_second in
        let n3 = n2.is_second in
        let n4 = n3.is_second in
        let names : w.first ≡ string n.head ++ (string n2.head ++ (string n3.head ++ (string n4.head ++ []))) =
        two _ _ _ _ _ n.parts n.is_first.is
        (two _ _ _ _ _ n2.parts n2.is_first.is
        (two _ _ _ _ _ n3.parts n3.is_first.is (two _ _ _ _ _ n4.parts n4.is_first.is n4.is_second.none))) in
        let parent : t.first ≡ to_le_bytes w32 p.head ++ (to_le_bytes w32 p.is_second.head ++ to_le_bytes w32 t.head) =
        two _ _ _ _ _ p.parts p.is_first.is (two _ _ _ _ _ p.is_second.parts p.is_second.is_first.is p.is_second.is_second.0.is) in
        let whole = two _ _ _ _ _ t.parts parent
        (two _ _ _ _ _ u.parts u.is_first.is (two _ _ _ _ _ v.parts v.is_first.is (two _ _ _ _ _ w.parts names w.is_second.none))) in
        let made : FieldIs id inside.place text (field_made t.head u.head v.head (n.head, n2.head)) = record {
          is = record {
            version = p.head;
            type_version = p.is_second.head;
            alias = n3.head;
            about = n4.head;
            parts = whole ∙ flat (to_le_bytes w32 p.head) (to_le_bytes w32 p.is_second.head) (to_le_bytes w32 t.head)
                (to_le_bytes w16 u.head) (to_le_bytes w16 v.head) (string n.head) (string n2.head) (string n3.head) (string n4.head);
            version_fits = p.is_first.fits;
            type_version_fits = p.is_second.is_first.fits;
            alias_fits = n3.is_first.fits;
            about_fits = n4.is_first.fits;
          };
          row = record {
            parent = leb-true _ _ p.is_second.is_second.1;
            word = p.is_second.is_second.0.fits;
            role = u.is_first.fits;
            flags = v.is_first.fits;
            name = n.is_first.fits;
            type_name = n2.is_first.fits;
          };
        } in
        let value : read ≡ (field_made t.head u.head v.head (n.head, n2.head), after) = w.is_second.is
        ∙ ap (λ (x : List ℕ × List ℕ). (field_made t.head u.head v.head x, after)) n4.is_second.is in (
          subst (λ (r : FieldRow). FieldIs id inside.place text r) (sym (ap (λ (q : FieldRow × At). q.0) value)) made,
          ap (λ (q : FieldRow × At). q.1) value,
        )

    from : (inside after : At) (text : List ℕ) (read : FieldRow × At) → Ended (FieldIs id) after inside.place text read
        → FieldSteps id after inside.place text read
    from inside after text read t =
        let r = read.0 in
        let i = t.0.is in
        let row = t.0.row in
        let a = to_le_bytes w32 i.version in
        let b = to_le_bytes w32 i.type_version in
        let c = to_le_bytes w32 r.parent in
        let d = to_le_bytes w16 r.role in
        let e = to_le_bytes w16 r.flags in
        let names = string r.name ++ (string r.type_name ++ (string i.alias ++ (string i.about ++ []))) in
        let parent : ParentSteps id inside.place (a ++ (b ++ c)) r.parent =
        both i.version a (b ++ c) (record { is = refl; fits = i.version_fits })
        (both i.type_version b c (record { is = refl; fits = i.type_version_fits })
        (record { is = refl; fits = row.word }, le-leb _ _ row.parent)) in
        let four : (place : ℕ) → NamesSteps place names (r.name, r.type_name) = λ place.
        both r.name (string r.name) (string r.type_name ++ (string i.alias ++ (string i.about ++ [])))
        (record { is = refl; fits = row.name })
        (both r.type_name (string r.type_name) (string i.alias ++ (string i.about ++ [])) (record { is = refl; fits = row.type_name })
        (both i.alias (string i.alias) (string i.about ++ []) (record { is = refl; fits = i.alias_fits })
        (both i.about (string i.about) [] (record { is = refl; fits = i.about_fits }) (record { none = refl; is = refl })))) in
        let whole : FieldSteps id after inside.place ((a ++ (b ++ c)) ++ (d ++ (e ++ (names ++ [])))) read =
        both r.parent (a ++ (b ++ c)) (d ++ (e ++ (names ++ []))) parent
        (both r.role d (e ++ (names ++ [])) (record { is = refl; fits = row.role })
        (both r.flags e (names ++ []) (record { is = refl; fits = row.flags })
        (both (r.name, r.type_name) names [] (four _) (record { none = refl; is = ap (λ (x : At). (r, x)) t.1 })))) in
        subst (λ (x : List ℕ). FieldSteps id after inside.place x read)
        (sym (i.parts ∙ sym (flat a b c d e (string r.name) (string r.type_name) (string i.alias) (string i.about)))) whole

-- the record frame of the field with this id
pub record FieldFrame (id place : ℕ) (text : List ℕ) (r : FieldRow) : Type 0 where
  pub is : InRecord FieldRowText place text r
  pub row : IsFieldRow id r

pub field_is : (id : ℕ) (here : At) → IsBytes here.left → Agrees (field_at id here) (Stands (FieldFrame id here.place) here)
field_is id here bytes = reword
    (λ text r t. record { is = record { known = t.known; more = t.more; frame = t.frame; size = t.size; is = t.is.is }; row = t.is.row })
    (λ text r t. record {
      known = t.is.known;
      more = t.is.more;
      frame = t.is.frame;
      size = t.is.size;
      is = record { is = t.is.is; row = t.row };
    })
    (field_steps id here bytes)
