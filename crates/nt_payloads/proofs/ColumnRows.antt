-- The columns of a description are read as what stands there.
use Rattle.std.proofs.Common.{◌≡◌, ℕ, ◌^◌, ◌<◌, Bool, true, false, true≢false, cond, ltb, List, [], ◌++◌, Ok, refl, sym, ap, subst, ◌∙◌}
use Rattle.std.proofs.Common.{append_assoc, arith}
use Rattle.std.specs.Int.{w16, w32, w64, to_le_bytes}
use Rattle.std.proofs.lemmas.Bool.{ltb-true, lt-ltb}
use Rattle.std.proofs.lemmas.List.{append-nil}
use Rattle.nt_num.specs.Place.{At}
use Rattle.nt_num.specs.Cursor.{little}
use Rattle.nt_format.specs.Reading.{placed, IsBytes}
use Rattle.nt_format.specs.Relations.{Agrees, Stands}
use Rattle.nt_grammar.specs.declared.rows.ColumnRow.{ColumnRow}
use Rattle.nt_grammar.specs.Writing.{is_deferred, first_element}
use Rattle.nt_grammar.specs.Reading.{owner_at, first_at, column_at}
use Rattle.nt_grammar.specs.ReadingBack.{IsColumnRow}
use Rattle.nt_payloads.specs.Framed.{InRecord}
use Rattle.nt_payloads.specs.Descriptions.{ColumnRowText}
use Rattle.nt_payloads.proofs.Texts.{Both, Done, Ended, reword, reword_open, seq_open, done, done_open}
use Rattle.nt_payloads.proofs.Tests.{tested, Word32, word32, word64}
use Rattle.nt_payloads.proofs.Frames.{in_record}
use Rattle.nt_payloads.proofs.Words.{Word16, word16, both, two}

-- the first element of a column with these flags
record FirstIs (flags place : ℕ) (text : List ℕ) (n : ℕ) : Type 0 where
  is : text ≡ cond (is_deferred flags) (to_le_bytes w64 n) []
  fits : n < 2 ^ 64
  none : is_deferred flags ≡ false → n ≡ 0

first_by : (flags : ℕ) (deferred : Bool) (here : At) → IsBytes here.left → is_deferred flags ≡ deferred
    → Agrees (cond deferred (placed (little w64 here)) (Ok (0, here))) (Stands (FirstIs flags here.place) here)
first_by flags true here bytes e = reword
    (λ text n t. record {
      is = t.is
          ∙ ap (λ (b : Bool). cond b (to_le_bytes w64 n) []) (sym e);
      fits = t.fits;
      none = λ f. absurd (true≢false (sym e ∙ f));
    })
    (λ text n t. record { is = t.is ∙ ap (λ (b : Bool). cond b (to_le_bytes w64 n) []) e; fits = t.fits })
    (word64 here bytes)
first_by flags false here bytes e = reword
    (λ text n t. record {
      is = t.none
          ∙ ap (λ (b : Bool). cond b (to_le_bytes w64 n) []) (sym e);
      fits = omega (arith, t.is);
      none = λ f. t.is;
    })
    (λ text n t. record { none = t.is ∙ ap (λ (b : Bool). cond b (to_le_bytes w64 n) []) e; is = t.none e })
    (done 0 bytes)

first_is : (flags : ℕ) (here : At) → IsBytes here.left → Agrees (first_at flags here) (Stands (FirstIs flags here.place) here)
unfolding first_at
first_is flags here bytes = first_by flags (is_deferred flags) here bytes refl

abbrev OwnerWord : ℕ → ℕ → List ℕ → ℕ → Type 0
OwnerWord fields place text n = Word32 place text n × (ltb n fields ≡ true)

abbrev column_made : ℕ → ℕ → ℕ → ℕ → ℕ → ℕ → ColumnRow
column_made code bits field flags representation first =
    record { code = code; bits = bits; field = field; flags = flags; representation = representation; first = first }

abbrev ColumnSteps : ℕ → At → ℕ → List ℕ → ColumnRow × At → Type 0
ColumnSteps fields after =
    Both Word16 λ code. Both Word16 λ bits. Both (OwnerWord fields) λ field. Both Word16 λ flags. Both Word16 λ representation. Both
    (FirstIs flags) λ first.
    Done (column_made code bits field flags representation first, after)

-- what stands in the frame of a column of one of so many fields
record ColumnIs (fields place : ℕ) (text : List ℕ) (c : ColumnRow) : Type 0 where
  is : ColumnRowText place text c
  row : IsColumnRow fields c

flat6 : (a b c d e f : List ℕ) → a ++ (b ++ (c ++ (d ++ (e ++ (f ++ []))))) ≡ (a ++ (b ++ (c ++ (d ++ e)))) ++ f
flat6 a b c d e f = simp (append_assoc, append-nil)

column_steps : (fields : ℕ) (here : At) → IsBytes here.left
    → Agrees (column_at fields here) (Stands (InRecord (ColumnIs fields) here.place) here)
unfolding column_at owner_at
column_steps fields here bytes = in_record _ bytes λ inside after fi. reword_open (to inside after) (from inside after)
    (seq_open _ fi (word16 inside fi) λ code m fm. seq_open _ fm (word16 m fm) λ bits n fn. seq_open _ fn
    (tested (λ k. ltb k fields) _ (word32 n fn)) λ field o fo.
    seq_open _ fo (word16 o fo) λ flags q fq. seq_open _ fq (word16 q fq) λ representation r fr. seq_open _ fr
    (first_is flags r fr) λ first s fs.
    done_open (column_made code bits field flags representation first, after) fs)
  where
    to : (inside after : At) (text : List ℕ) (read : ColumnRow × At) → ColumnSteps fields after inside.place text read
        → Ended (ColumnIs fields) after inside.place text read
    to inside after text read t =
        let u = t.is_second in
        let v = u.is_second in
        let w = v.is_second in
        let x = w.is_second in
        let y = x.is_second in
        let whole = two _ _ _ _ _ t.parts t.is_first.is (two _ _ _ _ _ u.parts u.is_first.is (two _ _ _ _ _ v.parts v.is_first.0.is
        (two _ _ _ _ _ w.parts w.is_first.is
        (two _ _ _ _ _ x.parts x.is_first.is (two _ _ _ _ _ y.parts y.is_first.is y.is_second.none))))) in
        let c = column_made t.head u.head v.head w.head x.head y.head in
        let made : ColumnIs fields inside.place text c = record {
          is = record {
            parts = whole ∙ flat6 (to_le_bytes w16 t.head) (to_le_bytes w16 u.head) (to_le_bytes w32 v.head) (to_le_bytes w16 w.head)
                (to_le_bytes w16 x.head) (first_element c);
          };
          row = record {
            code = t.is_first.fits;
            bits = u.is_first.fits;
            field = ltb-true _ _ v.is_first.1;
            word = v.is_first.0.fits;
            flags = w.is_first.fits;
            representation = x.is_first.fits;
            first = y.is_first.fits;
            none = y.is_first.none;
          };
        } in (
          subst (λ (r : ColumnRow). ColumnIs fields inside.place text r) (sym (ap (λ (q : ColumnRow × At). q.0) y.is_second.is)) made,
          ap (λ (q : ColumnRow × At). q.1) y.is_second.is,
        )

    from : (inside after : At) (text : List ℕ) (read : ColumnRow × At) → Ended (ColumnIs fields) after inside.place text read
        → ColumnSteps fields after inside.place text read
    from inside after text read t =
        let r = read.0 in
        let row = t.0.row in
        let a = to_le_bytes w16 r.code in
        let b = to_le_bytes w16 r.bits in
        let c = to_le_bytes w32 r.field in
        let d = to_le_bytes w16 r.flags in
        let e = to_le_bytes w16 r.representation in
        let f = first_element r in
        let whole : ColumnSteps fields after inside.place (a ++ (b ++ (c ++ (d ++ (e ++ (f ++ [])))))) read =
        both r.code a (b ++ (c ++ (d ++ (e ++ (f ++ []))))) (record { is = refl; fits = row.code })
        (both r.bits b (c ++ (d ++ (e ++ (f ++ [])))) (record { is = refl; fits = row.bits })
        (both r.field c (d ++ (e ++ (f ++ []))) (record { is = refl; fits = row.word }, lt-ltb _ _ row.field)
        (both r.flags d (e ++ (f ++ [])) (record { is = refl; fits = row.flags })
        (both r.representation e (f ++ []) (record { is = refl; fits = row.representation })
        (both r.first f [] (record { is = refl; fits = row.first; none = row.none })
        (record { none = refl; is = ap (λ (x : At). (r, x)) t.1 })))))) in
        subst (λ (x : List ℕ). ColumnSteps fields after inside.place x read) (sym (t.0.is.parts ∙ sym (flat6 a b c d e f))) whole

-- the record frame of a column of one of so many fields
pub record ColumnFrame (fields place : ℕ) (text : List ℕ) (c : ColumnRow) : Type 0 where
  pub is : InRecord ColumnRowText place text c
  pub row : IsColumnRow fields c

pub column_is : (fields : ℕ) (here : At) → IsBytes here.left → Agrees (column_at fields here) (Stands (ColumnFrame fields here.place) here)
column_is fields here bytes = reword
    (λ text c t. record { is = record { known = t.known; more = t.more; frame = t.frame; size = t.size; is = t.is.is }; row = t.is.row })
    (λ text c t. record {
      known = t.is.known;
      more = t.is.more;
      frame = t.is.frame;
      size = t.is.size;
      is = record { is = t.is.is; row = t.row };
    })
    (column_steps fields here bytes)
