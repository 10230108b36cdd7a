-- The payload of a header is read as the rows that it describes.
use Rattle.std.proofs.Common.{◌≡◌, ℕ, ◌+◌, true, eqb, List, [], ◌++◌, length, refl, sym, ap, subst, ◌∙◌, append_assoc, arith}
use Rattle.std.specs.Int.{w64, to_le_bytes}
use Rattle.std.proofs.lemmas.Bool.{eqb-true}
use Rattle.std.proofs.lemmas.List.{append-nil}
use Rattle.nt_num.specs.Place.{At}
use Rattle.nt_format.specs.Reading.{standing, IsBytes}
use Rattle.nt_format.specs.Strings.{string}
use Rattle.nt_format.specs.Relations.{Agrees, Stands}
use Rattle.nt_format.proofs.Relations.{in_words}
use Rattle.nt_grammar.specs.Table.{Table, no_rows}
use Rattle.nt_grammar.specs.declared.part.Part.TheVariants.{Header}
use Rattle.nt_pagelists.specs.Footers.{feature_flags_at}
use Rattle.nt_file_meaning.specs.Headers.{header_payload_at}
use Rattle.nt_payloads.specs.Descriptions.{AddsDescription, IsHeaderPayload}
use Rattle.nt_payloads.proofs.Texts.{Opens, Both, Done, part_bytes, seq_open, done_open}
use Rattle.nt_payloads.proofs.Tests.{tested, Word64, word64}
use Rattle.nt_payloads.proofs.Words.{Str, str, both, two}
use Rattle.nt_payloads.proofs.Descriptions.{described}

abbrev pub FlagsWord : ℕ → List ℕ → ℕ → Type 0
FlagsWord place text n = Word64 place text n × (eqb n 0 ≡ true)

pub flags : (here : At) → IsBytes here.left → Agrees (feature_flags_at here) (Stands (FlagsWord here.place) here)
unfolding feature_flags_at
flags here bytes = tested _ _ (word64 here bytes)

abbrev Steps : ℕ → List ℕ → Table → Type 0
Steps = Both FlagsWord λ none. Both Str λ name. Both Str λ about. Both Str λ writer. Both (AddsDescription Header no_rows) λ t. Done t

steps : (here : At) → IsBytes here.left → Agrees (header_payload_at here) (Opens Steps here)
unfolding header_payload_at
steps here bytes =
    seq_open _ bytes (flags here bytes) λ none m fm. seq_open _ fm (str m fm) λ name n fn. seq_open _ fn
    (str n fn) λ about o fo. seq_open _ fo (str o fo) λ writer q fq.
    seq_open _ fq (described Header no_rows q fq) λ t r fr. done_open t fr

grouped : (a b c d e f : List ℕ) → (a ++ (b ++ (c ++ (d ++ (e ++ []))))) ++ f ≡ a ++ (b ++ (c ++ (d ++ (e ++ f))))
grouped a b c d e f = simp (append_assoc, append-nil)

pub header : (place : ℕ) (payload : List ℕ) → IsBytes payload
    → Agrees (header_payload_at (standing place payload)) (IsHeaderPayload place payload)
header place payload bytes = in_words to from (steps (standing place payload) bytes)
  where
    to : (t : Table) → Opens Steps (standing place payload) t → IsHeaderPayload place payload t
    to t o =
        let f = o.is in
        let n = f.is_second in
        let u = n.is_second in
        let w = u.is_second in
        let d = w.is_second in
        let zero : f.first ≡ to_le_bytes w64 0 = f.is_first.0.is ∙ ap (λ (k : ℕ). to_le_bytes w64 k) (eqb-true _ _ f.is_first.1) in
        let at : place + length f.first + length n.first + length u.first + length w.first ≡ place + 8 + length (string n.head) + length
        (string u.head) + length (string w.head) =
        omega (
          arith,
          ap (λ (x : List ℕ). length x) zero,
          ap (λ (x : List ℕ). length x) n.is_first.is,
          ap (λ (x : List ℕ). length x) u.is_first.is,
          ap (λ (x : List ℕ). length x) w.is_first.is,
        ) in
        let text = two _ _ _ _ _ f.parts zero
        (two _ _ _ _ _ n.parts n.is_first.is
        (two _ _ _ _ _ u.parts u.is_first.is (two _ _ _ _ _ w.parts w.is_first.is (two _ _ _ _ _ d.parts refl d.is_second.none)))) in
        record {
          name = n.head;
          about = u.head;
          writer = w.head;
          description = d.first;
          more = o.rest.left;
          parts = o.takes.parts ∙ ap (λ (x : List ℕ). x ++ o.rest.left) text
              ∙ grouped (to_le_bytes w64 0) (string n.head) (string u.head) (string w.head) d.first o.rest.left;
          name_fits = n.is_first.fits;
          about_fits = u.is_first.fits;
          writer_fits = w.is_first.fits;
          describes = subst (λ (r : Table). AddsDescription Header no_rows
              (place + 8 + length (string n.head) + length (string u.head) + length (string w.head)) d.first r) (sym d.is_second.is)
              (subst (λ (k : ℕ). AddsDescription Header no_rows k d.first d.head) at d.is_first);
        }

    from : (t : Table) → IsHeaderPayload place payload t → Opens Steps (standing place payload) t
    from t i =
        let a = to_le_bytes w64 0 in
        let b = string i.name in
        let c = string i.about in
        let d = string i.writer in
        let front = a ++ (b ++ (c ++ (d ++ (i.description ++ [])))) in
        let parts : payload ≡ front ++ i.more = i.parts ∙ sym (grouped a b c d i.description i.more) in
        record {
          text = front;
          rest = standing (place + length front) i.more;
          takes = record {
            parts = parts;
            place = refl;
            bytes = part_bytes front i.more [] payload bytes (parts ∙ ap (λ (x : List ℕ). front ++ x) (sym (append-nil i.more)));
          };
          is = both 0 a (b ++ (c ++ (d ++ (i.description ++ [])))) (record { is = refl; fits = omega arith }, refl)
              (both i.name b (c ++ (d ++ (i.description ++ []))) (record { is = refl; fits = i.name_fits })
              (both i.about c (d ++ (i.description ++ [])) (record { is = refl; fits = i.about_fits })
              (both i.writer d (i.description ++ []) (record { is = refl; fits = i.writer_fits })
              (both t i.description [] i.describes (record { none = refl; is = refl })))));
        }
