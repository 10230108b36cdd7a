-- An anchor's object is read as the anchor that its text stands for.
use Rattle.std.proofs.Common.{◌≡◌, ℕ, ◌+◌, eqb, List, [], ◌∷◌, ◌++◌, length, Ok, refl, sym, ap, subst, ◌∙◌, arith}
use Rattle.std.proofs.lemmas.Bool.{eqb-true}
use Rattle.std.proofs.lemmas.List.{length-append, append-nil}
use Rattle.std.specs.List.{concat}
use Rattle.std.specs.Int.{w16, w64, to_be_bytes}
use Rattle.nt_num.specs.Place.{At}
use Rattle.nt_xxh3.specs.Sum.{xxh3}
use Rattle.nt_format.specs.Reading.{standing, IsBytes}
use Rattle.nt_format.specs.Grammars.{Bytes}
use Rattle.nt_format.specs.Relations.{Agrees, With, Is, Passes, Stands, IsPart}
use Rattle.nt_format.proofs.Sum.{xxh3_below}
use Rattle.nt_format.proofs.Grammars.{plain}
use Rattle.nt_format.proofs.Relations.{bind, exactly, refused, test, at, whole}
use Rattle.nt_container.specs.declared.anchor.Anchor.{Anchor}
use Rattle.nt_container.specs.Anchors.{covered_fields, anchor_in, anchor_from}
use Rattle.nt_container.specs.Texts.{Word16, Word64, EnvelopesText}
use Rattle.nt_container.specs.Embeds.{AnchorText}
use Rattle.nt_container.proofs.Words.{word_16, word_64, plain_bytes}
use Rattle.nt_container.proofs.Texts as texts
use Rattle.nt_container.proofs.AnchorBack.{fields-chain, anchor-chain}

AreFields : At → At → Type 0
AreFields object =
    With (Stands (Bytes 6) object) λ head. With (IsPart 64 head.1) λ fields. With (Stands Word64 fields.1) λ kept.
    With (Passes (eqb kept.0 (xxh3 fields.0.left))) λ same. Is fields.0

IsIn : At → Anchor → Type 0
IsIn fields =
    With (Stands Word16 fields) λ epoch. With (Passes (eqb epoch.0 1)) λ first. With (Stands (Bytes 6) epoch.1) λ versions.
    With (Stands EnvelopesText versions.1) λ envelopes. Is envelopes.0

fields : (place : ℕ) (here : At) → IsBytes here.left → Agrees (covered_fields place here) (AreFields here)
unfolding covered_fields AreFields
fields place here bytes =
    bind _ (refused _ (at (plain 6) here bytes)) λ head h. bind _ (refused _ (whole 64 head.1 h.takes.bytes)) λ f is.
    bind _ (refused _ (at texts.word_64 f.1 is.takes.bytes)) λ kept k. bind _ (test _ _) λ u same. exactly _

anchor : (place : ℕ) (here : At) → IsBytes here.left → Agrees (anchor_in place here) (IsIn here)
unfolding anchor_in IsIn
anchor place here bytes =
    bind _ (refused _ (at texts.word_16 here bytes)) λ epoch e. bind _ (test _ _) λ u first.
    bind _ (refused _ (at (plain 6) epoch.1 e.takes.bytes)) λ versions v.
    bind _ (refused _ (at texts.envelopes versions.1 v.takes.bytes)) λ all is. exactly _

fields_bytes : (object here : At) → AreFields object here → IsBytes here.left
unfolding AreFields
fields_bytes object here h = subst (λ (a : At). IsBytes a.left) (sym h.second.second.second.second) h.second.first.bytes

steps : (place : ℕ) (object : At) → IsBytes object.left → Agrees (anchor_from place object) (With (AreFields object) IsIn)
unfolding anchor_from
steps place object bytes = bind _ (fields place object bytes) λ f fs. anchor place f (fields_bytes object f fs)

no_more : (head fields word rest : List ℕ) → length head ≡ 6 → length fields ≡ 64 → length word ≡ 8
    → length (head ++ (fields ++ (word ++ rest))) ≡ 78 → rest ≡ []
no_more head fields word [] a b c d = refl
no_more head fields word (r ∷ rest) a b c d =
    absurd (omega (
      arith,
      a,
      b,
      c,
      d,
      length-append head (fields ++ (word ++ (r ∷ rest))),
      length-append fields (word ++ (r ∷ rest)),
      length-append word (r ∷ rest),
    ))

text_found : (object : At) (a : Anchor) → length object.left ≡ 78 → With (AreFields object) IsIn a → AnchorText object.left a
unfolding AreFields IsIn
text_found object a size w =
    let head = w.first.first in
    let part = w.first.second.first in
    let kept = w.first.second.second.first in
    let sum : ℕ = w.first.second.second.middle.0 in
    let rest : List ℕ = w.first.second.second.middle.1.left in
    let covered : List ℕ = w.first.second.middle.0.left in
    let same : sum ≡ xxh3 covered = eqb-true _ _ w.first.second.second.second.first in
    let whole_text : object.left ≡ head.text ++ (covered ++ (kept.text ++ rest)) =
    head.takes.parts ∙ ap (λ (l : List ℕ). head.text ++ l) (part.takes.parts ∙ ap (λ (l : List ℕ). covered ++ l) kept.takes.parts) in
    let word : kept.text ≡ to_be_bytes w64 (xxh3 covered) = kept.is.is ∙ ap (to_be_bytes w64) same in
    let head_len : length head.text ≡ 6 = ap (λ (l : List ℕ). length l) head.is.is ∙ head.is.fits in
    let word_len : length kept.text ≡ 8 = ap (λ (l : List ℕ). length l) word in
    let none : rest ≡ [] = no_more head.text covered kept.text rest head_len part.len word_len
    (ap (λ (l : List ℕ). length l) (sym whole_text) ∙ size) in
    let fields_are : w.middle.left ≡ covered = ap (λ (f : At). f.left) w.first.second.second.second.second in
    let epoch = w.second.first in
    let one : w.second.middle.0 ≡ 1 = eqb-true _ _ w.second.second.first in
    let versions = w.second.second.second.first in
    let places = w.second.second.second.second.first in
    let most : List ℕ = w.second.second.second.second.middle.1.left in
    let inside : covered ≡ epoch.text ++ (versions.text ++ (places.text ++ most)) =
    sym fields_are ∙ epoch.takes.parts ∙ ap (λ (l : List ℕ). epoch.text ++ l) (versions.takes.parts
    ∙ ap (λ (l : List ℕ). versions.text ++ l) places.takes.parts) in
    let epoch_is : epoch.text ≡ to_be_bytes w16 1 = epoch.is.is ∙ ap (to_be_bytes w16) one in
    let is : w.second.second.second.second.middle.0 ≡ a = sym w.second.second.second.second.second in
    record {
      head = head.text;
      fields = covered;
      versions = versions.text;
      places = places.text;
      most = most;
      parts = whole_text ∙ ap (λ (l : List ℕ). head.text ++ (covered ++ (kept.text ++ l))) none
          ∙ ap (λ (l : List ℕ). head.text ++ (covered ++ l)) (append-nil kept.text ∙ word);
      inside = inside ∙ ap (λ (l : List ℕ). l ++ (versions.text ++ (places.text ++ most))) epoch_is;
      is = subst (λ (x : Anchor). EnvelopesText places.text x) is places.is;
      head_size = head_len;
      size = part.len;
      versions_size = ap (λ (l : List ℕ). length l) versions.is.is ∙ versions.is.fits;
    }

text_read : (place : ℕ) (text : List ℕ) (a : Anchor) → AnchorText text a → anchor_from place (standing 0 text) ≡ Ok a
unfolding anchor_from
text_read place text a t =
    let parts : text ≡ concat (t.head ∷ t.fields ∷ to_be_bytes w64 (xxh3 t.fields) ∷ []) =
    t.parts ∙ ap (λ (l : List ℕ). t.head ++ (t.fields ++ l)) (sym (append-nil (to_be_bytes w64 (xxh3 t.fields)))) in
    let fields_read : covered_fields place (standing 0 text) ≡ Ok (standing (0 + length t.head) t.fields) =
    ap (λ (l : List ℕ). covered_fields place (standing 0 l)) parts
    ∙ fields-chain place 0 (xxh3 t.fields) t.head t.fields (to_be_bytes w64 (xxh3 t.fields)) (plain_bytes 6 t.head t.head_size)
    t.size (word_64 (xxh3 t.fields) (xxh3_below t.fields)) refl in
    let anchor_read : anchor_in place (standing (0 + length t.head) t.fields) ≡ Ok a =
    ap (λ (l : List ℕ). anchor_in place (standing (0 + length t.head) l)) t.inside
    ∙ anchor-chain place (0 + length t.head) (to_be_bytes w16 1) t.versions t.places t.most a (word_16 1 (omega arith))
    (plain_bytes 6 t.versions t.versions_size)
    (λ from rest. texts.envelopes.reads t.places a t.is from rest) in
    rw fields_read anchor_read

-- of the bytes of an object
pub from_object : (place : ℕ) (object : At) → IsBytes object.left → object.place ≡ 0 → length object.left ≡ 78
    → Agrees (anchor_from place object) (AnchorText object.left)
from_object place object bytes begins size = record {
  reads = λ a t. ap (λ (k : ℕ). anchor_from place (standing k object.left)) begins ∙ text_read place object.left a t;
  finds = λ a e. text_found object a size ((steps place object bytes).finds a e);
}
