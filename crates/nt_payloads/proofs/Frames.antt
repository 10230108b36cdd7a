-- Readings inside of frames.
use Rattle.std.proofs.Common.{◌≡◌, ℕ, ◌+◌, ◌-◌, ◌^◌, ◌<◌, Bool, false, cond, List, [], ◌++◌, length, Result, Ok, Err, refl, sym, ap, subst}
use Rattle.std.proofs.Common.{◌∙◌, append_assoc, arith}
use Rattle.std.specs.Int.{w32, w64, to_le_bytes}
use Rattle.std.proofs.lemmas.List.{append-nil}
use Rattle.nt_num.specs.Place.{At}
use Rattle.nt_num.specs.declared.fault.ReadError.{ReadError}
use Rattle.nt_lists.specs.Chaining.{◌>>=◌}
use Rattle.nt_format.specs.Reading.{placed, standing, IsBytes, Takes}
use Rattle.nt_format.specs.Frames.{record_frame, list_frame, record_at, list_at, IsRecord, IsList}
use Rattle.nt_format.specs.Relations.{Agrees, Stands}
use Rattle.nt_format.proofs.Placed.{placed_ok}
use Rattle.nt_format.proofs.Frames.{record_again, record_takes, list_again, list_takes}
use Rattle.nt_format.proofs.Relations.{bind, in_words}
use Rattle.nt_payloads.specs.Framed.{InRecord, InList}
use Rattle.nt_payloads.proofs.Texts.{Opens, Ended, part_bytes, reword_open}
use Rattle.nt_payloads.proofs.Tests.{guard_open, assoc}

-- a record frame
pub record_steps : (here : At) → IsBytes here.left → Agrees (placed (record_at here)) (λ (r : At × At). IsRecord here r.0 r.1)
record_steps here bytes = record {
  reads = λ r h.
      let end : here.place + (8 + length r.0.left) ≡ r.1.place = omega (arith, h.frame.place) in
      ap (λ (l : List ℕ). placed (record_at (standing here.place l))) h.frame.parts
      ∙ ap (λ (s : Result (At × At) ℕ). placed s) (record_again r.0.left r.1.left here.place h.size)
      ∙ ap (λ (k : ℕ). Ok (standing (here.place + 8) r.0.left, standing k r.1.left)) end
      ∙ ap (λ (k : ℕ). Ok (standing k r.0.left, r.1)) (sym h.place);
  finds = λ r e. record_takes here r.0 r.1 bytes (placed_ok (record_at here) r e);
}

-- a list frame
pub list_steps : (here : At) → IsBytes here.left → Agrees (placed (list_at here)) (λ (l : (ℕ × At) × At). IsList here l.0.0 l.0.1 l.1)
list_steps here bytes = record {
  reads = λ l h.
      let end : here.place + (12 + length l.0.1.left) ≡ l.1.place = omega (arith, h.frame.place) in
      ap (λ (b : List ℕ). placed (list_at (standing here.place b))) h.frame.parts
      ∙ ap (λ (s : Result ((ℕ × At) × At) ℕ). placed s) (list_again l.0.0 l.0.1.left l.1.left here.place h.items h.size)
      ∙ ap (λ (k : ℕ). Ok ((l.0.0, standing (here.place + 12) l.0.1.left), standing k l.1.left)) end
      ∙ ap (λ (k : ℕ). Ok ((l.0.0, standing k l.0.1.left), l.1)) (sym h.place);
  finds = λ l e. list_takes here l.0.0 l.0.1 l.1 bytes (placed_ok (list_at here) l e);
}

-- where a frame stands, its inside stands behind the frame's head
pub record_there : (here after : At) (inside text : List ℕ) → IsBytes here.left → Takes here text after → text ≡ record_frame inside
    → 8 + length inside < 2 ^ 63
    → IsRecord here (standing (here.place + 8) inside) after
record_there here after inside text bytes k is size = record {
  frame = subst (λ (t : List ℕ). Takes here t after) is k;
  size = size;
  place = refl;
  bytes = part_bytes (to_le_bytes w64 (8 + length inside)) inside after.left here.left bytes
      (k.parts ∙ ap (λ (t : List ℕ). t ++ after.left) is ∙ append_assoc (to_le_bytes w64 (8 + length inside)) inside after.left);
}

pub list_there : (here after : At) (count : ℕ) (inside text : List ℕ) → IsBytes here.left → Takes here text after
    → text ≡ list_frame count inside → count < 2 ^ 32 → 12 + length inside < 2 ^ 63
    → IsList here count (standing (here.place + 12) inside) after
list_there here after count inside text bytes k is few size =
    let head = to_le_bytes w64 (2 ^ 64 - (12 + length inside)) ++ to_le_bytes w32 count in
    let grouped : list_frame count inside ++ after.left ≡ head ++ (inside ++ after.left) = simp append_assoc in
    record {
      frame = subst (λ (t : List ℕ). Takes here t after) is k;
      size = size;
      items = few;
      place = refl;
      bytes = part_bytes head inside after.left here.left bytes (k.parts ∙ ap (λ (t : List ℕ). t ++ after.left) is ∙ grouped);
    }

-- the front of these bytes
pub opens_front : (place : ℕ) (known more : List ℕ) → IsBytes (known ++ more)
    → Takes (standing place (known ++ more)) known (standing (place + length known) more)
opens_front place known more bytes =
    record {
      parts = refl;
      place = refl;
      bytes = part_bytes known more [] (known ++ more) bytes (ap (λ (l : List ℕ). known ++ l) (sym (append-nil more)));
    }

pub in_record : {V : Type 0} {Inside : ℕ → List ℕ → V → Type 0} {here : At} (f : At × At → Result (V × At) ReadError) → IsBytes here.left
    → ((inside after : At) → IsBytes inside.left → Agrees (f (inside, after)) (Opens (Ended Inside after) inside))
    → Agrees (placed (record_at here) >>= f) (Stands (InRecord Inside here.place) here)
in_record {V = V} {Inside = Inside} {here = here} f bytes q = in_words
    (λ y w. record {
      text = record_frame w.middle.0.left;
      takes = subst (λ (a : At). Takes here (record_frame w.middle.0.left) a) (sym w.second.is.1) w.first.frame;
      is = record {
        known = w.second.text;
        more = w.second.rest.left;
        frame = ap (λ (l : List ℕ). record_frame l) w.second.takes.parts;
        size = subst (λ (l : List ℕ). 8 + length l < 2 ^ 63) w.second.takes.parts w.first.size;
        is = subst (λ (k : ℕ). Inside k w.second.text y.0) w.first.place w.second.is.0;
      };
    })
    (λ y s.
    let first = record_there here y.1 (s.is.known ++ s.is.more) s.text bytes s.takes s.is.frame s.is.size in
    record {
      middle = (standing (here.place + 8) (s.is.known ++ s.is.more), y.1);
      first = first;
      second = record {
        text = s.is.known;
        rest = standing (here.place + 8 + length s.is.known) s.is.more;
        takes = opens_front (here.place + 8) s.is.known s.is.more first.bytes;
        is = (s.is.is, refl);
      };
    })
    (bind f (record_steps here bytes) λ r h. q r.0 r.1 h.bytes)

pub in_list : {V : Type 0} {Inside : ℕ → ℕ → List ℕ → V → Type 0} {here : At} (f : (ℕ × At) × At → Result (V × At) ReadError)
    → IsBytes here.left
    → ((count : ℕ) (inside after : At) → IsBytes inside.left
    → Agrees (f ((count, inside), after)) (Opens (Ended (Inside count) after) inside))
    → Agrees (placed (list_at here) >>= f) (Stands (InList Inside here.place) here)
in_list {V = V} {Inside = Inside} {here = here} f bytes q = in_words
    (λ y w. record {
      text = list_frame w.middle.0.0 w.middle.0.1.left;
      takes = subst (λ (a : At). Takes here (list_frame w.middle.0.0 w.middle.0.1.left) a) (sym w.second.is.1) w.first.frame;
      is = record {
        count = w.middle.0.0;
        known = w.second.text;
        more = w.second.rest.left;
        frame = ap (λ (l : List ℕ). list_frame w.middle.0.0 l) w.second.takes.parts;
        few = w.first.items;
        size = subst (λ (l : List ℕ). 12 + length l < 2 ^ 63) w.second.takes.parts w.first.size;
        is = subst (λ (k : ℕ). Inside w.middle.0.0 k w.second.text y.0) w.first.place w.second.is.0;
      };
    })
    (λ y s.
    let first = list_there here y.1 s.is.count (s.is.known ++ s.is.more) s.text bytes s.takes s.is.frame s.is.few s.is.size in
    record {
      middle = ((s.is.count, standing (here.place + 12) (s.is.known ++ s.is.more)), y.1);
      first = first;
      second = record {
        text = s.is.known;
        rest = standing (here.place + 12 + length s.is.known) s.is.more;
        takes = opens_front (here.place + 12) s.is.known s.is.more first.bytes;
        is = (s.is.is, refl);
      };
    })
    (bind f (list_steps here bytes) λ l h. q l.0.0 l.0.1 l.1 h.bytes)

-- the same where the reading goes no further
pub in_list_open : {W : Type 0} {Inside : ℕ → ℕ → List ℕ → W → Type 0} {here : At} (f : (ℕ × At) × At → Result W ReadError)
    → IsBytes here.left
    → ((count : ℕ) (inside after : At) → IsBytes inside.left → Agrees (f ((count, inside), after)) (Opens (Inside count) inside))
    → Agrees (placed (list_at here) >>= f) (Opens (InList Inside) here)
in_list_open {W = W} {Inside = Inside} {here = here} f bytes q = in_words
    (λ y w. record {
      text = list_frame w.middle.0.0 w.middle.0.1.left;
      rest = w.middle.1;
      takes = w.first.frame;
      is = record {
        count = w.middle.0.0;
        known = w.second.text;
        more = w.second.rest.left;
        frame = ap (λ (l : List ℕ). list_frame w.middle.0.0 l) w.second.takes.parts;
        few = w.first.items;
        size = subst (λ (l : List ℕ). 12 + length l < 2 ^ 63) w.second.takes.parts w.first.size;
        is = subst (λ (k : ℕ). Inside w.middle.0.0 k w.second.text y) w.first.place w.second.is;
      };
    })
    (λ y s.
    let first = list_there here s.rest s.is.count (s.is.known ++ s.is.more) s.text bytes s.takes s.is.frame s.is.few s.is.size in
    record {
      middle = ((s.is.count, standing (here.place + 12) (s.is.known ++ s.is.more)), s.rest);
      first = first;
      second = record {
        text = s.is.known;
        rest = standing (here.place + 12 + length s.is.known) s.is.more;
        takes = opens_front (here.place + 12) s.is.known s.is.more first.bytes;
        is = s.is.is;
      };
    })
    (bind f (list_steps here bytes) λ l h. q l.0.0 l.0.1 l.1 h.bytes)

-- the same where the number of items is tested first
pub in_list_tested : {V : Type 0} {Inside : ℕ → ℕ → List ℕ → V → Type 0} {here : At} (b : ℕ → Bool) (e : (ℕ × At) × At → ReadError)
    (f : (ℕ × At) × At → Result (V × At) ReadError) → IsBytes here.left
    → ((count : ℕ) (inside after : At) → IsBytes inside.left
    → Agrees (f ((count, inside), after)) (Opens (Ended (Inside count) after) inside))
    → Agrees ((placed (list_at here) >>= λ l. cond (b l.0.0) (Err (e l)) (Ok l)) >>= f)
    (Stands (InList (λ count place text value. (b count ≡ false) × Inside count place text value) here.place) here)
in_list_tested {V = V} {Inside = Inside} {here = here} b e f bytes q =
    let test : (ℕ × At) × At → Result ((ℕ × At) × At) ReadError = λ l. cond (b l.0.0) (Err (e l)) (Ok l) in
    subst (λ (s : Result (V × At) ReadError). Agrees s
    (Stands (InList (λ count place text value. (b count ≡ false) × Inside count place text value) here.place) here))
    (sym (assoc (placed (list_at here)) test f))
    (in_list (λ l. test l >>= f) bytes λ count inside after fi. reword_open
    (λ text read t. ((t.0, t.1.0), t.1.1))
    (λ text read t. (t.0.0, (t.0.1, t.1)))
    (guard_open (b count) ((count, inside), after) (e ((count, inside), after)) f (q count inside after fi)))
