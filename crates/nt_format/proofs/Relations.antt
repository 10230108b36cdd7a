-- Results that agree with a relation, one behind the other.
use Rattle.std.proofs.Common.{◌≡◌, ℕ, ◌+◌, ◌≤◌, Bool, List, ◌++◌, length, take, drop, Option, Some, None, Result, Ok, Err, refl, sym, ap}
use Rattle.std.proofs.Common.{subst, ◌∙◌, arith}
use Rattle.std.proofs.lemmas.List.{take_at, drop_at, take-take, take-append-drop, drop-drop}
use Rattle.nt_num.specs.Place.{At}
use Rattle.nt_num.specs.Cursor.{part_of}
use Rattle.nt_format.specs.Reading.{standing, IsBytes}
use Rattle.nt_lists.specs.Chaining.{◌>>=◌, refused_as}
use Rattle.nt_format.proofs.Steps.{part_takes, part_again, IsBytes-drop, IsBytes-take}
use Rattle.nt_lists.proofs.Chaining.{bind_ok, refused_as_ok, guard_passed}
use Rattle.nt_lists.proofs.Variants.{ok_is}
use Rattle.nt_format.specs.Pieces.{piece, window, standing_or, piece_or}
use Rattle.nt_format.specs.Demands.{demand, found_or, alone_of, first_in}
use Rattle.nt_format.proofs.Pieces.{piece_parts}
use Rattle.nt_format.specs.Grammars.{IsRead}
use Rattle.nt_format.specs.Relations.{Agrees, With, Is, Passes, IsThere, Stands, StandsAt, IsPiece, IsPart}

pub bind : {V W E : Type 0} {r : Result V E} {P : V → Type 0} {Q : V → W → Type 0} (f : V → Result W E) → Agrees r P
    → ((x : V) → P x → Agrees (f x) (Q x)) → Agrees (r >>= f) (With P Q)
bind {V = V} {W = W} {E = E} {r = r} {P = P} {Q = Q} f p q = record {
  reads = λ y w. ap (λ (s : Result V E). s >>= f) (p.reads w.middle w.first) ∙ (q w.middle w.first).reads y w.second;
  finds = λ y e. let b = bind_ok r f y e in record {
    middle = b.0;
    first = p.finds b.0 b.1;
    second = (q b.0 (p.finds b.0 b.1)).finds y b.2;
  };
}

pub exactly : {V E : Type 0} (v : V) → Agrees {E = E} (Ok v) (Is v)
exactly {V = V} {E = E} v = record { reads = λ y e. ap (λ (w : V). Ok w) (sym e); finds = λ y e. sym (ok_is {E = E} v y e) }

pub refused : {V E F : Type 0} {r : Result V E} {P : V → Type 0} (fault : F) → Agrees r P → Agrees (refused_as fault r) P
refused {V = V} {E = E} {F = F} {r = r} {P = P} fault p = record {
  reads = λ y h. ap (λ (s : Result V E). refused_as fault s) (p.reads y h);
  finds = λ y e. p.finds y (refused_as_ok fault r y e);
}

pub test : {E : Type 0} (b : Bool) (e : E) → Agrees (demand b e) (Passes b)
test b e = record { reads = λ u h. rw h refl; finds = λ u h. (guard_passed b e (Ok tt) u h).0 }

pub there : {V E : Type 0} (e : E) (o : Option V) → Agrees (found_or e o) (IsThere o)
there {V = V} {E = E} e (Some x) = record { reads = λ y h. cc; finds = λ y h. ap (λ (z : V). Some z) (ok_is {E = E} x y h) }
there e None = record { reads = λ y h. absurd cc; finds = λ y h. absurd cc }

standing_there : {E : Type 0} (e : E) (o : Option (List ℕ)) (here : At) → o ≡ Some here.left → here.place ≡ 0 → standing_or e o ≡ Ok here
standing_there e o here is begins = rw (is, ← begins) refl

standing_found : {E : Type 0} (e : E) (o : Option (List ℕ)) (here : At) → standing_or e o ≡ Ok here
    → (o ≡ Some here.left) × (here.place ≡ 0)
standing_found {E = E} e (Some bytes) here h =
    let same : standing 0 bytes ≡ here = ok_is {E = E} (standing 0 bytes) here h in
    (ap (λ (a : At). Some a.left) same, sym (ap (λ (a : At). a.place) same))
standing_found e None here h = absurd cc

pub part : {E : Type 0} (e : E) (file : List ℕ) (at size : ℕ) → Agrees (piece_or e file at size) (IsPiece file at size)
part e file at size = record {
  reads = λ here h. standing_there e (piece file at size) here h.is h.begins;
  finds = λ here h. let b = standing_found e (piece file at size) here h in record { is = b.0; begins = b.1 };
}

pub piece_bytes : (file bytes : List ℕ) (at size : ℕ) → IsBytes file → piece file at size ≡ Some bytes → IsBytes bytes
piece_bytes file bytes at size fits e =
    let p = piece_parts file bytes at size e in
    let behind : drop at file ≡ bytes ++ drop (at + size) file =
    ap (λ (l : List ℕ). drop at l) p.0 ∙ drop_at (take at file) (bytes ++ drop (at + size) file) at p.1 in
    let same : take size (drop at file) ≡ bytes = ap (λ (l : List ℕ). take size l) behind
    ∙ take_at bytes (drop (at + size) file) size p.2 in
    subst IsBytes same (IsBytes-take size (drop at file) (IsBytes-drop at file fits))

pub at : {V E : Type 0} {reading : At → Result (V × At) E} {Text : List ℕ → V → Type 0} → IsRead reading Text → (here : At)
    → IsBytes here.left → Agrees (reading here) (Stands Text here)
at {V = V} {E = E} {reading = reading} {Text = Text} r here bytes = record {
  reads = λ p h.
      ap (λ (l : List ℕ). reading (standing here.place l)) h.takes.parts ∙ r.reads h.text p.0 h.is here.place p.1.left
      ∙ ap (λ (k : ℕ). Ok (p.0, standing k p.1.left)) (sym h.takes.place);
  finds = λ p e. let t = r.finds here p.1 p.0 bytes e in record { text = t.0; takes = t.1; is = t.2 };
}

pub whole : (n : ℕ) (here : At) → IsBytes here.left → Agrees (part_of n here) (IsPart n here)
whole n here bytes = record {
  reads = λ p h.
      let len : length p.0.left ≡ n = h.len in
      ap (λ (l : List ℕ). part_of n (standing here.place l)) h.takes.parts ∙ part_again n here.place p.0.left p.1.left h.len
      ∙ ap (λ (k : ℕ). Ok (standing k p.0.left, standing (here.place + n) p.1.left)) (sym h.place)
      ∙ ap (λ (k : ℕ). Ok (p.0, standing k p.1.left)) (ap (λ (k : ℕ). here.place + k) (sym h.len) ∙ sym h.takes.place);
  finds = λ p e. let t = part_takes n here p.0 p.1 bytes e in record { place = t.1; len = t.0; takes = t.3; bytes = t.2 };
}

pub window-bytes : (most : ℕ) (file : List ℕ) (at : ℕ) → IsBytes file → IsBytes (window most file at)
window-bytes most file at bytes = IsBytes-take most (drop at file) (IsBytes-drop at file bytes)

alone_ok : {V E F : Type 0} (fault : E) (r : Result (V × At) F) (value : V) → alone_of (refused_as fault r) ≡ Ok value
    → (after : At) × (r ≡ Ok (value, after))
alone_ok {V = V} {E = E} fault (Ok read) value e = (read.1, ap (λ (v : V). Ok (v, read.1)) (ok_is {E = E} read.0 value e))
alone_ok fault (Err f) value e = absurd cc

-- what stands in the front of a place
pub front_there : (text rest left bytes : List ℕ) (from : ℕ) → left ≡ text ++ rest → left ≡ drop from bytes
    → take (length text) (drop from bytes) ≡ text
front_there text rest left bytes from parts is = ap (λ (l : List ℕ). take (length text) l) (sym is ∙ parts)
    ∙ take_at text rest (length text) refl

-- a text that stands in front of the bytes from a place on
pub located : {V F E : Type 0} {reading : At → Result (V × At) F} {Text : List ℕ → V → Type 0} (fault : E)
    → IsRead reading Text → (most : ℕ)
    → ((text : List ℕ) (value : V) → Text text value → length text ≤ most) → (file : List ℕ) (from : ℕ) → IsBytes file
    → Agrees (first_in fault reading (window most file from)) (StandsAt Text file from)
located {V = V} {F = F} {E = E} {reading = reading} {Text = Text} fault r most few file from bytes = record {
  reads = λ value h.
      let n : ℕ = length h.text in
      let front : take n (window most file from) ≡ h.text = take-take n most (drop from file) (few h.text value h.is) ∙ h.there in
      let parts : window most file from ≡ h.text ++ drop n (window most file from) =
      sym (take-append-drop n (window most file from)) ∙ ap (λ (l : List ℕ). l ++ drop n (window most file from)) front in
      ap (λ (s : Result (V × At) F). alone_of (refused_as fault s)) (ap (λ (l : List ℕ). reading (standing 0 l)) parts
      ∙ r.reads h.text value h.is 0 (drop n (window most file from)));
  finds = λ value e.
      let found = alone_ok fault (reading (standing 0 (window most file from))) value e in
      let t = r.finds (standing 0 (window most file from)) found.0 value (window-bytes most file from bytes) found.1 in
      let short : length t.0 ≤ most = few t.0 value t.2 in
      record {
        text = t.0;
        there = sym (take-take (length t.0) most (drop from file) short) ∙ ap (λ (l : List ℕ). take (length t.0) l) t.1.parts
            ∙ take_at t.0 found.0.left (length t.0) refl;
        is = t.2;
      };
}

-- the bytes from a place on, past a text that stands there
pub past_text : (text bytes : List ℕ) (from : ℕ) → take (length text) (drop from bytes) ≡ text → drop from bytes ≡ text
    ++ drop (from + length text) bytes
past_text text bytes from there =
    sym (take-append-drop (length text) (drop from bytes)) ∙ ap (λ (l : List ℕ). l ++ drop (length text) (drop from bytes)) there
    ∙ ap (λ (l : List ℕ). text ++ l) (drop-drop (length text) from bytes)

-- what stands at a place stands there as what is left
pub stands_from : {V : Type 0} {Text : List ℕ → V → Type 0} (bytes : List ℕ) (from : ℕ) (value : V) → IsBytes bytes
    → (s : StandsAt Text bytes from value)
    → Stands Text (standing from (drop from bytes)) (value, standing (from + length s.text) (drop (from + length s.text) bytes))
stands_from bytes from value fits s = record {
  text = s.text;
  takes = record { parts = past_text s.text bytes from s.there; place = refl; bytes = IsBytes-drop (from + length s.text) bytes fits };
  is = s.is;
}

-- and the other way round
pub stands_to : {V : Type 0} {Text : List ℕ → V → Type 0} (bytes : List ℕ) (from : ℕ) (value : V) (here after : At)
    → here.left ≡ drop from bytes
    → (s : Stands Text here (value, after)) → StandsAt Text bytes from value × (after.left ≡ drop (from + length s.text) bytes)
stands_to bytes from value here after is s =
    let there = front_there s.text after.left here.left bytes from s.takes.parts is in (
      record { text = s.text; there = there; is = s.is },
      sym (drop_at s.text after.left (length s.text) refl) ∙ ap (λ (l : List ℕ). drop (length s.text) l) (sym s.takes.parts ∙ is)
          ∙ drop-drop (length s.text) from bytes,
    )

-- a relation in other words
pub in_words : {V E : Type 0} {r : Result V E} {P Q : V → Type 0} → ((x : V) → P x → Q x) → ((x : V) → Q x → P x) → Agrees r P → Agrees r Q
in_words to from a = record { reads = λ x q. a.reads x (from x q); finds = λ x e. to x (a.finds x e) }
