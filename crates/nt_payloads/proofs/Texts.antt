-- Readings that agree with grammars of texts, whose values may depend on where a text begins.
use Rattle.std.proofs.Common.{◌≡◌, ℕ, ◌+◌, List, [], ◌++◌, length, take, drop, Result, Ok, refl, sym, ap, subst, ◌∙◌, append_assoc, arith}
use Rattle.std.proofs.lemmas.List.{drop_at, take_at, length-append}
use Rattle.nt_num.specs.Place.{At}
use Rattle.nt_lists.specs.Chaining.{◌>>=◌}
use Rattle.nt_lists.proofs.Chaining.{bind_ok}
use Rattle.nt_lists.proofs.Variants.{ok_is}
use Rattle.nt_format.specs.Reading.{standing, IsBytes, Takes}
use Rattle.nt_format.specs.Relations.{Agrees, With, Stands}
use Rattle.nt_format.proofs.Steps.{IsBytes-drop, IsBytes-take, Takes-then}
use Rattle.nt_format.proofs.Relations.{bind, in_words}

-- such a text stands in front, whatever follows it
pub record Opens {V : Type 0} (Text : ℕ → List ℕ → V → Type 0) (here : At) (value : V) : Type 0 where
  pub text : List ℕ
  pub rest : At
  pub takes : Takes here text rest
  pub is : Text here.place text value

-- two texts, of which the second may depend on what the first stands for
pub record Both {V W : Type 0} (First : ℕ → List ℕ → V → Type 0) (Second : V → ℕ → List ℕ → W → Type 0) (place : ℕ) (text : List ℕ)
    (value : W) : Type 0 where
  pub head : V
  pub first : List ℕ
  pub second : List ℕ
  pub parts : text ≡ first ++ second
  pub is_first : First place first head
  pub is_second : Second head (place + length first) second value

-- nothing more, for this value
pub record Done {V : Type 0} (made : V) (place : ℕ) (text : List ℕ) (value : V) : Type 0 where
  pub none : text ≡ []
  pub is : value ≡ made

-- the same text, and the reading goes on behind the frame
abbrev pub Ended : {V : Type 0} → (ℕ → List ℕ → V → Type 0) → At → ℕ → List ℕ → V × At → Type 0
Ended Text after place text read = Text place text read.0 × (read.1 ≡ after)

pub part_bytes : (a b c bytes : List ℕ) → IsBytes bytes → bytes ≡ a ++ (b ++ c) → IsBytes b
part_bytes a b c bytes fits is =
    let behind : drop (length a) bytes ≡ b ++ c = ap (λ (l : List ℕ). drop (length a) l) is ∙ drop_at a (b ++ c) (length a) refl in
    subst IsBytes (ap (λ (l : List ℕ). take (length b) l) behind ∙ take_at b c (length b) refl)
    (IsBytes-take (length b) (drop (length a) bytes) (IsBytes-drop (length a) bytes fits))

-- a text of two parts, taken one after the other
pub split_takes : (here after : At) (t ts : List ℕ) → IsBytes here.left → Takes here (t ++ ts) after
    → Takes here t (standing (here.place + length t) (ts ++ after.left))
    × Takes (standing (here.place + length t) (ts ++ after.left)) ts after
split_takes here after t ts bytes k =
    let parts : here.left ≡ t ++ (ts ++ after.left) = k.parts ∙ append_assoc t ts after.left in
    let behind : drop (length t) here.left ≡ ts ++ after.left = ap (λ (l : List ℕ). drop (length t) l) parts
    ∙ drop_at t (ts ++ after.left) (length t) refl in (
      record { parts = parts; place = refl; bytes = subst IsBytes behind (IsBytes-drop (length t) here.left bytes) },
      record { parts = refl; place = omega (arith, k.place, length-append t ts); bytes = k.bytes },
    )

pub reword : {V E : Type 0} {r : Result (V × At) E} {P Q : List ℕ → V → Type 0} {here : At}
    → ((text : List ℕ) (v : V) → P text v → Q text v) → ((text : List ℕ) (v : V) → Q text v → P text v)
    → Agrees r (Stands P here) → Agrees r (Stands Q here)
reword to from a = in_words
    (λ x s. record { text = s.text; takes = s.takes; is = to s.text x.0 s.is })
    (λ x s. record { text = s.text; takes = s.takes; is = from s.text x.0 s.is })
    a

pub reword_open : {V E : Type 0} {r : Result V E} {P Q : ℕ → List ℕ → V → Type 0} {here : At}
    → ((text : List ℕ) (v : V) → P here.place text v → Q here.place text v)
    → ((text : List ℕ) (v : V) → Q here.place text v → P here.place text v) → Agrees r (Opens P here) → Agrees r (Opens Q here)
reword_open to from a = in_words
    (λ x s. record { text = s.text; rest = s.rest; takes = s.takes; is = to s.text x s.is })
    (λ x s. record { text = s.text; rest = s.rest; takes = s.takes; is = from s.text x s.is })
    a

pub seq : {V W E : Type 0} {r : Result (V × At) E} {First : ℕ → List ℕ → V → Type 0} {Second : V → ℕ → List ℕ → W → Type 0} {here : At}
    (f : V × At → Result (W × At) E) → IsBytes here.left
    → Agrees r (Stands (First here.place) here)
    → ((x : V) (mid : At) → IsBytes mid.left → Agrees (f (x, mid)) (Stands (Second x mid.place) mid))
    → Agrees (r >>= f) (Stands (Both First Second here.place) here)
seq {V = V} {W = W} {E = E} {r = r} {Second = Second} {here = here} f bytes p q = record {
  reads = λ y h.
      let t = split_takes here y.1 h.is.first h.is.second bytes (subst (λ (l : List ℕ). Takes here l y.1) h.is.parts h.takes) in
      let mid : At = standing (here.place + length h.is.first) (h.is.second ++ y.1.left) in
      ap (λ (s : Result (V × At) E). s >>= f) (p.reads (h.is.head, mid) (record { text = h.is.first; takes = t.0; is = h.is.is_first }))
      ∙ (q h.is.head mid t.0.bytes).reads y (record { text = h.is.second; takes = t.1; is = h.is.is_second });
  finds = λ y e.
      let b = bind_ok r f y e in
      let one = p.finds b.0 b.1 in
      let two = (q b.0.0 b.0.1 one.takes.bytes).finds y b.2 in
      let second = subst (λ (k : ℕ). Second b.0.0 k two.text y.0) one.takes.place two.is in
      record {
        text = one.text ++ two.text;
        takes = Takes-then here b.0.1 y.1 one.text two.text one.takes two.takes;
        is = record { head = b.0.0; first = one.text; second = two.text; parts = refl; is_first = one.is; is_second = second };
      };
}

pub seq_open : {V W E : Type 0} {r : Result (V × At) E} {First : ℕ → List ℕ → V → Type 0} {Second : V → ℕ → List ℕ → W
    → Type 0} {here : At} (f : V × At → Result W E) → IsBytes here.left
    → Agrees r (Stands (First here.place) here) → ((x : V) (mid : At) → IsBytes mid.left → Agrees (f (x, mid)) (Opens (Second x) mid))
    → Agrees (r >>= f) (Opens (Both First Second) here)
seq_open {V = V} {W = W} {E = E} {r = r} {Second = Second} {here = here} f bytes p q = record {
  reads = λ y h.
      let t = split_takes here h.rest h.is.first h.is.second bytes (subst (λ (l : List ℕ). Takes here l h.rest) h.is.parts h.takes) in
      let mid : At = standing (here.place + length h.is.first) (h.is.second ++ h.rest.left) in
      ap (λ (s : Result (V × At) E). s >>= f) (p.reads (h.is.head, mid) (record { text = h.is.first; takes = t.0; is = h.is.is_first }))
      ∙ (q h.is.head mid t.0.bytes).reads y (record { text = h.is.second; rest = h.rest; takes = t.1; is = h.is.is_second });
  finds = λ y e.
      let b = bind_ok r f y e in
      let one = p.finds b.0 b.1 in
      let two = (q b.0.0 b.0.1 one.takes.bytes).finds y b.2 in
      let second = subst (λ (k : ℕ). Second b.0.0 k two.text y) one.takes.place two.is in
      record {
        text = one.text ++ two.text;
        rest = two.rest;
        takes = Takes-then here b.0.1 two.rest one.text two.text one.takes two.takes;
        is = record { head = b.0.0; first = one.text; second = two.text; parts = refl; is_first = one.is; is_second = second };
      };
}

-- nothing is taken
takes_none : (here : At) → IsBytes here.left → Takes here [] here
takes_none here bytes = record { parts = refl; place = omega arith; bytes = bytes }

pub done : {V E : Type 0} {here : At} (made : V) → IsBytes here.left → Agrees {E = E} (Ok (made, here)) (Stands (Done made here.place) here)
done {V = V} {E = E} {here = here} made bytes = record {
  reads = λ y h.
      let left : y.1.left ≡ here.left = sym (h.takes.parts ∙ ap (λ (l : List ℕ). l ++ y.1.left) h.is.none) in
      let place : y.1.place ≡ here.place = omega (arith, h.takes.place, ap (λ (l : List ℕ). length l) h.is.none) in
      ap (λ (v : V). Ok (v, here)) (sym h.is.is) ∙ ap (λ (l : List ℕ). Ok (y.0, standing here.place l)) (sym left)
      ∙ ap (λ (k : ℕ). Ok (y.0, standing k y.1.left)) (sym place);
  finds = λ y e.
      let same = ok_is {E = E} (made, here) y e in
      let value : y.0 ≡ made = sym (ap (λ (p : V × At). p.0) same) in
      record {
        text = [];
        takes = subst (λ (a : At). Takes here [] a) (ap (λ (p : V × At). p.1) same) (takes_none here bytes);
        is = record { none = refl; is = value };
      };
}

pub done_open : {V E : Type 0} {here : At} (made : V) → IsBytes here.left → Agrees {E = E} (Ok made) (Opens (Done made) here)
done_open {V = V} {E = E} {here = here} made bytes = record {
  reads = λ y h. ap (λ (v : V). Ok v) (sym h.is.is);
  finds = λ y e. record {
    text = [];
    rest = here;
    takes = takes_none here bytes;
    is = record { none = refl; is = sym (ok_is {E = E} made y e) };
  };
}

-- a test between two texts
pub check_open : {U W E : Type 0} {r : Result U E} {P : U → Type 0} {Text : U → ℕ → List ℕ → W → Type 0} {here : At} (f : U → Result W E)
    → Agrees r P
    → ((u : U) → P u → Agrees (f u) (Opens (Text u) here))
    → Agrees (r >>= f) (Opens (λ place text value. With P (λ u (v : W). Text u place text v) value) here)
check_open f p q = in_words
    (λ y w. record {
      text = w.second.text;
      rest = w.second.rest;
      takes = w.second.takes;
      is = record { middle = w.middle; first = w.first; second = w.second.is };
    })
    (λ y o. record {
      middle = o.is.middle;
      first = o.is.first;
      second = record { text = o.text; rest = o.rest; takes = o.takes; is = o.is.second };
    })
    (bind f p q)
