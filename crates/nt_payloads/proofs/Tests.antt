-- Readings with tests between their parts, and numbers.
use Rattle.std.proofs.Common.{◌≡◌, ℕ, ◌^◌, ◌<◌, Bool, true, false, true≢false, cond, List, Result, Ok, Err, refl, sym, ap, subst}
use Rattle.std.specs.Int.{w32, w64, from_le_bytes, to_le_bytes}
use Rattle.nt_num.specs.Place.{At}
use Rattle.nt_num.specs.Cursor.{little}
use Rattle.nt_lists.specs.Chaining.{◌>>=◌}
use Rattle.nt_lists.proofs.Variants.{ok_is, chosen, chosen_not}
use Rattle.nt_format.specs.Reading.{placed, IsBytes, Takes}
use Rattle.nt_format.specs.Grammars.{Spelled}
use Rattle.nt_format.specs.Relations.{Agrees, With, Stands}
use Rattle.nt_format.proofs.Placed.{placed_ok}
use Rattle.nt_format.proofs.Numbers.{number_spells, little_32, little_64}
use Rattle.nt_format.proofs.Grammars.{spelled}
use Rattle.nt_format.proofs.Relations.{bind, exactly, at, in_words}
use Rattle.nt_payloads.proofs.Texts.{Opens}

kept : {V E : Type 0} (b : Bool) (x : V) (e : E) → Agrees (cond b (Ok x) (Err e)) (λ y. (b ≡ true) × (y ≡ x))
kept b x e = record { reads = λ y g. rw (g.0, g.1) refl; finds = λ y g. let c = chosen b x y e g in (c.0, sym c.1) }

kept_not : {V E : Type 0} (b : Bool) (x : V) (e : E) → Agrees (cond b (Err e) (Ok x)) (λ y. (b ≡ false) × (y ≡ x))
kept_not {E = E} b x e =
    record { reads = λ y g. rw (g.0, g.1) refl; finds = λ y g. let c = chosen_not b (Ok x) y e g in (c.0, sym (ok_is {E = E} x y c.1)) }

-- a value that passes a test
pub tested : {V E : Type 0} {r : Result (V × At) E} {Text : List ℕ → V → Type 0} {here : At} (b : V → Bool) (e : V × At → E)
    → Agrees r (Stands Text here)
    → Agrees (r >>= λ w. cond (b w.0) (Ok w) (Err (e w))) (Stands (λ text v. Text text v × (b v ≡ true)) here)
tested {V = V} {E = E} {r = r} {Text = Text} {here = here} b e p = in_words
    (λ y w. record {
      text = w.first.text;
      takes = subst (λ (x : V × At). Takes here w.first.text x.1) (sym w.second.1) w.first.takes;
      is = subst (λ (x : V × At). Text w.first.text x.0 × (b x.0 ≡ true)) (sym w.second.1) (w.first.is, w.second.0);
    })
    (λ y s. record { middle = y; first = record { text = s.text; takes = s.takes; is = s.is.0 }; second = (s.is.1, refl) })
    (bind _ p λ w h. kept (b w.0) w (e w))

-- a value that a test lets through
pub tested_not : {V E : Type 0} {r : Result (V × At) E} {Text : List ℕ → V → Type 0} {here : At} (b : V → Bool) (e : V × At → E)
    → Agrees r (Stands Text here)
    → Agrees (r >>= λ w. cond (b w.0) (Err (e w)) (Ok w)) (Stands (λ text v. Text text v × (b v ≡ false)) here)
tested_not {V = V} {E = E} {r = r} {Text = Text} {here = here} b e p = in_words
    (λ y w. record {
      text = w.first.text;
      takes = subst (λ (x : V × At). Takes here w.first.text x.1) (sym w.second.1) w.first.takes;
      is = subst (λ (x : V × At). Text w.first.text x.0 × (b x.0 ≡ false)) (sym w.second.1) (w.first.is, w.second.0);
    })
    (λ y s. record { middle = y; first = record { text = s.text; takes = s.takes; is = s.is.0 }; second = (s.is.1, refl) })
    (bind _ p λ w h. kept_not (b w.0) w (e w))

pub placing : {V : Type 0} {r : Result V ℕ} {P : V → Type 0} → Agrees r P → Agrees (placed r) P
placing {V = V} {r = r} a =
    record { reads = λ x p. ap (λ (s : Result V ℕ). placed s) (a.reads x p); finds = λ x e. a.finds x (placed_ok r x e) }

-- a number of 32 bits
abbrev pub Word32 : ℕ → List ℕ → ℕ → Type 0
Word32 place = Spelled (to_le_bytes w32) (λ n. n < 2 ^ 32)

-- a number of 64 bits
abbrev pub Word64 : ℕ → List ℕ → ℕ → Type 0
Word64 place = Spelled (to_le_bytes w64) (λ n. n < 2 ^ 64)

pub word32 : (here : At) → IsBytes here.left → Agrees (placed (little w32 here)) (Stands (Word32 here.place) here)
word32 here bytes = placing
    (at (spelled (little w32) (to_le_bytes w32) (λ n. n < 2 ^ 32)
    (number_spells 4 (2 ^ 32) (from_le_bytes w32) (to_le_bytes w32) little_32)) here bytes)

pub word64 : (here : At) → IsBytes here.left → Agrees (placed (little w64 here)) (Stands (Word64 here.place) here)
word64 here bytes = placing
    (at (spelled (little w64) (to_le_bytes w64) (λ n. n < 2 ^ 64)
    (number_spells 8 (2 ^ 64) (from_le_bytes w64) (to_le_bytes w64) little_64)) here bytes)

-- a test before the rest
pub guard_open : {U W E : Type 0} {Text : ℕ → List ℕ → W → Type 0} {here : At} (b : Bool) (x : U) (e : E) (f : U → Result W E)
    → Agrees (f x) (Opens Text here)
    → Agrees (cond b (Err e) (Ok x) >>= f) (Opens (λ place text value. (b ≡ false) × Text place text value) here)
guard_open true x e f a = record { reads = λ y o. absurd (true≢false o.is.0); finds = λ y h. absurd cc }
guard_open false x e f a = in_words
    (λ y o. record { text = o.text; rest = o.rest; takes = o.takes; is = (refl, o.is) })
    (λ y o. record { text = o.text; rest = o.rest; takes = o.takes; is = o.is.1 })
    a

pub choose_open : {W E : Type 0} {r : Result W E} {Text : ℕ → List ℕ → W → Type 0} {here : At} (b : Bool) (e : E)
    → Agrees r (Opens Text here)
    → Agrees (cond b r (Err e)) (Opens (λ place text value. (b ≡ true) × Text place text value) here)
choose_open true e a = in_words
    (λ y o. record { text = o.text; rest = o.rest; takes = o.takes; is = (refl, o.is) })
    (λ y o. record { text = o.text; rest = o.rest; takes = o.takes; is = o.is.1 })
    a
choose_open false e a = record { reads = λ y o. absurd (true≢false (sym o.is.0)); finds = λ y h. absurd cc }

pub choose : {V E : Type 0} {r : Result (V × At) E} {Text : List ℕ → V → Type 0} {here : At} (b : Bool) (e : E)
    → Agrees r (Stands Text here)
    → Agrees (cond b r (Err e)) (Stands (λ text value. (b ≡ true) × Text text value) here)
choose true e a = in_words
    (λ y o. record { text = o.text; takes = o.takes; is = (refl, o.is) })
    (λ y o. record { text = o.text; takes = o.takes; is = o.is.1 })
    a
choose false e a = record { reads = λ y o. absurd (true≢false (sym o.is.0)); finds = λ y h. absurd cc }

pub choose_not : {V E : Type 0} {r : Result (V × At) E} {Text : List ℕ → V → Type 0} {here : At} (b : Bool) (e : E)
    → Agrees r (Stands Text here)
    → Agrees (cond b (Err e) r) (Stands (λ text value. (b ≡ false) × Text text value) here)
choose_not true e a = record { reads = λ y o. absurd (true≢false o.is.0); finds = λ y h. absurd cc }
choose_not false e a = in_words
    (λ y o. record { text = o.text; takes = o.takes; is = (refl, o.is) })
    (λ y o. record { text = o.text; takes = o.takes; is = o.is.1 })
    a

-- what is made of a value
pub map_open : {U W E : Type 0} {r : Result U E} {Text : ℕ → List ℕ → U → Type 0} {here : At} (h : U → W) → Agrees r (Opens Text here)
    → Agrees (r >>= λ x. Ok (h x)) (Opens (λ place text. With (Text place text) (λ x y. y ≡ h x)) here)
map_open h a = in_words
    (λ y w. record {
      text = w.first.text;
      rest = w.first.rest;
      takes = w.first.takes;
      is = record { middle = w.middle; first = w.first.is; second = w.second };
    })
    (λ y o. record {
      middle = o.is.middle;
      first = record { text = o.text; rest = o.rest; takes = o.takes; is = o.is.first };
      second = o.is.second;
    })
    (bind _ a λ x p. exactly (h x))

pub assoc : {A B C E : Type 0} (r : Result A E) (f : A → Result B E) (g : B → Result C E) → ((r >>= f) >>= g) ≡ (r >>= λ x. f x >>= g)
assoc (Ok x) f g = refl
assoc (Err e) f g = refl
