-- Readings that agree with a grammar, one behind the other.
use Rattle.std.proofs.Common.{◌≡◌, ℕ, ◌+◌, ◌≤◌, Bool, true, false, cond, List, [], ◌++◌, length, Result, Ok, refl, sym, ap, ◌∙◌}
use Rattle.std.proofs.Common.{append_assoc, arith}
use Rattle.std.proofs.lemmas.List.{length-append}
use Rattle.nt_num.specs.Place.{At}
use Rattle.nt_format.specs.Reading.{standing, Spells}
use Rattle.nt_lists.specs.Chaining.{◌>>=◌}
use Rattle.nt_format.proofs.Steps.{Takes-then, next_takes, next_again}
use Rattle.nt_lists.proofs.Chaining.{bind_ok}
use Rattle.nt_lists.proofs.Variants.{ok_is}
use Rattle.nt_format.specs.Demands.{bytes_at}
use Rattle.nt_format.specs.Grammars.{IsRead, Then, Makes, Spelled, Bytes, Choice}

pub spelled : {V E : Type 0} (reading : At → Result (V × At) E) (spelling : V → List ℕ) (Fits : V → Type 0)
    → Spells reading spelling Fits → IsRead reading (Spelled spelling Fits)
spelled reading spelling Fits s = record {
  reads = λ text value t place rest. rw t.is (s.reads value place rest t.fits);
  finds = λ here after value bytes e. let t = s.finds here after value bytes e in (spelling value, t.0, record { is = refl; fits = t.1 });
}

-- bytes as they are
pub plain_bytes : (n place : ℕ) (text rest : List ℕ) → length text ≡ n → bytes_at n (standing place (text ++ rest))
    ≡ Ok (text, standing (place + length text) rest)
plain_bytes n place text rest len =
    let end : place + n ≡ place + length text = omega (arith, len) in
    next_again (λ b. b) n place text rest len ∙ ap (λ (k : ℕ). Ok (text, standing k rest)) end

pub plain : (n : ℕ) → IsRead (bytes_at n) (Bytes n)
plain n = record {
  reads = λ text value t place rest. rw t.is (plain_bytes n place value rest t.fits);
  finds = λ here after value bytes e.
      let t = next_takes (λ b. b) n here after value bytes e in
      (t.0, t.4, record { is = t.3; fits = ap (λ (l : List ℕ). length l) (sym t.3) ∙ t.1 });
}

pub gives : {V E : Type 0} (value : V) → IsRead {E = E} (λ here. Ok (value, here)) (Makes value)
gives {V = V} {E = E} made = record {
  reads = λ text value t place rest. let e : text ≡ [] =
      t.none in let f : value ≡ made = t.is in let end : place ≡ place + 0 = omega arith in
      rw (e, f, ← end) refl;
  finds = λ here after value bytes e.
      let both = ok_is {E = E} (made, here) (value, after) e in
      let same : here ≡ after = ap (λ (p : V × At). p.1) both in (
        [],
        rw (← same) (record { parts = refl; place = omega arith; bytes = bytes }),
        record {
          none = refl;
          is = sym (ap (λ (p : V × At). p.0) both);
        },
      );
}

pub seq : {V W E : Type 0} {f : At → Result (V × At) E} {First : List ℕ → V → Type 0} {Second : V → List ℕ → W → Type 0}
    → (g : V × At → Result (W × At) E) → IsRead f First → ((x : V) → IsRead (λ here. g (x, here)) (Second x))
    → IsRead (λ here. f here >>= g) (Then First Second)
seq {V = V} {W = W} {E = E} {f = f} {First = First} {Second = Second} g p q = record {
  reads = λ text value t place rest.
      let end : place + length t.first + length t.second ≡ place + length text =
      omega (arith, ap (λ (l : List ℕ). length l) t.parts, length-append t.first t.second) in
      ap (λ (l : List ℕ). f (standing place l) >>= g) (ap (λ (l : List ℕ). l ++ rest) t.parts ∙ append_assoc t.first t.second rest)
      ∙ ap (λ (r : Result (V × At) E). r >>= g) (p.reads t.first t.head t.is_first place (t.second ++ rest))
      ∙ (q t.head).reads t.second value t.is_second (place + length t.first) rest
      ∙ ap (λ (k : ℕ). Ok (value, standing k rest)) end;
  finds = λ here after value bytes e.
      let b = bind_ok (f here) g (value, after) e in
      let one = p.finds here b.0.1 b.0.0 bytes b.1 in
      let two = (q b.0.0).finds b.0.1 after value one.1.bytes b.2 in (
        one.0 ++ two.0,
        Takes-then here b.0.1 after one.0 two.0 one.1 two.1,
        record {
          head = b.0.0;
          first = one.0;
          second = two.0;
          parts = refl;
          is_first = one.2;
          is_second = two.2;
        },
      );
}

-- one of two readings
pub choice : {V E : Type 0} {f g : At → Result (V × At) E} {F G : List ℕ → V → Type 0} (b : Bool) → IsRead f F → IsRead g G
    → IsRead (λ here. cond b (f here) (g here)) (Choice b F G)
choice true p q = p
choice false p q = q

-- a grammar whose texts have at most so many bytes
abbrev pub IsShort : {V : Type 0} → ℕ → (List ℕ → V → Type 0) → Type 0
IsShort {V = V} most Text = (text : List ℕ) (value : V) → Text text value → length text ≤ most

pub then_short : {V W : Type 0} {First : List ℕ → V → Type 0} {Second : V → List ℕ → W → Type 0} (m n : ℕ) → IsShort m First
    → ((x : V) → IsShort n (Second x)) → IsShort (m + n) (Then First Second)
then_short m n p q text value t = omega (
  arith,
  ap (λ (l : List ℕ). length l) t.parts,
  length-append t.first t.second,
  p t.first t.head t.is_first,
  q t.head t.second value t.is_second,
)

pub plain_short : (n : ℕ) → IsShort n (Bytes n)
plain_short n text value t = omega (arith, ap (λ (l : List ℕ). length l) t.is, t.fits)

pub makes_short : {V : Type 0} (made : V) → IsShort 0 (Makes made)
makes_short made text value t = omega (arith, ap (λ (l : List ℕ). length l) t.none)

pub spelled_short : {V : Type 0} (n : ℕ) (spelling : V → List ℕ) (Fits : V → Type 0) → ((x : V) → length (spelling x) ≡ n)
    → IsShort n (Spelled spelling Fits)
spelled_short n spelling Fits len text value t = omega (arith, ap (λ (l : List ℕ). length l) t.is, len value)

pub choice_short : {V : Type 0} {F G : List ℕ → V → Type 0} (b : Bool) (n : ℕ) → IsShort n F → IsShort n G → IsShort n (Choice b F G)
choice_short true n p q = p
choice_short false n p q = q

pub less_short : {V : Type 0} {F : List ℕ → V → Type 0} (m n : ℕ) → m ≤ n → IsShort m F → IsShort n F
less_short m n le p text value t = omega (arith, le, p text value t)
