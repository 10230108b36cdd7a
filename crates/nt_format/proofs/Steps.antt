-- Steps of a reading: what came out of them, and what they took from the front.
use Rattle.std.proofs.Common.{◌≡◌, ℕ, ◌+◌, ◌≤◌, false, ltb, List, ◌++◌, length, take, drop, Ok, refl, sym, ap, ◌∙◌, append_assoc, arith}
use Rattle.std.proofs.Common.{inl, inr}
use Rattle.std.proofs.lemmas.Bool.{cases_lt, ltb-false, le-ltb}
use Rattle.std.proofs.lemmas.List.{take_at, drop_at, take-append-drop, length-append, length-take, get_or-drop, get_or-take, get_or_past}
use Rattle.nt_num.specs.Place.{At, past}
use Rattle.nt_num.specs.Cursor.{next, part_of}
use Rattle.nt_lists.proofs.Chaining.{guard_ok}
use Rattle.nt_lists.proofs.Variants.{ok_is}
use Rattle.nt_format.specs.Reading.{standing, IsBytes, Takes}

pub IsBytes-drop : (n : ℕ) (bytes : List ℕ) → IsBytes bytes → IsBytes (drop n bytes)
IsBytes-drop n bytes h i = rw get_or-drop (h (n + i))

pub IsBytes-take : (n : ℕ) (bytes : List ℕ) → IsBytes bytes → IsBytes (take n bytes)
IsBytes-take n bytes h i =
    elim (cases_lt i n) [
      | inl lt ↦ rw (get_or-take n bytes i 0 lt) (h i)
      | inr le ↦ rw (get_or_past (take n bytes) i 0 (omega (arith, length-take n bytes))) (omega arith)
    ]

pub Takes-then : (a b c : At) (x y : List ℕ) → Takes a x b → Takes b y c → Takes a (x ++ y) c
Takes-then a b c x y p q = record {
  parts = p.parts ∙ ap (λ (t : List ℕ). x ++ t) q.parts ∙ sym (append_assoc x y c.left);
  place = omega (arith, p.place, q.place, length-append x y);
  bytes = q.bytes;
}

-- the next n bytes, whatever they mean
pub next_takes : {V : Type 0} (meaning : List ℕ → V) (n : ℕ) (here after : At) (v : V) → IsBytes here.left
    → next meaning n here ≡ Ok (v, after)
    → (text : List ℕ) × (length text ≡ n) × IsBytes text × (meaning text ≡ v) × Takes here text after
next_takes {V = V} meaning n here after v bytes e =
    let g = guard_ok (ltb (length here.left) n) here.place (Ok (meaning (take n here.left), past n here)) (v, after) e in
    let long : n ≤ length here.left = ltb-false _ _ g.0 in
    let both = ok_is {E = ℕ} (meaning (take n here.left), past n here) (v, after) g.1 in
    let v_is : meaning (take n here.left) ≡ v = ap (λ (p : V × At). p.0) both in
    let after_is : past n here ≡ after = ap (λ (p : V × At). p.1) both in
    let len : length (take n here.left) ≡ n = omega (arith, length-take n here.left) in
    let takes : Takes here (take n here.left) (past n here) = record {
      parts = sym (take-append-drop n here.left);
      place = ap (λ (k : ℕ). here.place + k) (sym len);
      bytes = IsBytes-drop n here.left bytes;
    } in
    (take n here.left, len, IsBytes-take n here.left bytes, v_is, rw (← after_is) takes)

-- bytes that stand in front are the next ones
pub next_again : {V : Type 0} (meaning : List ℕ → V) (n place : ℕ) (text rest : List ℕ) → length text ≡ n
    → next meaning n (standing place (text ++ rest)) ≡ Ok (meaning text, standing (place + n) rest)
next_again meaning n place text rest len =
    let long : ltb (length (text ++ rest)) n ≡ false = le-ltb _ _ (omega (arith, length-append text rest)) in
    rw (long, take_at text rest n len, drop_at text rest n len) refl

-- the same of the next n bytes as a part
pub part_again : (n place : ℕ) (text rest : List ℕ) → length text ≡ n
    → part_of n (standing place (text ++ rest)) ≡ Ok (standing place text, standing (place + n) rest)
part_again n place text rest len = next_again (λ bytes. standing place bytes) n place text rest len

pub part_takes : (n : ℕ) (here inside after : At) → IsBytes here.left → part_of n here ≡ Ok (inside, after)
    → (length inside.left ≡ n) × (inside.place ≡ here.place) × IsBytes inside.left × Takes here inside.left after
part_takes n here inside after bytes e =
    let t = next_takes (λ bytes. standing here.place bytes) n here after inside bytes e in
    let left_is : t.0 ≡ inside.left = ap (λ (p : At). p.left) t.3 in
    let place_is : here.place ≡ inside.place = ap (λ (p : At). p.place) t.3 in
    rw (← left_is) (t.1, sym place_is, t.2, t.4)
