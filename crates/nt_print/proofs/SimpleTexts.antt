-- Texts of characters that stand for themselves.
use Rattle.std.proofs.Common.{◌≡◌, ℕ, zero, suc, ◌+◌, ◌*◌, ◌<◌, List, [], ◌∷◌, ◌++◌, take, drop, sym, ap, ◌∙◌, subst, arith, refl}
use Rattle.std.proofs.Common.{Bool, true, false, cond, eqb, ltb, leb, map, length, replicate}
use Rattle.std.proofs.lemmas.Bool.{eqb-false, ltb-false, leb-false}
use Rattle.std.proofs.lemmas.Nat.{le_or_l, le_or_r}
use Rattle.std.specs.Int.Bits.{bit_or}
use lib.Lanes.{mask_l, top, zip2}
use Rattle.std.specs.Str.{IsAscii}
use Rattle.std.proofs.lemmas.Str.{IsUtf8-from_ascii}
use Rattle.serde_json.specs.Written.{compact_text}
use Rattle.nt_types.specs.TreeData.{text}
use Rattle.nt_event.specs.Json.{data_of}
use Rattle.nt_event.specs.Plain.{AllPlain}
use Rattle.nt_event.proofs.Plain.{plain-escape, lane, stop_lanes}
use Rattle.nt_event.proofs.Prints.{utf8_text, three_put}
use Rattle.nt_print.specs.Simple.{Simple, AllSimple}

simple-plain : (s : List ℕ) → AllSimple s → AllPlain s
simple-plain [] h = tt
simple-plain (x ∷ xs) h = (h.0.plain, simple-plain xs h.1)

simple-ascii : (s : List ℕ) → AllSimple s → IsAscii s
simple-ascii [] h i = omega arith
simple-ascii (x ∷ xs) h zero = h.0.ascii
simple-ascii (x ∷ xs) h (suc i) = simple-ascii xs h.1 i

-- they are the string as they stand
simple-text : (s : List ℕ) → AllSimple s → 34 ∷ (s ++ 34 ∷ []) ≡ compact_text (data_of (text s))
simple-text s h = ap (λ l. 34 ∷ (l ++ 34 ∷ [])) (sym (plain-escape s (simple-plain s h)))
    ∙ utf8_text s (IsUtf8-from_ascii s (simple-ascii s h))

pub simple-put : (o a b c s : List ℕ) (mark : ℕ) → AllSimple s → a ≡ o ++ mark ∷ 34 ∷ [] → b ≡ a ++ s → c ≡ b ++ 34 ∷ []
    → c ≡ o ++ mark ∷ compact_text (data_of (text s))
simple-put o a b c s mark h first rest end =
    three_put o a b c (mark ∷ 34 ∷ []) s (34 ∷ []) (mark ∷ compact_text (data_of (text s))) first rest end
    (ap (λ l. mark ∷ l) (simple-text s h))

-- one more in front of others
pub simple-more : (s : List ℕ) (i x : ℕ) → drop i s ≡ x ∷ drop (i + 1) s → Simple x → AllSimple (drop (i + 1) s) → AllSimple (drop i s)
simple-more s i x is one others = subst AllSimple (sym is) (one, others)

pub simple-append : (xs zs : List ℕ) → AllSimple xs → AllSimple zs → AllSimple (xs ++ zs)
simple-append [] zs h k = k
simple-append (x ∷ xs) zs h k = (h.0, simple-append xs zs h.1 k)

pub simple-take : (n : ℕ) (xs : List ℕ) → AllSimple xs → AllSimple (take n xs)
simple-take zero xs h = tt
simple-take (suc n) [] h = tt
simple-take (suc n) (x ∷ xs) h = (h.0, simple-take n xs h.1)

-- ---- eight at once

-- what the lanes of bytes have that are compared with a quote, a backslash, the first byte that is no control, and the first beyond ASCII
abbrev pub other_lanes : ℕ → List ℕ → List ℕ
other_lanes n xs = zip2 bit_or (stop_lanes n xs) (zip2 (λ a b. lane (leb a b)) (replicate n 128) xs)

pub lanes-length : (n : ℕ) (xs : List ℕ) → length xs ≡ n → length (other_lanes n xs) ≡ n
lanes-length n [] long = long
lanes-length zero (x ∷ xs) long = absurd (omega (arith, long))
lanes-length (suc n) (x ∷ xs) long = ap suc (lanes-length n xs (omega (arith, long)))

no-lane : (b : Bool) → lane b < 128 → b ≡ false
no-lane true few = absurd (omega (arith, few))
no-lane false few = refl

no-top : (b : Bool) (n : ℕ) → cond b 1 0 + 2 * n ≡ 0 → (b ≡ false) × (n ≡ 0)
no-top true n none = absurd (omega (arith, none))
no-top false n none = (refl, omega (arith, none))

simple-lane : (x : ℕ) → bit_or (bit_or (bit_or (lane (eqb x 34)) (lane (eqb x 92))) (lane (ltb x 32))) (lane (leb 128 x)) < 128 → Simple x
simple-lane x few =
    let a = lane (eqb x 34) in
    let b = lane (eqb x 92) in
    let c = lane (ltb x 32) in
    let d = lane (leb 128 x) in
    let abc : bit_or (bit_or a b) c < 128 = omega (arith, few, le_or_l (bit_or (bit_or a b) c) d) in
    let ab : bit_or a b < 128 = omega (arith, abc, le_or_l (bit_or a b) c) in
    record {
      plain = record {
        no_quote = eqb-false x 34 (no-lane (eqb x 34) (omega (arith, ab, le_or_l a b)));
        no_slash = eqb-false x 92 (no-lane (eqb x 92) (omega (arith, ab, le_or_r a b)));
        low = ltb-false x 32 (no-lane (ltb x 32) (omega (arith, abc, le_or_r (bit_or a b) c)));
      };
      ascii = leb-false 128 x (no-lane (leb 128 x) (omega (arith, few, le_or_r (bit_or (bit_or a b) c) d)));
    }

pub simple-unmasked : (n : ℕ) (xs : List ℕ) → length xs ≡ n → mask_l (map (top 7) (other_lanes n xs)) ≡ 0 → AllSimple xs
simple-unmasked n [] long none = tt
simple-unmasked zero (x ∷ xs) long none = absurd (omega (arith, long))
simple-unmasked (suc n) (x ∷ xs) long none =
    let head = bit_or (bit_or (bit_or (lane (eqb x 34)) (lane (eqb x 92))) (lane (ltb x 32))) (lane (leb 128 x)) in
    let p = no-top (top 7 head) (mask_l (map (top 7) (other_lanes n xs))) none in
    (simple-lane x (leb-false 128 head p.0), simple-unmasked n xs (omega (arith, long)) p.1)
