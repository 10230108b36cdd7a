-- The table of the digits of the numbers below 1000.
use Rattle.std.proofs.Common.{◌≡◌, ℕ, zero, suc, ◌+◌, ◌*◌, ◌/◌, ◌%◌, ◌<◌, Bool, true, ◌&&◌, T, eqb, List, drop, get_or, ap, sym, subst}
use Rattle.std.proofs.Common.{◌∙◌, arith, eqb→eq}
use Rattle.std.proofs.lemmas.List.{drop-drop, get_or-drop}
use lib.Ieee.Fits.{and_l, and_r}
use Rattle.nt_print.specs.declared.triples.TheConstants.{TRIPLES}

-- a list begins with the digits of a number, and a blank
abbrev begins : ℕ → List ℕ → Bool
begins p l =
    (eqb (get_or l 0 0) (48 + p / 10 / 10 % 10) && eqb (get_or l 1 0) (48 + p / 10 % 10))
    && (eqb (get_or l 2 0) (48 + p % 10) && eqb (get_or l 3 0) 32)

-- so many numbers from one on have their digits in a list
abbrev are_triples : ℕ → ℕ → List ℕ → Bool
are_triples zero p l = true
are_triples (suc k) p l = begins p l && are_triples k (suc p) (drop 4 l)

begins-at : (k p i : ℕ) (l : List ℕ) → T (are_triples k p l) → i < k → T (begins (p + i) (drop (4 * i) l))
begins-at zero p i l t h = absurd (omega arith)
begins-at (suc k) p zero l t h =
    let same : p + 0 ≡ p = omega arith in
    subst (λ q. T (begins q l)) (sym same) (and_l (begins p l) (are_triples k (suc p) (drop 4 l)) t)
begins-at (suc k) p (suc i) l t h =
    let rest = begins-at k (suc p) i (drop 4 l) (and_r (begins p l) (are_triples k (suc p) (drop 4 l)) t) (omega arith) in
    let number : suc p + i ≡ p + suc i = omega arith in
    let place : 4 + 4 * i ≡ 4 * suc i = omega arith in
    let list : drop (4 * i) (drop 4 l) ≡ drop (4 * suc i) l = drop-drop (4 * i) 4 l ∙ ap (λ n. drop n l) place in
    subst (λ q. T (begins q (drop (4 * suc i) l))) number (subst (λ r. T (begins (suc p + i) r)) list rest)

-- the four bytes of a number
pub record IsTriple (p : ℕ) : Type 0 where
  pub first : get_or TRIPLES (4 * p) 0 ≡ 48 + p / 10 / 10 % 10
  pub second : get_or TRIPLES (4 * p + 1) 0 ≡ 48 + p / 10 % 10
  pub third : get_or TRIPLES (4 * p + 2) 0 ≡ 48 + p % 10
  pub blank : get_or TRIPLES (4 * p + 3) 0 ≡ 32

pub TRIPLES-at : (p : ℕ) → p < 1000 → IsTriple p
TRIPLES-at p h =
    let l = drop (4 * p) TRIPLES in
    let from : 0 + p ≡ p = omega arith in
    let t : T (begins p l) = subst (λ q. T (begins q l)) from (begins-at 1000 0 p TRIPLES tt h) in
    let front = and_l (eqb (get_or l 0 0) (48 + p / 10 / 10 % 10) && eqb (get_or l 1 0) (48 + p / 10 % 10)) _ t in
    let back = and_r (eqb (get_or l 0 0) (48 + p / 10 / 10 % 10) && eqb (get_or l 1 0) (48 + p / 10 % 10)) _ t in
    let place : 4 * p + 0 ≡ 4 * p = omega arith in
    record {
      first = ap (λ n. get_or TRIPLES n 0) (sym place) ∙ (sym (get_or-drop (4 * p) TRIPLES 0 0) ∙ eqb→eq _ _ (and_l _ _ front));
      second = sym (get_or-drop (4 * p) TRIPLES 1 0) ∙ eqb→eq _ _ (and_r _ _ front);
      third = sym (get_or-drop (4 * p) TRIPLES 2 0) ∙ eqb→eq _ _ (and_l _ _ back);
      blank = sym (get_or-drop (4 * p) TRIPLES 3 0) ∙ eqb→eq _ _ (and_r _ _ back);
    }
