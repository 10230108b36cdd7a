-- Parts that lie in order.
use Rattle.std.proofs.Common.{◌≡◌, ◌∙◌, ap, sym, ℕ, ◌+◌, List, [], ◌∷◌, ◌++◌, length, take, drop, arith}
use Rattle.std.specs.List.{AllByRecursion, concat}
use Rattle.std.proofs.lemmas.List.{take-append-drop, drop-drop}
use Rattle.nt_lists.specs.Parts.{Part, AreBehind, part_bytes, joined_len, StandAt}
use Rattle.nt_lists.proofs.Beside.{drop-all}

pub behind_more : (place : ℕ) (ps : List Part) (p : Part) → AreBehind place ps → p.place ≡ place + joined_len ps
    → AreBehind place (ps ++ p ∷ [])
behind_more place [] p behind is = (omega (arith, is), tt)
behind_more place (q ∷ ps) p behind is = (behind.0, behind_more (place + length q.bytes) ps p behind.1 (omega (arith, is)))

pub bytes_more : (ps : List Part) (p : Part) → joined_len (ps ++ p ∷ []) ≡ joined_len ps + length p.bytes
bytes_more [] p = omega arith
bytes_more (q ∷ ps) p = omega (arith, bytes_more ps p)

-- what stands behind a place is the parts
behind_is : (whole : List ℕ) (place : ℕ) (ps : List Part) → AreBehind place ps
    → AllByRecursion (λ (p : Part). StandAt whole p.place p.bytes) ps
    → length whole ≡ place + joined_len ps → drop place whole ≡ concat (part_bytes ps)
behind_is whole place [] behind stand long = drop-all place whole (omega (arith, long))
behind_is whole place (p ∷ ps) behind stand long =
    let n = length p.bytes in
    let here : take n (drop place whole) ≡ p.bytes = ap (λ (m : ℕ). take n (drop m whole)) (sym behind.0) ∙ stand.0 in
    sym (take-append-drop n (drop place whole))
    ∙ (ap (λ (l : List ℕ). l ++ drop n (drop place whole)) here
    ∙ ap (λ (l : List ℕ). p.bytes ++ l) (drop-drop n place whole
    ∙ behind_is whole (place + n) ps behind.1 stand.1 (omega (arith, long))))

pub parts_whole : (front whole : List ℕ) (ps : List Part) → take (length front) whole ≡ front → AreBehind (length front) ps
    → AllByRecursion (λ (p : Part). StandAt whole p.place p.bytes) ps → length whole ≡ length front + joined_len ps
    → whole ≡ front ++ concat (part_bytes ps)
parts_whole front whole ps first behind stand long =
    sym (take-append-drop (length front) whole)
    ∙ (ap (λ (l : List ℕ). l ++ drop (length front) whole) first
    ∙ ap (λ (l : List ℕ). front ++ l) (behind_is whole (length front) ps behind stand long))
