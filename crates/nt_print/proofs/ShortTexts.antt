-- Short texts, written to room behind a mark and a quote.
use Rattle.std.proofs.Common.{◌≡◌, ℕ, ◌+◌, ◌≤◌, List, [], ◌∷◌, ◌++◌, length, take, drop, sym, ap, ◌∙◌, subst, arith, append_assoc, take-add}
use Rattle.std.proofs.lemmas.List.{take-take, take_all}
use Rattle.nt_print.specs.Simple.{AllSimple}
use Rattle.nt_print.proofs.Parts.{take-behind}
use Rattle.nt_print.proofs.SimpleTexts.{simple-append, simple-take}

-- more bytes behind the first
bytes-more : (p q r bytes : List ℕ) (from n : ℕ) → r ≡ p ++ take from bytes → q ≡ r ++ take n (drop from bytes)
    → q ≡ p ++ take (from + n) bytes
bytes-more p q r bytes from n front more =
    more ∙ (ap (λ l. l ++ take n (drop from bytes)) front
    ∙ (append_assoc p (take from bytes) (take n (drop from bytes)) ∙ ap (λ l. p ++ l) (sym (take-add from n bytes))))

-- one more
pub one-more : (p r room bytes : List ℕ) (i x : ℕ) → take (i + 1) bytes ≡ take i bytes ++ x ∷ [] → r ≡ p ++ take i bytes
    → take (i + 2 + 1) room ≡ r ++ x ∷ [] → take (i + 1 + 2) room ≡ p ++ take (i + 1) bytes
one-more p r room bytes i x next front more =
    let place : i + 1 + 2 ≡ i + 2 + 1 = omega arith in
    ap (λ k. take k room) place
    ∙ (more ∙ (ap (λ l. l ++ x ∷ []) front ∙ (append_assoc p (take i bytes) (x ∷ []) ∙ ap (λ l. p ++ l) (sym next))))

-- eight more
pub eight-more : (p r room bytes : List ℕ) (from : ℕ) → r ≡ p ++ take from bytes → take (from + 10) room ≡ r ++ take 8 (drop from bytes)
    → take (from + 8 + 2) room ≡ p ++ take (from + 8) bytes
eight-more p r room bytes from front more =
    let place : from + 8 + 2 ≡ from + 10 = omega arith in
    ap (λ k. take k room) place ∙ bytes-more p _ r bytes from 8 front more

-- all of them
all-bytes : (bytes : List ℕ) (last : ℕ) → last + 8 ≡ length bytes → take (last + 8) bytes ≡ bytes
all-bytes bytes last is = take_all (last + 8) bytes (omega (arith, is))

-- the last eight, of which some may stand there already
pub eights-end : (p r room bytes : List ℕ) (from last : ℕ) → length p ≡ 2 → last + 8 ≡ length bytes → last ≤ from
    → take (from + 2) r ≡ p ++ take from bytes → take (last + 10) room ≡ take (last + 2) r ++ take 8 (drop last bytes)
    → take (length bytes + 2) room ≡ p ++ bytes
eights-end p r room bytes from last two is le front more =
    let begins : last + 2 ≡ length p + last = omega (arith, two) in
    let ends : length bytes + 2 ≡ last + 10 = omega (arith, is) in
    let before : take (last + 2) r ≡ p ++ take last bytes =
    sym (take-take (last + 2) (from + 2) r (omega (arith, le)))
    ∙ (ap (take (last + 2)) front
    ∙ (ap (λ k. take k (p ++ take from bytes)) begins
    ∙ (take-behind p (take from bytes) last ∙ ap (λ l. p ++ l) (take-take last from bytes le)))) in
    ap (λ k. take k room) ends
    ∙ (bytes-more p _ (take (last + 2) r) bytes last 8 before more ∙ ap (λ l. p ++ l) (all-bytes bytes last is))

pub eights-simple : (bytes : List ℕ) (from last : ℕ) → last + 8 ≡ length bytes → last ≤ from → AllSimple (take from bytes)
    → AllSimple (take 8 (drop last bytes)) → AllSimple bytes
eights-simple bytes from last is le h k =
    let front = subst AllSimple (take-take last from bytes le) (simple-take last (take from bytes) h) in
    subst AllSimple (sym (take-add last 8 bytes) ∙ all-bytes bytes last is)
    (simple-append (take last bytes) (take 8 (drop last bytes)) front k)

pub eight-simple : (bytes : List ℕ) (from : ℕ) → AllSimple (take from bytes) → AllSimple (take 8 (drop from bytes))
    → AllSimple (take (from + 8) bytes)
eight-simple bytes from h k = subst AllSimple (sym (take-add from 8 bytes)) (simple-append (take from bytes) (take 8 (drop from bytes)) h k)
