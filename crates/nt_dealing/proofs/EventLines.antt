-- The lines of an event text, one by one.
use Rattle.std.proofs.Common.{◌≡◌, ◌≢◌, ℕ, suc, ◌<◌, ◌==◌, Bool, true, false, cond, List, [], ◌∷◌, ◌++◌, length, refl, ap, ◌∙◌, arith}
use Rattle.std.specs.List.{onto_first}
use borrow.Author.Tests.{eqb-true}
use Rattle.nt_event.specs.Lines.{HasNoLf}
use Rattle.nt_dealing.specs.EventText.{text_lines}

-- a byte of a line stands in front of it
pub text_lines-other : (byte : ℕ) (bytes : List ℕ) (b : Bool) → (byte == 10) ≡ b → byte ≢ 10 → text_lines (byte ∷ bytes)
    ≡ onto_first byte (text_lines bytes)
text_lines-other byte bytes true is not = absurd (not (eqb-true byte 10 is))
text_lines-other byte bytes false is not = ap (λ (b : Bool). cond b ([] ∷ text_lines bytes) (onto_first byte (text_lines bytes))) is

HasNoLf-tail : (byte : ℕ) (bytes : List ℕ) → HasNoLf (byte ∷ bytes) → HasNoLf bytes
HasNoLf-tail byte bytes h k less = h (suc k) (omega arith)

-- a line with its LF, and what stands behind it
pub text_lines-next : (line rest : List ℕ) → HasNoLf line → text_lines (line ++ 10 ∷ rest) ≡ line ∷ text_lines rest
text_lines-next [] rest h = refl
text_lines-next (byte ∷ line) rest h =
    text_lines-other byte (line ++ 10 ∷ rest) (byte == 10) refl (h 0 (omega arith))
    ∙ ap (λ (l : List (List ℕ)). onto_first byte l) (text_lines-next line rest (HasNoLf-tail byte line h))

-- a last line without an LF
pub text_lines-last : (line : List ℕ) → HasNoLf line → 0 < length line → text_lines line ≡ line ∷ []
text_lines-last [] h some = absurd (omega arith)
text_lines-last (byte ∷ []) h some = text_lines-other byte [] (byte == 10) refl (h 0 (omega arith))
text_lines-last (byte ∷ next ∷ line) h some =
    text_lines-other byte (next ∷ line) (byte == 10) refl (h 0 (omega arith))
    ∙ ap (λ (l : List (List ℕ)). onto_first byte l) (text_lines-last (next ∷ line) (HasNoLf-tail byte (next ∷ line) h) (omega arith))
