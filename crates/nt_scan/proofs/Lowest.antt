-- The lowest column that has too many elements.
use Rattle.std.proofs.Common.{◌≡◌, ℕ, ◌+◌, ◌<◌, ◌≤◌, Bool, true, false, cond, List, [], ◌∷◌, ◌++◌, Option, Some, None, Ok, Err}
use Rattle.std.proofs.Common.{refl, sym, subst, ◌∙◌, arith}
use Rattle.std.specs.Prelude.{nat_le}
use Rattle.std.specs.List.{All, Contains}
use Rattle.std.proofs.lemmas.List.Elements.{All-nil, All-cons, All-append, All-weaker, Contains-append_left, Contains-append_right}
use Rattle.std.proofs.lemmas.Bool.{leb-true, leb-false}
use Rattle.nt_file_meaning.specs.Outlines.{Outline}
use Rattle.nt_scan.specs.Counts.{HasFewEnough, IsFirstTooMany, column_counted}
use Rattle.nt_scan.specs.Steps.{lower_of}

one-all : (P : ℕ → Type 0) (c : ℕ) → P c → All P (c ∷ [])
one-all P c h = All-cons P c [] h (All-nil P)

one-in : (c : ℕ) → Contains (c ∷ []) c
one-in c = (0, omega arith, refl)

pub lowest-none : (o : Outline) → IsFirstTooMany o [] None
lowest-none o = All-nil (λ c. HasFewEnough o c)

-- a column that has few enough
pub lowest-fits : (o : Outline) (cs : List ℕ) (c : ℕ) (x : Option (ℕ × ℕ)) → HasFewEnough o c → IsFirstTooMany o cs x
    → IsFirstTooMany o (cs ++ c ∷ []) x
lowest-fits o cs c None fits all = All-append (λ d. HasFewEnough o d) cs (c ∷ []) all (one-all (λ d. HasFewEnough o d) c fits)
lowest-fits o cs c (Some found) fits h = (
  Contains-append_left cs (c ∷ []) found.0 h.0,
  h.1,
  All-append (λ d. d < found.0 → HasFewEnough o d) cs (c ∷ []) h.2 (one-all (λ d. d < found.0 → HasFewEnough o d) c (λ lt. fits)),
)

-- one that has too many
pub lowest-over : (o : Outline) (cs : List ℕ) (c r : ℕ) (x : Option (ℕ × ℕ)) → column_counted o c ≡ Err r → IsFirstTooMany o cs x
    → IsFirstTooMany o (cs ++ c ∷ []) (Some (lower_of x (c, r)))
lowest-over o cs c r None over all = (
  Contains-append_right cs (c ∷ []) c (one-in c),
  over,
  All-append (λ d. d < c → HasFewEnough o d) cs (c ∷ [])
      (All-weaker (λ d. HasFewEnough o d) (λ d. d < c → HasFewEnough o d) (λ d fits lt. fits) cs all)
      (one-all (λ d. d < c → HasFewEnough o d) c (λ lt. absurd (omega (arith, lt)))),
)
lowest-over o cs c r (Some found) over h = by_order (nat_le found.0 c) refl
  where
    by_order : (b : Bool) → nat_le found.0 c ≡ b → IsFirstTooMany o (cs ++ c ∷ []) (Some (cond b found (c, r)))
    by_order true is = (
      Contains-append_left cs (c ∷ []) found.0 h.0,
      h.1,
      All-append (λ d. d < found.0 → HasFewEnough o d) cs (c ∷ []) h.2
          (one-all (λ d. d < found.0 → HasFewEnough o d) c (λ lt. absurd (omega (arith, lt, leb-true found.0 c is)))),
    )
    by_order false is = (
      Contains-append_right cs (c ∷ []) c (one-in c),
      over,
      All-append (λ d. d < c → HasFewEnough o d) cs (c ∷ [])
          (All-weaker (λ d. d < found.0 → HasFewEnough o d) (λ d. d < c → HasFewEnough o d)
          (λ d fits lt. fits (omega (arith, lt, leb-false found.0 c is))) cs h.2)
          (one-all (λ d. d < c → HasFewEnough o d) c (λ lt. absurd (omega (arith, lt)))),
    )
