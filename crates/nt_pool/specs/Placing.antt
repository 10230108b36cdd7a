-- Answers that are put in the order of their jobs.
use Rattle.std.specs.Prelude.{◌≡◌, ℕ, ◌+◌, ◌==◌, if◌then◌else◌, List, [], ◌∷◌, ◌++◌}
use Rattle.nt_pool.specs.declared.work.Answer.{Answer}

module _ {D : Type 0} where
  -- how many answers are of this number
  abbrev pub answers_of : ℕ → List (Answer D) → ℕ
  answers_of i [] = 0
  answers_of i (a ∷ rest) = (if a.number == i then 1 else 0) + answers_of i rest

  -- the answer of this number was taken out
  pub record Removes (number : ℕ) (old new : List (Answer D)) (done : D) : Type 0 where
    pub front : List (Answer D)
    pub back : List (Answer D)
    pub answer : Answer D
    pub was : old ≡ front ++ answer ∷ back
    pub now : new ≡ front ++ back
    pub numbered : answer.number ≡ number
    pub is : answer.done ≡ done
