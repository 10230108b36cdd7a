-- What a disk was asked to do, step by step.
use Rattle.std.specs.Prelude.{ℕ, List, Option}

-- a step: a write that failed keeps what it was asked to write, and an append that failed how many unknown bytes it left; a range
-- is reserved by its start and length, and settled with its bytes where they are known; a sync that failed is no step
pub data Step : Type 0 where
  Write : ℕ → List ℕ → Step
  FailedWrite : ℕ → List ℕ → Step
  Append : List ℕ → Step
  FailedAppend : ℕ → Step
  Reserve : ℕ → ℕ → Step
  Settle : ℕ → ℕ → Option (List ℕ) → Step
  Sync : Step
