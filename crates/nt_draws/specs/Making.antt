-- How much may be made.
use Rattle.std.specs.Prelude.{ℕ, ◌≤◌}

-- the most contexts
abbrev pub max_contexts : ℕ
max_contexts = 64

-- the most events of a context
abbrev pub max_events : ℕ
max_events = 1000000

-- the largest number of a first context
abbrev pub max_seed : ℕ
max_seed = 1000000

-- a file has a context, and no more than these
abbrev pub AreContexts : ℕ → Type 0
AreContexts contexts = (1 ≤ contexts) × (contexts ≤ max_contexts)
