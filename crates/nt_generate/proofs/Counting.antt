-- Sums that stand still at the last number of their type.
use Rattle.std.proofs.Common.{◌≡◌, ℕ, ◌+◌, arith}
use Rattle.nt_generate.specs.Totals.{counted_to}

pub counted_to-add : (a b : ℕ) → counted_to (counted_to a + b) ≡ counted_to (a + b)
counted_to-add a b = omega arith

-- a sum to which one more was added, and the rest
pub counted_on : (total next more rest all whole : ℕ) → next ≡ counted_to (total + more) → all ≡ more + rest
    → counted_to (total + all) ≡ whole → counted_to (next + rest) ≡ whole
counted_on total next more rest all whole next_is all_is is = omega (arith, next_is, all_is, is)
