-- the values so far fit
use Rattle.std.proofs.Common.{ℕ, ◌<◌, ◌^◌, get_or}
use Rattle.test_tables.proofs.tests.values.all_fit.Given as goal

abbrev pub invariant-loop-value : goal.invariant-loop-value
invariant-loop-value l = (k d : ℕ) → k < l.value-index → get_or l.values k d < 2 ^ l.bits
