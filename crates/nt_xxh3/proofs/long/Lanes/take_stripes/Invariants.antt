-- the stripes so far are taken
use Rattle.std.proofs.Common.{◌+◌}
use Rattle.nt_xxh3.specs.Long.{TakesStripes}
use Rattle.nt_xxh3.proofs.long.Lanes.take_stripes.Given as goal

abbrev pub invariant-loop-k : goal.invariant-loop-k
invariant-loop-k l = TakesStripes l.fn.self.words l.before l.bytes l.words (l.before + l.k)
