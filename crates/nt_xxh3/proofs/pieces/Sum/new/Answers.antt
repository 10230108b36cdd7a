use Rattle.std.proofs.Common.{arith}
use Rattle.nt_xxh3.specs.Pieces.{WasGiven}
use Rattle.nt_xxh3.proofs.Kept.{IsKept_start}
use Rattle.nt_xxh3.proofs.pieces.Sum.new.Goals as goal

pub returns-clause-holds : goal.returns-clause-holds
unfolding WasGiven
returns-clause-holds c = (
  IsKept_start c.new.result.words c.new-2.result c.new.result.taken c.new.ensures.words c.new.ensures.taken c.new-2.ensures.value,
  λ some. absurd (omega arith),
  λ some. absurd (omega arith),
)
