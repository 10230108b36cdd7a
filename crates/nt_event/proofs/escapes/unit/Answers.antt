use Rattle.std.proofs.Common.{arith}
use Rattle.json.specs.Text.{code_unit}
use Rattle.nt_event.proofs.escapes.unit.Goals as goal

pub returns-then-a-b-clause-value : goal.returns-then-a-b-clause-value
unfolding code_unit
returns-then-a-b-clause-value c = rw (← c.digit-a.ensures, ← c.digit-b.ensures, ← c.digit-c.ensures, ← c.digit-d.ensures) (grind arith)

pub returns-else-a-b-clause-value : goal.returns-else-a-b-clause-value
unfolding code_unit
returns-else-a-b-clause-value c = rw (← c.digit-a.ensures, ← c.digit-b.ensures, ← c.digit-c.ensures, ← c.digit-d.ensures) (grind arith)
