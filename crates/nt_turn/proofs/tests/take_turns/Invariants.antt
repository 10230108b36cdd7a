use Rattle.std.proofs.Common.{◌≡◌}
use Rattle.nt_turn.specs.Pass.{IsFree}
use Rattle.nt_turn.proofs.tests.take_turns.Given as goal

abbrev pub invariant-loop-word : goal.invariant-loop-word
invariant-loop-word g l = IsFree l.turn l.pass × (l.pass.number ≡ l.fn.pass.number)
