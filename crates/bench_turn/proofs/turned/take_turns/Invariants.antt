use Rattle.std.proofs.Common.{◌≡◌}
use Rattle.nt_turn.specs.Pass.{IsFree}
use Rattle.bench_turn.proofs.turned.take_turns.Given as goal

abbrev pub invariant-loop : goal.invariant-loop
invariant-loop g l = IsFree l.turn l.pass × (l.pass.number ≡ l.fn.pass.number)
