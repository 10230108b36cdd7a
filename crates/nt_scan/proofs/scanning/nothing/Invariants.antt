use Rattle.nt_scan.specs.Steps.{AreNothing}
use Rattle.nt_scan.proofs.scanning.nothing.Given as goal

abbrev pub invariant-loop : goal.invariant-loop
invariant-loop l = AreNothing l.counter l.running.items
