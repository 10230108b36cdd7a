use Rattle.std.proofs.Common.{◌≡◌}
use Rattle.nt_memory.specs.Planned.{pen_lists}
use Rattle.nt_memory.proofs.host.MemHost.calls_of_pens.Given as goal

abbrev pub invariant-loop-number : goal.invariant-loop-number
invariant-loop-number l = l.pens.items ≡ pen_lists l.number l.self.plan.planned.items
