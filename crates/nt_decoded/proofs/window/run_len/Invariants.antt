use Rattle.std.proofs.Common.{◌≤◌, ◌^◌}
use Rattle.nt_decoded.specs.Windows.{IsReadAtOnce}
use Rattle.nt_decoded.proofs.window.run_len.Given as goal

abbrev pub invariant-loop-next : goal.invariant-loop-next
invariant-loop-next l = record {
  run : IsReadAtOnce l.page l.size l.len;
  few : l.len ≤ 2 ^ 33;
}
