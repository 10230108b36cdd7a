use Rattle.std.proofs.Common.{◌≤◌, ◌^◌}
use Rattle.nt_view.specs.Stores.{IsPageRun}
use Rattle.nt_view.proofs.reading.run_len.Given as goal

abbrev pub invariant-loop-next : goal.invariant-loop-next
invariant-loop-next l = record {
  run : IsPageRun l.page l.size l.len;
  few : l.len ≤ 2 ^ 33;
}
