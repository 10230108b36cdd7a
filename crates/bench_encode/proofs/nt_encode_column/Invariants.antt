-- the pages of a round lie in the room for them
use Rattle.std.proofs.Common.{◌≤◌, length}
use Rattle.bench_encode.proofs.nt_encode_column.Given as goal

abbrev pub invariant-loop : goal.invariant-loop
invariant-loop l = l.size ≤ length l.out
