-- what is written lies in the room for it
use Rattle.std.proofs.Common.{◌≤◌, length}
use Rattle.bench_encode.proofs.encode_pages.Given as goal

abbrev pub invariant-loop-i : goal.invariant-loop-i
invariant-loop-i l = l.at ≤ length l.out
