use Rattle.std.proofs.Common.{◌≡◌, ◌≤◌}
use Rattle.example_library.proofs.reading.greatest.Given as goal

-- the file keeps its bytes, and its count never falls
abbrev pub invariant-loop-k : goal.invariant-loop-k
invariant-loop-k g l =
    let state = g.F.ReadAt.state in
    ((state l.file).bytes ≡ (state l.fn.file).bytes) × ((state l.fn.file).faults ≤ (state l.file).faults)
