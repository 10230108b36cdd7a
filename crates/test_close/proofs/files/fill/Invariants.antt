use Rattle.std.proofs.Common.{◌≡◌, []}
use Rattle.nt_memory.specs.Disk.{state_of}
use Rattle.test_close.specs.Notes.{HasNotes}
use Rattle.test_close.proofs.files.fill.Given as goal

abbrev pub invariant-loop-k : goal.invariant-loop-k
invariant-loop-k l = record {
  notes : HasNotes l.schema l.params l.book;
  out : (state_of l.disk).out ≡ [];
}
