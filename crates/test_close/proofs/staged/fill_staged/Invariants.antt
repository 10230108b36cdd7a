use Rattle.std.proofs.Common.{◌≡◌, []}
use Rattle.nt_memory.specs.Disk.{state_of}
use Rattle.nt_close.specs.Unpublished.{IsAllUnpublished}
use Rattle.test_close.specs.Notes.{HasNotes}
use Rattle.test_close.proofs.staged.fill_staged.Given as goal

abbrev pub invariant-loop-context : goal.invariant-loop-context
invariant-loop-context l = record {
  unpublished : IsAllUnpublished l.book;
  notes : HasNotes l.schema l.params l.book;
  out : (state_of l.disk).out ≡ [];
}
