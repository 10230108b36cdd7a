-- so many columns are noted
use Rattle.std.proofs.Common.{◌≡◌, length, take}
use Rattle.nt_shred.specs.Places.{lengths_of}
use Rattle.nt_shred.proofs.room.note_each.Given as goal

abbrev pub invariant-loop-column : goal.invariant-loop-column
invariant-loop-column l = record {
  long : length l.marks ≡ length l.out;
  noted : take l.column l.marks ≡ take l.column (lengths_of l.out);
}
