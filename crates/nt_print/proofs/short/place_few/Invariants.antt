use Rattle.std.proofs.Common.{◌≡◌, ◌+◌, ◌++◌, length, take}
use Rattle.nt_print.specs.Simple.{AllSimple}
use Rattle.nt_print.proofs.short.place_few.Given as goal

abbrev pub invariant-loop-i : goal.invariant-loop-i
invariant-loop-i l = record {
  same : length l.room ≡ length l.fn.room;
  text : take (l.i + 2) l.room ≡ take 2 l.fn.room ++ take l.i l.bytes;
  simple : AllSimple (take l.i l.bytes);
}
