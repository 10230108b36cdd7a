use Rattle.std.proofs.Common.{◌≡◌, ◌+◌, ◌-◌, ◌++◌, length, take}
use Rattle.nt_print.specs.Simple.{AllSimple}
use Rattle.nt_print.proofs.short.place_eights.Given as goal

abbrev pub invariant-loop-from : goal.invariant-loop-from
invariant-loop-from l = record {
  same : length l.room ≡ length l.fn.room;
  text : take (l.from + 2) l.room ≡ take 2 l.fn.room ++ take l.from l.bytes;
  simple : AllSimple (take l.from l.bytes);
}

abbrev pub decreases-loop-from : goal.decreases-loop-from
decreases-loop-from l = length l.bytes - l.from
