use Rattle.std.proofs.Common.{◌≡◌, ◌≤◌, ◌+◌, ◌*◌, pos, length, map, take, drop}
use Rattle.nt_print.specs.Integers.{integers_text, AreBelow}
use Rattle.nt_print.proofs.Parts.{IsPut}
use Rattle.nt_print.proofs.blocks.place_each.Given as goal

abbrev pub invariant-loop-word : goal.invariant-loop-word
invariant-loop-word g l = record {
  within : l.at ≤ 7 * l.word-index + l.from;
  same : length l.room ≡ length l.fn.room;
  below : AreBelow 1000000 (map g.W.Word.number (drop l.word-index l.words));
  put : IsPut (take l.from l.fn.room) (take l.at l.room) l.next (map pos (map g.W.Word.number (drop l.word-index l.words)))
      (integers_text l.mark (map pos (map g.W.Word.number l.words)));
}
