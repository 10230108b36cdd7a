use Rattle.std.proofs.Common.{◌≡◌, ◌≤◌, ◌+◌, ◌*◌, length, map, take, drop}
use Rattle.nt_trees.specs.Integers.{integer_of}
use Rattle.nt_print.specs.Integers.{integers_text}
use Rattle.nt_print.proofs.Parts.{IsPut}
use Rattle.nt_lines.proofs.placing.place_any.Given as goal

abbrev pub invariant-loop-word : goal.invariant-loop-word
invariant-loop-word g l = record {
  within : l.at ≤ 26 * l.word-index + l.from;
  same : length l.room ≡ length l.fn.room;
  put : IsPut (take l.from l.fn.room) (take l.at l.room) l.next
      (map (integer_of l.form.0 l.form.1) (map g.W.Word.number (drop l.word-index l.words)))
      (integers_text l.mark (map (integer_of l.form.0 l.form.1) (map g.W.Word.number l.words)));
}
