use Rattle.std.proofs.Common.{◌*◌, ◌≤◌, map, drop}
use Rattle.nt_trees.specs.Integers.{integer_of}
use Rattle.nt_print.specs.Integers.{integers_text}
use Rattle.nt_print.proofs.Parts.{IsPut}
use Rattle.nt_print.proofs.lists.put_integers.Given as goal

abbrev pub invariant-loop-i : goal.invariant-loop-i
invariant-loop-i g l = record {
  reached : l.i ≤ l.blocks;
  put : IsPut l.fn.out.items l.out.items l.mark (map (integer_of l.bits l.signed) (map g.W.Word.number (drop (8 * l.i) l.words)))
      (integers_text l.first (map (integer_of l.bits l.signed) (map g.W.Word.number l.words)));
}
