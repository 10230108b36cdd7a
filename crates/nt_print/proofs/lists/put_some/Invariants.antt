use Rattle.std.proofs.Common.{map, drop}
use Rattle.nt_trees.specs.Integers.{integer_of}
use Rattle.nt_print.specs.Integers.{integers_text}
use Rattle.nt_print.proofs.Parts.{IsPut}
use Rattle.nt_print.proofs.lists.put_some.Given as goal

abbrev pub invariant-loop-word : goal.invariant-loop-word
invariant-loop-word g l =
    IsPut l.fn.out.items l.out.items l.next (map (integer_of l.bits l.signed) (map g.W.Word.number (drop l.word-index l.words)))
    (integers_text l.mark (map (integer_of l.bits l.signed) (map g.W.Word.number l.words)))
