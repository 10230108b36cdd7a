use Rattle.std.proofs.Common.{map, drop}
use Rattle.std.specs.Prelude.{IsTrue}
use Rattle.nt_print.specs.Integers.{AreBelow}
use Rattle.nt_print.proofs.lists.are_below.Given as goal

abbrev pub invariant-loop-word : goal.invariant-loop-word
invariant-loop-word g l =
    IsTrue l.all → AreBelow l.end (map g.W.Word.number (drop l.word-index l.words)) → AreBelow l.end (map g.W.Word.number l.words)
