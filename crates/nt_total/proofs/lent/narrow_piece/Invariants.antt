use Rattle.std.proofs.Common.{map, take}
use Rattle.nt_total.specs.Keys.{key}
use Rattle.nt_total.proofs.Narrow.{IsNarrowSoFar}
use Rattle.nt_total.proofs.lent.narrow_piece.Given as goal

abbrev pub invariant-loop-word : goal.invariant-loop-word
invariant-loop-word g l =
    IsNarrowSoFar (map (key l.bias) (map g.W.Narrow.number (take l.word-index l.words))) l.word-index l.sum l.least l.greatest
