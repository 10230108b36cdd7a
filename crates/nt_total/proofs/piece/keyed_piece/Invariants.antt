use Rattle.std.proofs.Common.{map, take}
use Rattle.nt_total.specs.Keys.{key}
use Rattle.nt_total.proofs.Wide.{IsWideSoFar}
use Rattle.nt_total.proofs.piece.keyed_piece.Given as goal

abbrev pub invariant-loop-element : goal.invariant-loop-element
invariant-loop-element l =
    IsWideSoFar (map (key l.bias) (take l.element-index l.elements)) l.element-index l.low l.high l.least l.greatest
