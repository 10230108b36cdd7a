use Rattle.nt_close.specs.Spoiled.{NoneSpoiledBefore}
use Rattle.nt_close.proofs.damage.refuse_damaged.Given as goal

abbrev pub invariant-loop-range : goal.invariant-loop-range
invariant-loop-range l = NoneSpoiledBefore l.book l.range
