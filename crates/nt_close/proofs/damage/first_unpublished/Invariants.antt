use Rattle.nt_close.specs.Unpublished.{NoneUnpublishedBefore}
use Rattle.nt_close.proofs.damage.first_unpublished.Given as goal

abbrev pub invariant-loop-range : goal.invariant-loop-range
invariant-loop-range l = NoneUnpublishedBefore l.book l.range
