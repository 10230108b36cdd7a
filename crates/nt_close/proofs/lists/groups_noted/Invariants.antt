use Rattle.nt_close.proofs.ListsLeft.{AreMade}
use Rattle.nt_close.proofs.lists.groups_noted.Given as goal

abbrev pub invariant-loop-k : goal.invariant-loop-k
invariant-loop-k l = AreMade l.book l.most l.k l.groups.items
