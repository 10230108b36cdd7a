use Rattle.std.specs.Prelude.{drop}
use Rattle.nt_layout.specs.Finished.{spans}
use Rattle.nt_close.specs.Making.{spans_left}
use Rattle.nt_close.proofs.ListsLeft.{LeadsTo}
use Rattle.nt_close.proofs.lists.put_lists.Given as goal

abbrev pub invariant-loop-k : goal.invariant-loop-k
invariant-loop-k l =
    LeadsTo l.header_sum l.book l.params.limits (spans_left l.book l.params.group) (drop l.k (spans l.book l.params.group))
    l.initial.lists.bytes.items l.lists.bytes.items l.initial.lists.groups.items l.lists.groups.items
