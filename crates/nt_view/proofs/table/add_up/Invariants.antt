use Rattle.std.proofs.Common.{◌≡◌, take}
use Rattle.nt_column.specs.Column.{empty, with_more}
use Rattle.nt_view.specs.Pages.{elements_of_pages}
use Rattle.nt_view.proofs.table.add_up.Given as goal

abbrev pub invariant-loop-i : goal.invariant-loop-i
invariant-loop-i l = l.buffer.column ≡ with_more (empty l.kind) (elements_of_pages l.kind l.store (take l.i l.pages))
