use Rattle.std.proofs.Common.{◌≡◌, ◌-◌, [], length}
use Rattle.nt_pagelists.specs.Pages.{column_lists_on}
use Rattle.nt_meta.proofs.reading_columns.push_columns.Given as goal

-- what is left, read behind the columns so far, gives what all gives
abbrev pub invariant-loop-id : goal.invariant-loop-id
invariant-loop-id l = record {
  here : l.id ≡ length l.lists.items;
  read : column_lists_on l.cluster l.columns l.elements (l.count - l.id) l.lists.items l.cur
      ≡ column_lists_on l.cluster l.columns l.elements l.count [] l.fn.cur;
}
