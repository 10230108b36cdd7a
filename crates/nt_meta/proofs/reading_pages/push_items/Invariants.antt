use Rattle.std.proofs.Common.{◌≡◌, ◌-◌, ◌*◌, ◌≤◌, ◌^◌, []}
use Rattle.nt_pagelists.specs.Pages.{page_items_on}
use Rattle.nt_pagelists.specs.Columns.{paged_elements}
use Rattle.nt_meta.proofs.reading_pages.push_items.Given as goal

-- what is left, read behind the pages so far, gives what all gives
abbrev pub invariant-loop : goal.invariant-loop
invariant-loop l = record {
  read : page_items_on l.cluster l.column (l.count - l.counter) l.pages.items l.cur ≡ page_items_on l.cluster l.column l.count [] l.fn.cur;
  elements : l.elements ≡ paged_elements l.pages.items;
  few : l.elements ≤ l.counter * 2 ^ 32;
}
