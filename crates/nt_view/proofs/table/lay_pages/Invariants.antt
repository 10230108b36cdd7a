use Rattle.std.proofs.Common.{◌≡◌, ◌+◌, ◌++◌, take}
use Rattle.nt_view.specs.Stores.{lens_of}
use Rattle.nt_view.specs.Table.{laid_from, elements_counted}
use Rattle.nt_view.proofs.table.lay_pages.Given as goal

abbrev pub invariant-loop-page : goal.invariant-loop-page
invariant-loop-page l = record {
  places : l.places.items ≡ l.initial.places.items ++ laid_from 0 l.at (take l.page-index l.pages);
  first : l.first ≡ elements_counted (take l.page-index l.pages);
  here : l.here ≡ l.at + lens_of (take l.page-index l.pages);
}
