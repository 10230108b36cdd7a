use Rattle.std.proofs.Common.{◌≡◌, ◌<◌, ◌≤◌, ◌-◌, length, take, get_or}
use Rattle.nt_view.specs.declared.page_place.PagePlace.{PagePlace}
use Rattle.nt_view.specs.Stores.{lens_of}
use Rattle.nt_view.specs.Table.{IsLaidTo}
use Rattle.nt_view.proofs.table.add_columns.Given as goal

abbrev pub invariant-loop-i : goal.invariant-loop-i
invariant-loop-i l = record {
  within : l.i ≤ length l.pages;
  place : l.at ≡ lens_of (take l.i l.pages);
  laid : IsLaidTo l.store l.pages l.i l.table;
  next : (d : PagePlace) → l.i < length l.pages → length l.table.columns.items ≤ (get_or l.pages l.i d).column;
}

abbrev pub decreases-loop-i : goal.decreases-loop-i
decreases-loop-i l = length l.pages - l.i
