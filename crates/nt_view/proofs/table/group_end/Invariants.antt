use Rattle.std.proofs.Common.{◌≡◌, ◌<◌, ◌≤◌, ◌-◌, ℕ, length, get_or}
use Rattle.nt_view.specs.declared.page_place.PagePlace.{PagePlace}
use Rattle.nt_view.proofs.table.group_end.Given as goal

abbrev pub invariant-loop-end : goal.invariant-loop-end
invariant-loop-end l = record {
  some : l.i < l.end;
  within : l.end ≤ length l.pages;
  same : (m : ℕ) (d : PagePlace) → l.i ≤ m → m < l.end → (get_or l.pages m d).column ≡ l.column;
}

abbrev pub decreases-loop-end : goal.decreases-loop-end
decreases-loop-end l = length l.pages - l.end
