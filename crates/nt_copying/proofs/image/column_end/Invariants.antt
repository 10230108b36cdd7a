use Rattle.std.proofs.Common.{◌≡◌, ◌-◌, ◌<◌, ◌≤◌, ℕ, length, get_or}
use Rattle.nt_view.specs.declared.page_place.PagePlace.{PagePlace}
use Rattle.nt_copying.proofs.image.column_end.Given as goal

-- the pages so far are of the column
abbrev pub invariant-loop-end : goal.invariant-loop-end
invariant-loop-end l = record {
  order : l.from ≤ l.end;
  within : l.end ≤ length l.loaded.pages;
  same : (m : ℕ) (d : PagePlace) → l.from ≤ m → m < l.end → (get_or l.loaded.pages m d).column ≡ l.id;
}

-- the pages that are left
abbrev pub decreases-loop-end : goal.decreases-loop-end
decreases-loop-end l = length l.loaded.pages - l.end
