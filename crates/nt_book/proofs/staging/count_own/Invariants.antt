use Rattle.std.proofs.Common.{◌≡◌, ◌≤◌, take}
use Rattle.nt_book.specs.Keeping.{own_count}
use Rattle.nt_book.proofs.staging.count_own.Given as goal

abbrev pub invariant-loop-row : goal.invariant-loop-row
invariant-loop-row l = (l.count ≡ own_count (take l.row-index l.rows) l.context) × (l.count ≤ l.row-index)
