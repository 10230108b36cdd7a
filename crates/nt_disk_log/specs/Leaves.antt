-- What is left of a log in memory.
use Rattle.nt_disk_log.specs.Left.{Left}
use Rattle.nt_disk_log.specs.declared.left.Leaves.{Leaves}

-- the three files so far
abbrev pub left_view : Leaves → Left
left_view l = record { whole = l.whole.items; kept = l.kept.items; newest = l.newest.items }
