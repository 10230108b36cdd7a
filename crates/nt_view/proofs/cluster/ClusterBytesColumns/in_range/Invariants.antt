-- the columns so far are in their ranges
use Rattle.std.proofs.Common.{ℕ, ◌<◌, get_or}
use Rattle.nt_column.specs.Column.{Buffer, IsInRange}
use Rattle.nt_view.proofs.cluster.ClusterBytesColumns.in_range.Given as goal

abbrev pub invariant-loop-buffer : goal.invariant-loop-buffer
invariant-loop-buffer l = (k : ℕ) (d : Buffer) → k < l.buffer-index → IsInRange (get_or l.buffer-items k d).column
