use Rattle.std.proofs.Common.{◌≡◌, ◌≤◌, ◌^◌, drop}
use Rattle.nt_reader.specs.Outlines.{numbered_cluster}
use Rattle.nt_scan.specs.Counts.{added_up, cluster_counts}
use Rattle.nt_scan.proofs.Counts.{pages_counts}
use Rattle.nt_scan.proofs.counting.cluster_counted.Given as goal

abbrev pub invariant-loop-i : goal.invariant-loop-i
invariant-loop-i l =
    (l.count ≤ 2 ^ 60) × (added_up l.before (cluster_counts l.reader.table l.column (numbered_cluster l.reader l.k))
    ≡ added_up l.count (drop l.i (pages_counts l.reader.table l.column (numbered_cluster l.reader l.k))))
