use Rattle.std.proofs.Common.{◌≡◌, ◌≤◌, ◌^◌, drop}
use Rattle.std.specs.List.{flat_map}
use Rattle.nt_scan.specs.Counts.{added_up, cluster_counts, column_counted}
use Rattle.nt_scan.proofs.counting.column_counted.Given as goal

abbrev pub invariant-loop-k : goal.invariant-loop-k
invariant-loop-k l =
    (l.count ≤ 2 ^ 60) × (column_counted l.reader l.column
    ≡ added_up l.count (flat_map (cluster_counts l.reader.table l.column) (drop l.k l.reader.clusters)))
