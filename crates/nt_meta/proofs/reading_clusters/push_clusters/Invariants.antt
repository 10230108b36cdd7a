use Rattle.std.proofs.Common.{◌≡◌, [], drop, length}
use Rattle.nt_pagelists.specs.Clusters.{cluster_lists_on}
use Rattle.nt_meta.proofs.reading_clusters.push_clusters.Given as goal

-- what is left, read behind the clusters so far, gives what all gives
abbrev pub invariant-loop-i : goal.invariant-loop-i
invariant-loop-i l = record {
  read : cluster_lists_on l.columns (drop l.i l.clusters) l.elements l.lists.items l.cur
      ≡ cluster_lists_on l.columns l.clusters l.fn.elements [] l.fn.cur;
  same : length l.elements ≡ length l.columns;
}
