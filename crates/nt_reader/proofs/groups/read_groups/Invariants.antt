use Rattle.std.proofs.Common.{◌≡◌, ◌≤◌, ◌<◌, ◌^◌, ℕ, List, drop, length, Some}
use Rattle.nt_file_meaning.specs.Outlines.{groups_clusters, no_progress}
use Rattle.nt_reader.specs.Steps.{clusters_behind, AreCounted}
use Rattle.nt_reader.proofs.groups.read_groups.Given as goal

-- the file serves, and the groups that are left, behind the clusters so far, give what all give
abbrev pub invariant-loop-i : goal.invariant-loop-i
invariant-loop-i g l =
    let state = g.F.ReadAt.state in
    record {
      same : (state l.file).bytes ≡ (state l.initial.file).bytes;
      later : (state l.initial.file).faults ≤ (state l.file).faults;
      columns : length l.so_far.progress.elements ≡ length l.known.columns.now;
      counted : AreCounted l.so_far.progress.entries l.so_far.progress.clusters (drop l.i l.groups);
      listed : length l.so_far.clusters.items ≡ l.so_far.progress.clusters;
      few : l.so_far.progress.clusters < 2 ^ 32;
      read : (told : List ℕ) → (state l.initial.file).bytes ≡ Some told
          → groups_clusters told l.known.sum l.known.columns.now l.groups (no_progress (length l.known.columns.now))
          ≡ clusters_behind l.known.sum l.known.columns.now (drop l.i l.groups) l.so_far.progress l.so_far.clusters.items told;
    }
