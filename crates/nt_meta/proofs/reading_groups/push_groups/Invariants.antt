use Rattle.std.proofs.Common.{◌≡◌, ◌-◌, []}
use Rattle.nt_pagelists.specs.ClusterGroups.{groups_on}
use Rattle.nt_meta.proofs.reading_groups.push_groups.Given as goal

-- what is left, read behind the groups so far, gives what all gives
abbrev pub invariant-loop : goal.invariant-loop
invariant-loop l = record {
  read : groups_on (l.count - l.counter) l.entries l.clusters l.groups.items l.cur ≡ groups_on l.count 0 0 [] l.fn.cur;
}
