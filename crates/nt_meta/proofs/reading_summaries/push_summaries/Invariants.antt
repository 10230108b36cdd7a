use Rattle.std.proofs.Common.{◌≡◌, ◌+◌, ◌-◌, ◌*◌, ◌<◌, ◌^◌, []}
use Rattle.nt_pagelists.specs.Clusters.{summaries_on}
use Rattle.nt_meta.proofs.reading_summaries.push_summaries.Given as goal

-- what is left, read behind the summaries so far, gives what all gives
abbrev pub invariant-loop-i : goal.invariant-loop-i
invariant-loop-i l = record {
  read : summaries_on (l.count - l.i) (l.number + l.i) l.so_far l.clusters.items l.cur
      ≡ summaries_on l.count l.number l.entries [] l.fn.cur;
  few : l.so_far < 2 ^ 64 + l.i * 2 ^ 56;
}
