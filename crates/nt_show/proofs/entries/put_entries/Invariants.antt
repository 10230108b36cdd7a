use Rattle.std.proofs.Common.{◌≤◌, ◌-◌, ℕ, List, take, drop}
use Rattle.nt_outside.specs.World.{HostState}
use Rattle.nt_reader.specs.Columns.{given_entries}
use Rattle.nt_show.specs.Ranges.{entry_lines}
use Rattle.nt_show.specs.Gathering.{PrintsSome, OnlyPrints}
use Rattle.nt_show.proofs.entries.put_entries.Given as goal

-- the lines of the entries from one to before another were gathered, and this isn't behind the end
pub record HasGathered (from i to : ℕ) (text : List ℕ) (old : HostState) (waiting : List ℕ) (new : HostState) (left : List ℕ) : Type 0 where
  pub low : from ≤ i
  pub high : i ≤ to
  pub gathers : PrintsSome text old.world waiting new.world left
  pub later : old.faults ≤ new.faults
  pub rest : OnlyPrints old new

-- the lines of the entries so far
abbrev pub invariant-loop-i : goal.invariant-loop-i
invariant-loop-i g l =
    HasGathered l.from l.i l.to (entry_lines (take (l.i - l.from) (drop l.from (given_entries l.cluster)))) (g.H.Host.state l.initial.host)
    l.initial.waiting.items (g.H.Host.state l.host) l.waiting.items

abbrev pub decreases-loop-i : goal.decreases-loop-i
decreases-loop-i g l = l.to - l.i
