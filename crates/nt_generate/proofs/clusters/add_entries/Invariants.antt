use Rattle.std.proofs.Common.{◌≡◌, ◌≤◌, ◌+◌, ◌-◌, ◌^◌, take}
use Rattle.nt_reader.specs.Columns.{given_entries}
use Rattle.nt_generate.specs.Numbers.{entries_sum}
use Rattle.nt_generate.specs.Totals.{counted_to}
use Rattle.nt_generate.proofs.clusters.add_entries.Given as goal

-- the entries before this one were added
abbrev pub invariant-loop-i : goal.invariant-loop-i
invariant-loop-i l =
    (l.total ≤ 2 ^ 64 - 1) × (l.total ≡ counted_to (l.sum + entries_sum (take l.i (given_entries l.cluster))))
