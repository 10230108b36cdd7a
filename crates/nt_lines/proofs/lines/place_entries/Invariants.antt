use Rattle.std.proofs.Common.{◌≡◌, ◌<◌, ◌≤◌, ◌-◌, ◌++◌, length, take}
use Rattle.nt_lines.specs.Lines.{entry_trees, written_lines}
use Rattle.nt_lines.proofs.lines.place_entries.Given as goal

-- the lines so far
abbrev pub invariant-loop-i : goal.invariant-loop-i
invariant-loop-i g l =
    let trees = entry_trees l.lines.plans.items (g.C.Columns.elements l.lines.columns.now) in
    record {
      some : l.first < l.i;
      high : l.i ≤ l.to;
      low : l.from ≤ l.at;
      within : l.at ≤ length l.out.items;
      text : take l.at l.out.items ≡ take l.from l.fn.out.items ++ written_lines trees l.first (l.i - l.first);
      kept : take l.from l.out.items ≡ take l.from l.fn.out.items;
    }

abbrev pub decreases-loop-i : goal.decreases-loop-i
decreases-loop-i g l = l.to - l.i
