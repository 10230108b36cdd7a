use Rattle.std.proofs.Common.{◌≡◌, ◌≤◌, ◌+◌, ◌-◌, ◌*◌, ◌∷◌, [], ◌++◌, length, map, take}
use Rattle.nt_trees.specs.TreeAt.{trees_from}
use Rattle.nt_lines.specs.Lent.{option_tree}
use Rattle.nt_print.proofs.Arrays.{IsBegun}
use Rattle.nt_lines.proofs.options.place_options.Given as goal

-- the integers so far
abbrev pub invariant-loop-i : goal.invariant-loop-i
invariant-loop-i g l =
    let tree = option_tree l.options.ends.now (map g.W.Word.number l.options.words.now) l.options.form.0 l.options.form.1 in
    record {
      low : l.from ≤ l.i;
      high : l.i ≤ l.to;
      within : l.end ≤ 26 * (l.i - l.from) + l.at + 1;
      same : length l.room ≡ length l.fn.room;
      begun : IsBegun (take l.at l.fn.room ++ l.mark ∷ []) (take l.end l.room) l.later (trees_from tree l.i (l.to - l.i))
          (trees_from tree l.from (l.to - l.from));
    }
