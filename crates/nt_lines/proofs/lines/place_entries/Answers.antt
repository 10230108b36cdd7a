use Rattle.std.proofs.Common.{take, ◌∙◌, arith}
use Rattle.nt_lines.specs.Lines.{entry_trees}
use Rattle.nt_lines.proofs.Placed.{end-placed, kept-below}
use Rattle.nt_lines.proofs.Written.{lines-more, lines-first}
use Rattle.nt_lines.proofs.lines.place_entries.Goals as goal

pub loop-i-init : goal.loop-i-init
loop-i-init g c =
    let trees = entry_trees c.args.lines.now.plans.items (g.C.Columns.elements c.args.lines.now.columns.now) in
    let old = c.args.out.now.items in
    let new = c.place_entry.new.out.items in
    let text = c.in_ok-at.ensures.text in
    record {
      some = omega arith;
      high = omega (arith, c.requires.can.0);
      low = end-placed c.args.from c.in_ok-at.at old new _ c.requires.can.1 text;
      within = c.in_ok-at.ensures.room;
      text = lines-first trees c.args.part.0 (take c.args.from old) (take c.in_ok-at.at new) text;
      kept = c.in_ok-at.ensures.kept;
    }

pub loop-i-preserved : goal.loop-i-preserved
loop-i-preserved g c =
    let v = c.loop-i.invariant in
    let trees = entry_trees c.args.lines.now.plans.items (g.C.Columns.elements c.args.lines.now.columns.now) in
    let at = c.loop-i.at in
    let end = c.in_ok-at-2.at in
    let old = c.loop-i.out.items in
    let new = c.place_entry-in-loop-i.new.out.items in
    let text = c.in_ok-at-2.ensures.text in
    record {
      some = omega (arith, v.some);
      high = omega (arith, c.loop-i-test.true);
      low = omega (arith, v.low, end-placed at end old new _ v.within text);
      within = c.in_ok-at-2.ensures.room;
      text = lines-more trees c.args.part.0 c.loop-i.i (take c.args.from c.args.out.now.items) (take at old) (take end new)
          (omega (arith, v.some)) v.text text;
      kept = kept-below c.args.from at old new v.low c.in_ok-at-2.ensures.kept ∙ v.kept;
    }
