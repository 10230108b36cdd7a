use Rattle.std.proofs.Common.{◌-◌, map}
use Rattle.nt_column.specs.Elements.{plain}
use Rattle.nt_trees.specs.TreeAt.{text_from}
use Rattle.nt_moving.proofs.Adding.{SomeAdded}
use Rattle.nt_moving.proofs.texts.move_each_byte.Given as goal

abbrev pub invariant-loop-i : goal.invariant-loop-i
invariant-loop-i g l =
    let t = l.text in
    let es = g.C.Columns.elements l.columns t.column in
    SomeAdded l.column (map plain (text_from es t.from (l.i - t.from))) (map plain (text_from es t.from (t.to - t.from))) l.fn.out l.out
