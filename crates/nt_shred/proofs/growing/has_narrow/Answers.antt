use Rattle.std.proofs.Common.{◌∙◌, sym, ap}
use Rattle.nt_shred.specs.Frame.{is_narrow}
use Rattle.nt_shred.proofs.Ends.{narrow-here, narrow-later}
use Rattle.nt_shred.proofs.growing.has_narrow.Goals as goal

pub returns-then-is_narrow : goal.returns-then-is_narrow
returns-then-is_narrow c =
    let narrow = sym (c.is_narrow.ensures ∙ ap is_narrow c.kind.ensures) ∙ c.if-is_narrow.true in
    sym (narrow-here c.args.out.now c.loop-column.column c.column.result.now c.column.ensures narrow) ∙ c.loop-column.invariant

pub loop-column-preserved : goal.loop-column-preserved
loop-column-preserved c =
    let wide = sym (c.is_narrow.ensures ∙ ap is_narrow c.kind.ensures) ∙ c.if-is_narrow.false in
    sym (narrow-later c.args.out.now c.loop-column.column c.column.result.now c.column.ensures wide) ∙ c.loop-column.invariant
