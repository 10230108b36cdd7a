use Rattle.std.proofs.Common.{arith}
use Rattle.nt_open.proofs.Marking.{marks-set, marks-kept, marks-past, noted_none, noted_some}
use Rattle.nt_open.proofs.uses.mark_column.Goals.{else-at-uses-via-then-at-uses+else-is_none, else-at-uses-via-else-at-uses}
use Rattle.nt_open.proofs.uses.mark_column.Goals as goal

pub returns-then-is_none : goal.returns-then-is_none
returns-then-is_none c =
    marks-set c.args.uses.now c.args.column c.args.of (omega (arith, c.if-at-uses.true))
    (noted_none c.args.uses.now c.args.column c.is_none.result c.is_none.ensures c.if-is_none.true)

pub returns-else-at-uses : goal.returns-else-at-uses
returns-else-at-uses c =
    elim c.else-at-uses.branch [
      | else-at-uses-via-then-at-uses+else-is_none w ↦
          marks-kept c.args.uses.now c.args.column c.args.of.top c.args.of.principal
          (noted_some c.args.uses.now c.args.column w.is_none.result w.is_none.ensures w.if-is_none.false)
      | else-at-uses-via-else-at-uses w ↦
          marks-past c.args.uses.now c.args.column c.args.of.top c.args.of.principal (omega (arith, w.if-at-uses.false))
    ]
