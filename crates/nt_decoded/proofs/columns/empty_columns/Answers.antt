use Rattle.std.proofs.Common.{arith}
use Rattle.nt_decoded.proofs.ColumnKinds.{kinds-more, kinds-all}
use Rattle.nt_decoded.proofs.columns.empty_columns.Goals as goal

pub loop-id-preserved : goal.loop-id-preserved
loop-id-preserved c =
    kinds-more c.args.schema.now.columns c.loop-id.id c.column.result.now c.loop-id.kinds.items c.push.new.self.items c.kept_kind.result
    c.loop-id.invariant c.column.ensures
    (omega (arith, c.loop-id-test.true, c.columns-id-end.ensures)) c.kept_kind.ensures c.in_ok-push.ensures.items

pub returns : goal.returns
returns c =
    kinds-all c.args.schema.now.columns c.loop-id.id c.loop-id.kinds.items _ _ c.loop-id.invariant
    (omega (arith, c.loop-id-test.false, c.columns-id-end.ensures)) c.deref.ensures.value c.in_ok-new.ensures
