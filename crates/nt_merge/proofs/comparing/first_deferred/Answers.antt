use Rattle.std.proofs.Common.{sym}
use Rattle.nt_merge.proofs.Unlike.{deferred_found, deferred_next, not_zero, is_zero}
use Rattle.nt_merge.proofs.comparing.first_deferred.Goals as goal

pub returns-then-column-ne0 : goal.returns-then-column-ne0
returns-then-column-ne0 c =
    sym (deferred_found c.args.schema.now.columns c.loop-id.id c.column.result.now c.column.ensures _ c.loop-id.invariant.left
    (not_zero c.column.result.now.first c.if-column-ne0.true))

pub loop-id-preserved : goal.loop-id-preserved
loop-id-preserved c = record {
  left = deferred_next c.args.schema.now.columns c.loop-id.id c.column.result.now c.column.ensures _ c.loop-id.invariant.left
      (is_zero c.column.result.now.first c.if-column-ne0.false);
}
