use Rattle.std.proofs.Common.{refl, arith, ℕ}
use Rattle.nt_total.specs.declared.running.Running.{Running}
use Rattle.nt_scan.proofs.Sums.{part-next}
use Rattle.nt_scan.proofs.adding.add_columns.Goals as goal

pub loop-i-preserved : goal.loop-i-preserved
loop-i-preserved g c =
    part-next c.args.schema.now (λ (id : ℕ). g.C.Columns.elements c.args.cluster.now id) c.args.columns.now c.loop-i.i c.args.running.now
    c.loop-i.running _ c.with_column.result _ _ c.loop-i-test.true c.requires c.loop-i.invariant refl
    (rw c.column_kind-kind.ensures at c.with_column.ensures)

pub returns-clause-each : goal.returns-clause-each
returns-clause-each g c i d e lt = c.loop-i.invariant.done i d e (omega (arith, lt, c.loop-i-test.false))
