use Rattle.std.proofs.Common.{arith}
use Rattle.nt_scan.proofs.Leaves.{leaf-field}
use Rattle.nt_scan.proofs.Told.{lines-next}
use Rattle.nt_scan.proofs.lines.lines_of.Goals as goal

pub total_told-requires : goal.total_told-requires
total_told-requires c =
    leaf-field c.args.schema.now c.args.leaves.now c.loop-i.i _ c.requires.leaves c.loop-i-test.true

pub loop-i-preserved : goal.loop-i-preserved
loop-i-preserved c =
    lines-next c.args.schema.now c.args.leaves.now c.args.totals.now c.loop-i.i _ _ _ _ _ c.loop-i-test.true c.requires.len
    c.in_ok-told.ensures c.in_ok-write_line.ensures.ok c.loop-i.invariant
