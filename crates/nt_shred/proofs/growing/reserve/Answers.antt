use Rattle.std.proofs.Common.{arith}
use Rattle.nt_shred.proofs.Sets.{same-length, frame-kept}
use Rattle.nt_shred.proofs.Ends.{grown-next, grown-ends}
use Rattle.nt_shred.proofs.growing.reserve.Goals as goal

pub loop-column-preserved : goal.loop-column-preserved
loop-column-preserved c =
    grown-next c.args.out.now c.loop-column.out c.reserve_column.new.out c.args.more c.loop-column.column c.loop-column.invariant
    c.reserve_column.ensures.columns c.reserve_column.ensures.kept c.in_ok-reserve_column.ensures.ok

pub returns-clause-ok : goal.returns-clause-ok
returns-clause-ok c =
    let same = same-length c.args.out.now c.loop-column.out (frame-kept c.args.out.now c.loop-column.out c.loop-column.invariant.same) in
    grown-ends c.args.out.now c.loop-column.out c.args.more c.loop-column.column c.loop-column.invariant
    (omega (arith, same, c.columns-column-end.ensures, c.loop-column-test.false))
