use Rattle.std.proofs.Common.{arith}
use Rattle.nt_disk_log.proofs.Walking.{missed_one}
use Rattle.nt_disk_log.proofs.cells.fail_over.Goals as goal

pub returns-then-bytes-eq1-clause-items : goal.returns-then-bytes-eq1-clause-items
returns-then-bytes-eq1-clause-items c =
    missed_one c.args.bytes.now c.args.list.now.items c.args.at (omega (arith, c.if-bytes-eq1.true))
    (omega (arith, c.requires, c.if-bytes-eq1.true, c.args.list.now.ok.0))
