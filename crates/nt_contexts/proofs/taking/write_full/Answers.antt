use Rattle.std.proofs.Common.{rules}
use Rattle.nt_contexts.proofs.Writing.{full_written}
use Rattle.nt_contexts.proofs.taking.write_full.Goals as goal

pub returns-then-full : goal.returns-then-full
returns-then-full g c entries taken =
    full_written g.D.Disk.state entries c.args.fill.now c.write_gathered.new.fill c.write_gathered.result c.requires.alive c.requires.some
    (c.if-full.ensures.0 (search rules)) taken c.write_gathered.ensures
