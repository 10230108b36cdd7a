use Rattle.std.proofs.Common.{arith, ◌+◌, ◌≤◌}
use Rattle.nt_disk_log.proofs.Allowed.{reads-sync}
use Rattle.nt_outside.specs.Log.{Sync}
use Rattle.nt_disk_log.proofs.Picking.{placed-step}
use Rattle.nt_memory.proofs.disk.MemDiskDisk.sync.Goals as goal

pub invariant_of-self-2 : goal.invariant_of-self-2
invariant_of-self-2 c = record {
  reads = reads-sync _ _ c.args.self.now.image.items c.args.self.now.reads c.push.ensures.steps;
  placed = placed-step _ _ Sync c.args.self.now.image.items c.args.self.now.placed c.args.self.now.reads c.push.ensures.steps tt;
  inside = c.args.self.now.inside;
  rows_owed = omega (arith, c.args.self.now.rows_owed, c.push.ensures.owed.rows);
  bytes_owed = omega (arith, c.args.self.now.bytes_owed, c.push.ensures.owed.bytes);
}
