use Rattle.std.proofs.Common.{arith, refl, ◌+◌, ◌≤◌}
use Rattle.nt_disk_log.proofs.Allowed.{reads-append, reads-failed_append}
use Rattle.nt_outside.specs.Log.{Append, FailedAppend}
use Rattle.nt_disk_log.proofs.Picking.{placed-step}
use Rattle.nt_memory.proofs.Ranges.{within_more}
use Rattle.nt_memory.proofs.disk.MemDiskDisk.append.Goals as goal

pub invariant_of-self : goal.invariant_of-self
invariant_of-self c = record {
  reads = reads-failed_append _ _ c.args.self.now.image.items _ _ _ c.args.self.now.reads c.push.ensures.steps refl
      c.add_reserved.ensures.items;
  placed = placed-step _ _ (FailedAppend _) c.args.self.now.image.items c.args.self.now.placed c.args.self.now.reads
      c.push.ensures.steps tt;
  inside = within_more _ _ _ c.args.self.now.inside (omega (arith, c.add_reserved.ensures.len));
  rows_owed = omega (arith, c.args.self.now.rows_owed, c.push.ensures.owed.rows);
  bytes_owed = omega (arith, c.args.self.now.bytes_owed, c.push.ensures.owed.bytes);
}

pub invariant_of-self-2 : goal.invariant_of-self-2
invariant_of-self-2 c = record {
  reads = reads-append _ _ c.args.self.now.image.items _ c.args.bytes.now c.args.self.now.reads c.push-2.ensures.steps
      c.add_reserved-2.ensures.items;
  placed = placed-step _ _ (Append c.args.bytes.now) c.args.self.now.image.items c.args.self.now.placed c.args.self.now.reads
      c.push-2.ensures.steps tt;
  inside = within_more _ _ _ c.args.self.now.inside (omega (arith, c.add_reserved-2.ensures.len));
  rows_owed = omega (arith, c.args.self.now.rows_owed, c.push-2.ensures.owed.rows);
  bytes_owed = omega (arith, c.args.self.now.bytes_owed, c.push-2.ensures.owed.bytes);
}
