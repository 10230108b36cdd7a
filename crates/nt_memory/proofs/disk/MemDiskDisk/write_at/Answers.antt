use Rattle.std.proofs.Common.{arith, rules, ◌+◌, ◌≤◌}
use Rattle.nt_disk_log.proofs.Allowed.{reads-write, reads-failed_write}
use Rattle.nt_outside.specs.Log.{Write, FailedWrite}
use Rattle.nt_disk_log.proofs.Picking.{placed-step}
use Rattle.nt_memory.proofs.Holding.{torn_old}
use Rattle.nt_memory.proofs.Ranges.{within_more}
use Rattle.nt_memory.proofs.disk.MemDiskDisk.write_at.Goals as goal

pub invariant_of-self : goal.invariant_of-self
invariant_of-self c = record {
  reads = reads-failed_write _ _ c.args.self.now.image.items c.args.bytes.now c.args.at c.args.self.now.reads c.requires.inside
      c.push.ensures.steps;
  placed = placed-step _ _ (FailedWrite c.args.at c.args.bytes.now) c.args.self.now.image.items c.args.self.now.placed
      c.args.self.now.reads c.push.ensures.steps (omega (arith, c.requires.inside));
  inside = c.args.self.now.inside;
  rows_owed = omega (arith, c.args.self.now.rows_owed, c.push.ensures.owed.rows);
  bytes_owed = omega (arith, c.args.self.now.bytes_owed, c.push.ensures.owed.bytes);
}

pub returns-then-count_call-clause-writes : goal.returns-then-count_call-clause-writes
returns-then-count_call-clause-writes c = record {
  ok = search rules;
  err = torn_old _ _ _ c.args.bytes.now c.args.at c.requires.inside c.push.ensures.steps;
  end = search rules;
  out = search rules;
  spare = search rules;
  cause = search rules;
}

pub invariant_of-self-2 : goal.invariant_of-self-2
invariant_of-self-2 c = record {
  reads = reads-write _ _ c.args.self.now.image.items _ c.args.bytes.now c.args.at c.args.self.now.reads c.push-2.ensures.steps
      c.put_over.ensures.items;
  placed = placed-step _ _ (Write c.args.at c.args.bytes.now) c.args.self.now.image.items c.args.self.now.placed
      c.args.self.now.reads c.push-2.ensures.steps (omega (arith, c.requires.inside));
  inside = within_more _ _ _ c.args.self.now.inside (omega (arith, c.put_over.ensures.len));
  rows_owed = omega (arith, c.args.self.now.rows_owed, c.push-2.ensures.owed.rows);
  bytes_owed = omega (arith, c.args.self.now.bytes_owed, c.push-2.ensures.owed.bytes);
}
