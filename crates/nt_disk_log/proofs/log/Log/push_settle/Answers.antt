use Rattle.std.proofs.Common.{arith, ◌+◌, ◌≤◌}
use Rattle.nt_disk_log.proofs.Steps.{total_bytes-pushed, steps-pushed}
use Rattle.nt_disk_log.proofs.log.Log.push_settle.Goals as goal

pub invariant_of-self : goal.invariant_of-self
invariant_of-self c = record {
  whole = total_bytes-pushed c.args.self.now.rows.items _ c.args.self.now.bytes.items _ c.args.bytes.now c.args.row
      c.args.self.now.whole c.push_reserved.ensures.items c.add_reserved.ensures.items c.requires.len;
  row_room = omega (arith, c.push_reserved.ensures.len, c.push_reserved.ensures.capacity, c.args.self.now.row_room, c.requires.owed.row);
  byte_room = omega (
    arith,
    c.add_reserved.ensures.len,
    c.add_reserved.ensures.capacity,
    c.args.self.now.byte_room,
    c.requires.owed.owed,
    c.requires.owed.most,
  );
}

pub returns-clause-steps : goal.returns-clause-steps
returns-clause-steps c =
    steps-pushed c.args.self.now.rows.items _ c.args.self.now.bytes.items _ c.args.bytes.now c.args.row c.args.self.now.whole
    c.push_reserved.ensures.items c.add_reserved.ensures.items c.requires.len
