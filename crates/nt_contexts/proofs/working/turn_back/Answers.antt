use Rattle.std.proofs.Common.{ap, length, arith}
use Rattle.nt_contexts.proofs.Leaves.{turned}
use Rattle.nt_contexts.proofs.working.turn_back.Goals as goal

pub leave_all-requires : goal.leave_all-requires
leave_all-requires g c = record {
  first = c.requires.first.of;
  seats = c.requires.seats;
  room = omega (arith, c.requires.room.1, ap length c.requires.room.0);
}

pub returns : goal.returns
returns g c =
    turned c.args.committer.now 0 c.args.seats.items c.args.first.now c.leave_all.new.first
    c.args.back.items c.leave_all.new.back.items
    c.args.sources.items c.append-joined.new.self.items c.leave_all.result c.leave_all.ensures.leave c.requires.room.0 c.in-Ok.ensures.items
