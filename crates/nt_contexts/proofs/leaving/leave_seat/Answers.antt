use Rattle.std.proofs.Common.{◌≡◌, sym, subst}
use Rattle.nt_commit.specs.Holds.{IsPassOf, HasNoneOut}
use Rattle.nt_contexts.specs.Seats.{DiskPass}
use Rattle.nt_contexts.proofs.Leaves.{joins-seat}
use Rattle.nt_contexts.proofs.leaving.leave_seat.Goals as goal

pub unreachable-requires : goal.unreachable-requires
unreachable-requires g c = c.in_default.not-Some c.requires.seat.pass c.requires.seat.there

pub leave-requires : goal.leave-requires
leave-requires g c =
    let can = c.requires.seat in
    let same : c.in-Some.pass ≡ can.pass = cc (c.in-Some.is, can.there) in
    record {
      first = c.requires.first;
      pass = subst (λ f. IsPassOf c.args.committer.now f) (sym same) can.of;
      none_out = subst (λ (f : DiskPass _). HasNoneOut f.own) (sym same) can.none_out;
    }

pub returns-clause-joins : goal.returns-clause-joins
returns-clause-joins g c =
    joins-seat c.args.committer.now c.args.seat c.args.first.now c.leave.new.first c.in-Some.pass c.requires.first c.in-Some.is
    c.leave.ensures.leaves
