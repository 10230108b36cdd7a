use Rattle.std.proofs.Common.{◌≡◌, ◌∙◌, ◌+◌, ◌<◌, ◌∷◌, ◌++◌, [], sym, refl, subst, length, arith}
use Rattle.std.proofs.Common.{rules}
use Rattle.std.proofs.lemmas.Bool.Decides.{nat_tests}
use Rattle.nt_contexts.proofs.Lists.{first_removed}
use Rattle.nt_contexts.proofs.Leaves.{StillLeaves, leaving-begins, leaving-goes-on, first-can-leave, leaving-ends}
use Rattle.nt_contexts.proofs.leaving.leave_all.Goals as goal

pub loop-seats-init : goal.loop-seats-init
loop-seats-init g c = record {
  leaves = leaving-begins c.args.committer.now c.args.clusters c.args.seats.items c.args.first.now c.args.back.now.items
      c.requires.first c.requires.seats.0;
  counted = omega arith;
  room = omega (arith, c.requires.room);
  capacity = refl;
}

pub leave_seat-source-requires : goal.leave_seat-source-requires
leave_seat-source-requires g c =
    let ws = c.loop-seats.seats.items in
    let some : 0 < length ws = search rules in
    let is : ws ≡ c.remove-seat.result ∷ c.remove-seat.new.self.items =
    first_removed ws c.remove-seat.new.self.items c.remove-seat.result some c.remove-seat.ensures.value c.remove-seat.ensures.items in
    record {
      first = c.loop-seats.invariant.leaves.of;
      seat = first-can-leave c.args.committer.now c.args.clusters c.args.seats.items c.args.first.now c.args.back.now.items ws
          c.remove-seat.new.self.items c.remove-seat.result
          c.loop-seats.first c.loop-seats.back.items c.loop-seats.input c.loop-seats.answer is c.loop-seats.invariant.leaves;
    }

pub loop-seats-preserved : goal.loop-seats-preserved
loop-seats-preserved g c =
    let i = c.loop-seats.invariant in
    let ws = c.loop-seats.seats.items in
    let some : 0 < length ws = search rules in
    let is : ws ≡ c.remove-seat.result ∷ c.remove-seat.new.self.items =
    first_removed ws c.remove-seat.new.self.items c.remove-seat.result some c.remove-seat.ensures.value c.remove-seat.ensures.items in
    let next = leaving-goes-on c.args.committer.now c.args.clusters c.args.seats.items c.args.first.now c.args.back.now.items ws
    c.remove-seat.new.self.items c.remove-seat.result
    c.loop-seats.first c.leave_seat-source.new.first c.loop-seats.back.items c.leave_seat-source.result.0 c.loop-seats.input
    c.loop-seats.answer c.leave_seat-source.result.1 is i.leaves
    c.leave_seat-source.ensures.joins c.leave_seat-source.ensures.source c.leave_seat-source.ensures.ended in
    record {
      leaves = subst (λ l. StillLeaves c.args.committer.now c.args.clusters c.args.seats.items c.args.first.now c.args.back.now.items
          c.remove-seat.new.self.items
          c.leave_seat-source.new.first l (c.loop-seats.input + 1) c.and_then-answer.result) (sym c.push_reserved.ensures.items)
          (subst (λ a. StillLeaves c.args.committer.now c.args.clusters c.args.seats.items c.args.first.now c.args.back.now.items
          c.remove-seat.new.self.items
          c.leave_seat-source.new.first (c.loop-seats.back.items ++ c.leave_seat-source.result.0 ∷ []) (c.loop-seats.input + 1) a) (sym
          c.and_then-answer.ensures) next);
      counted = omega (arith, i.counted, c.remove-seat.ensures.len);
      room = omega (arith, i.room, c.remove-seat.ensures.len, c.push_reserved.ensures.len, c.push_reserved.ensures.capacity);
      capacity = c.push_reserved.ensures.capacity ∙ i.capacity;
    }

pub returns-clause-leave : goal.returns-clause-leave
returns-clause-leave g c =
    let ws = c.loop-seats.seats.items in
    let none : length ws ≡ 0 = grind (arith, nat_tests, c.loop-seats-test.false, c.is_empty.ensures) in
    leaving-ends c.args.committer.now c.args.clusters c.args.seats.items c.args.first.now c.args.back.now.items ws c.loop-seats.first
    c.loop-seats.back.items c.loop-seats.input
    c.loop-seats.answer none c.loop-seats.invariant.leaves

pub returns-clause-capacity : goal.returns-clause-capacity
returns-clause-capacity g c = c.loop-seats.invariant.capacity
