use Rattle.std.proofs.Common.{◌<◌, length, ◌+◌, arith, subst, sym}
use Rattle.nt_pool.proofs.Placed.{Placed, placing-begins, placing-goes-on}
use Rattle.nt_pool.proofs.placing.in_order.Goals as goal

pub loop-number-init : goal.loop-number-init
loop-number-init g c =
    let jobs = c.args.jobs.value.items in
    let begun = placing-begins g.J.Job.does g.J.Job.number jobs c.args.answers.items c.requires.numbered c.requires.all in
    let count = begun.count in
    record {
      placed = subst (λ d. Placed g.J.Job.does g.J.Job.number jobs 0 c.args.answers.items d) (sym c.requires.room.0) begun;
      all = omega (arith, count, c.len-count.ensures);
      room = omega (arith, c.len-count.ensures, c.requires.room.1);
    }

pub loop-number-preserved : goal.loop-number-preserved
loop-number-preserved g c =
    let jobs = c.args.jobs.value.items in
    let i = c.loop-number.invariant in
    let all = i.all in
    let more : c.loop-number.number < length jobs = omega (arith, all, c.loop-number-test.true) in
    let on = placing-goes-on g.J.Job.does g.J.Job.number jobs c.loop-number.number c.loop-number.answers.items
    c.take_number-one.new.left.items c.loop-number.done.items
    c.take_number-one.result more i.placed c.take_number-one.ensures in
    record {
      placed = subst (λ d. Placed g.J.Job.does g.J.Job.number jobs (c.loop-number.number + 1) c.take_number-one.new.left.items d)
          (sym c.push_reserved.ensures.items) on;
      all = all;
      room = let r = i.room in omega (arith, r, c.push_reserved.ensures.capacity);
    }
