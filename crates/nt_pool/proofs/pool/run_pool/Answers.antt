use Rattle.std.proofs.Common.{◌≡◌, length, arith, subst, sym, ap, ◌∙◌, Vec}
use Rattle.std.specs.List.{AllByRecursion}
use Rattle.crossbeam_queue.specs.Passes.{view}
use Rattle.nt_pool.specs.declared.rule.Hand.{Hand}
use Rattle.nt_pool.specs.Rule.{all_parts}
use Rattle.nt_pool.specs.Pool.{IsWorker}
use Rattle.nt_pool.proofs.Working.{ran-workers, has-all}
use Rattle.nt_pool.proofs.Placed.{all-count}
use Rattle.nt_pool.proofs.pool.run_pool.Goals as goal

pub join_all-requires-clause-seats : goal.join_all-requires-clause-seats
join_all-requires-clause-seats g c =
    let line = c.in-Ok.room.line in
    let jobs = (view c.put_all.new.pass).put in
    subst (λ l. AllByRecursion (IsWorker g.J.Job.does g.J.Job.number line l) c.run_all.new.seats.items) (sym c.seat_all.ensures.pass.1)
    (ran-workers g.J.Job.number g.J.Job.does line jobs c.seat_all.new.seats.items c.run_all.new.seats.items
    (omega (arith, c.run_all.ensures.count)) c.seat_all.ensures.seats.0
    (λ i d h. c.run_all.ensures.works i d (omega (arith, h))))

pub in_order-requires-clause-all : goal.in_order-requires-clause-all
in_order-requires-clause-all g c =
    let w = c.work.new.worker in
    let parts : (view w.pass).parts ≡ all_parts = omega (
      arith,
      c.work.ensures.same.0,
      c.join_all.ensures.parts,
      c.seat_all.ensures.pass.3,
      c.run_all.ensures.count,
    ) in
    let put : (view w.pass).put ≡ c.of-all.result.value.items = c.work.ensures.same.1
    ∙ (c.join_all.ensures.put ∙ (c.seat_all.ensures.pass.1 ∙ (ap (λ (v : Hand _). v.put) c.put_all.ensures.put
    ∙ sym (ap (λ (v : Vec _ _). v.items) c.of-all.ensures)))) in
    has-all g.J.Job.number g.J.Job.does c.in-Ok.room.line c.of-all.result.value.items w c.work.ensures.works c.work.ensures.all parts put

pub in_order-requires-clause-room : goal.in_order-requires-clause-room
in_order-requires-clause-room g c =
    let all = in_order-requires-clause-all g c in
    let count = all-count g.J.Job.does g.J.Job.number c.of-all.result.value.items c.work.new.worker.answers.items all in
    let same = ap (λ (v : Vec _ _). length v.items) c.of-all.ensures in
    (c.in-Ok.ensures.done.0, omega (arith, count, same, c.in-Ok.ensures.done.1))
