use Rattle.std.proofs.Common.{◌≡◌, ◌∙◌, ap, sym, subst, arith, length, take, min, List, ℕ, IfOk}
use Rattle.nt_outside.specs.Log.{Step}
use Rattle.nt_outside.specs.Crash.{LeavesBehind}
use Rattle.nt_disk_log.specs.Logged.{steps_of}
use Rattle.nt_disk_log.specs.Rows.{steps, total_bytes}
use Rattle.nt_disk_log.specs.Left.{Left, left_by, picked_of, picked_file, AreInside}
use Rattle.nt_disk_log.proofs.Picking.{inside-take, picked-left}
use Rattle.nt_disk_log.proofs.Walking.{total_bytes-take, first_steps, such_file}
use Rattle.nt_disk_log.proofs.left.pick_left.Goals as goal

pub after_all-requires-clause-whole : goal.after_all-requires-clause-whole
after_all-requires-clause-whole c = omega (
  arith,
  total_bytes-take c.min-count.result c.deref.result.now,
  ap total_bytes c.deref.ensures.value,
  c.args.log.now.whole,
  ap length c.deref-2.ensures.value,
)

pub after_all-requires-clause-inside : goal.after_all-requires-clause-inside
after_all-requires-clause-inside c =
    let first = first_steps c.args.count c.min-count.result c.args.log.now.rows.items c.deref.result.now c.args.log.now.bytes.items
    c.deref-2.result.now (c.min-count.ensures ∙ ap (min c.args.count) (c.len.ensures ∙ c.args.log.now.rows.ok.0)) c.deref.ensures.value
    c.deref-2.ensures.value in
    subst (AreInside 0) (sym first) (inside-take c.args.count 0 (steps_of c.args.log.now) c.requires)

pub returns-clause-picked : goal.returns-clause-picked
returns-clause-picked c =
    let first = first_steps c.args.count c.min-count.result c.args.log.now.rows.items c.deref.result.now c.args.log.now.bytes.items
    c.deref-2.result.now (c.min-count.ensures ∙ ap (min c.args.count) (c.len.ensures ∙ c.args.log.now.rows.ok.0)) c.deref.ensures.value
    c.deref-2.ensures.value in
    subst (λ (l : Left). IfOk c.pick.result (λ bytes. bytes ≡ picked_of c.args.pick l))
    (c.in_ok-leaves.ensures ∙ ap (λ (log : List Step). left_by log) first) c.pick.ensures

pub returns-clause-leaves : goal.returns-clause-leaves
returns-clause-leaves c =
    let first = first_steps c.args.count c.min-count.result c.args.log.now.rows.items c.deref.result.now c.args.log.now.bytes.items
    c.deref-2.result.now (c.min-count.ensures ∙ ap (min c.args.count) (c.len.ensures ∙ c.args.log.now.rows.ok.0)) c.deref.ensures.value
    c.deref-2.ensures.value in
    such_file c.pick.result (picked_file c.args.pick (take c.args.count (steps_of c.args.log.now)))
    (LeavesBehind (steps_of c.args.log.now) c.args.count)
    (subst (λ (l : Left). IfOk c.pick.result (λ bytes. bytes ≡ picked_of c.args.pick l))
    (c.in_ok-leaves.ensures ∙ ap (λ (log : List Step). left_by log) first) c.pick.ensures)
    (picked-left (steps_of c.args.log.now) c.args.count c.args.pick c.requires)
