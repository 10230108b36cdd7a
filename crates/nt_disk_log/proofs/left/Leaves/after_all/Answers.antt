use Rattle.std.proofs.Common.{◌∙◌, ap, arith, ℕ, ◌+◌, take, drop}
use Rattle.nt_disk_log.proofs.Walking.{walk}
use Rattle.nt_disk_log.proofs.left.Leaves.after_all.Goals as goal

pub loop-i-preserved : goal.loop-i-preserved
loop-i-preserved c =
    walk c.loop-i.leaves c.in_ok-leaves.leaves c.loop-i.i (c.loop-i.i + 1) _ c.args.rows.now c.args.bytes.now c.loop-i.rest.now _ _
    c.loop-i-test.true (omega arith)
    (c.split_at.ensures.front ∙ ap (λ (n : ℕ). take n c.loop-i.rest.now) c.kept.ensures)
    (c.split_at.ensures.back ∙ ap (λ (n : ℕ). drop n c.loop-i.rest.now) c.kept.ensures) c.in_ok-leaves.ensures c.loop-i.invariant
