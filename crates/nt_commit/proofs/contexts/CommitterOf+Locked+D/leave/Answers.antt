use Rattle.nt_commit.proofs.Holding.{KeptBy, kept_from, kept_by, left_by, still}
use Rattle.nt_commit.proofs.contexts.CommitterOf+Locked+D.leave.Goals as goal
use Rattle.nt_commit.proofs.contexts.CommitterOf+Locked+D.leave.Goals.{in-Some, in-None}

pub returns : goal.returns
returns g c =
    let kept =
    elim c.match-pen.branch as (λ b. KeptBy c.args.first.now c.match-pen.first) [
      | in-Some w ↦ kept_from _ _ _ w.first-is (kept_by g.D.Disk.state _ _ _ w.take_pen.ensures.keeps)
      | in-None w ↦ kept_from _ _ _ w.first-is (still _)
    ] in
    record { leaves = left_by _ _ _ _ kept.0 kept.1 c.join.ensures.first c.join.ensures.seen.0 c.join.ensures.seen.1 }
