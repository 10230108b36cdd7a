use Rattle.std.proofs.Common.{sym, subst}
use Rattle.nt_pool.proofs.Steps.{puts, learns, never_full}
use Rattle.nt_pool.proofs.pool.put_one.Goals as goal

pub push_as-requires-clause-rule : goal.push_as-requires-clause-rule
push_as-requires-clause-rule g c = (
  puts g.J.Job.ready _ _ _ _ c.requires.pass.1 (subst (λ j. g.J.Job.ready j) (sym c.new_unchecked-job.ensures) c.requires.ready),
  learns g.J.Job.ready _ _,
)

pub unreachable-requires : goal.unreachable-requires
unreachable-requires g c =
    let held = c.in-Err.ensures.rule.2 in
    never_full _ _ held.0 c.requires.pass.1 c.requires.pass.2 c.requires.room held.1 held.2
