use Rattle.std.proofs.Common.{◌∙◌, ap}
use Rattle.nt_commit.proofs.Ending.{nothing_out}
use Rattle.nt_commit.proofs.committer.Committer+D.finish_turn.Goals as goal

pub returns-clause-out : goal.returns-clause-out
returns-clause-out g c =
    ap (λ d. (g.D.Disk.state d).out) c.into_parts.ensures.parts.0
    ∙ nothing_out g.D.Disk.state c.args.first c.close-locked.result c.close-locked.ensures c.requires.left.none_out
    c.into_parts.ensures.in_step
