use Rattle.nt_commit.proofs.Owned.{limit_seen}
use Rattle.nt_commit.proofs.committing.CommitterOf+Locked+D.commit_as.Goals as goal

pub returns-in-Ok-clause-limit : goal.returns-in-Ok-clause-limit
returns-in-Ok-clause-limit g c = limit_seen g.D.Disk.state _ g.D.Ext.Ext.state _ _ _ _ _ c.reserve-answer.ensures.commits

pub returns-in_default-clause-limit : goal.returns-in_default-clause-limit
returns-in_default-clause-limit g c = limit_seen g.D.Disk.state _ g.D.Ext.Ext.state _ _ _ _ _ c.reserve-answer.ensures.commits
