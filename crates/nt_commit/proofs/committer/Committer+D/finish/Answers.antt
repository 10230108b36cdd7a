use Rattle.nt_commit.proofs.Leaving.{crash-left}
use Rattle.nt_commit.proofs.committer.Committer+D.finish.Goals as goal

pub returns-clause-disk : goal.returns-clause-disk
returns-clause-disk g c = record {
  out = c.finish_turn.ensures.out;
  crash = crash-left g.D.Disk.state g.met.D.Disk.told c.histories_leave_logs_shut.ensures c.shut_logs_leave_unfinished.ensures.leaves _
      c.finish_turn.ensures.in_step;
}
