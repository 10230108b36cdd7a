use Rattle.nt_commit.proofs.Fresh.{fresh}
use Rattle.nt_commit.proofs.locked.Locked.new.Goals as goal

pub invariant_of-result : goal.invariant_of-result
invariant_of-result g c = fresh g.D.Disk.state c.args.disk c.args.contexts c.args.book c.requires c.of-begun.result.value c.of-begun.ensures
