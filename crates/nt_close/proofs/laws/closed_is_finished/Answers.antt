use Rattle.nt_close.proofs.Finishing.{closed-is}
use Rattle.nt_close.proofs.laws.closed_is_finished.Goals as goal

pub returns : goal.returns
returns c = closed-is
