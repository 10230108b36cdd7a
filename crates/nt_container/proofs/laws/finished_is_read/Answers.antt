use Rattle.nt_container.proofs.FinishedBack.{finished_back}
use Rattle.nt_container.proofs.laws.finished_is_read.Goals as goal

pub returns : goal.returns
returns c = finished_back
