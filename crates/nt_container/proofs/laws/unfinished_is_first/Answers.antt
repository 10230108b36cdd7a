use Rattle.nt_container.proofs.Gate.{unfinished_is}
use Rattle.nt_container.proofs.laws.unfinished_is_first.Goals as goal

pub returns : goal.returns
returns c = unfinished_is
