use Rattle.nt_container.proofs.FinishedBack.{middle_found}
use Rattle.nt_container.proofs.laws.middles_are_found.Goals as goal

pub returns : goal.returns
returns c = middle_found
