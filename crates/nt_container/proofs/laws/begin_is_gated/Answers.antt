use Rattle.nt_container.proofs.Gate.{begin-shut, begin-opened}
use Rattle.nt_container.proofs.laws.begin_is_gated.Goals as goal

pub returns : goal.returns
returns c = record { shut = begin-shut; opened = begin-opened }
