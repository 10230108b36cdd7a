use Rattle.nt_reader.proofs.Counting.{footer-fits}
use Rattle.nt_reader.proofs.describing.read_rest.Goals as goal

pub returns-in-Ok-clause-counted : goal.returns-in-Ok-clause-counted
returns-in-Ok-clause-counted g c = footer-fits _ _ _ _ c.in-Ok.ensures
