use Rattle.nt_logged.proofs.Tiles.{settled_known}
use Rattle.nt_logged.proofs.laws.settled_ranges_are_known.Goals as goal

pub returns : goal.returns
returns g c = settled_known
