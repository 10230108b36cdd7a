use Rattle.nt_logged.proofs.Parted.{parts_known}
use Rattle.nt_logged.proofs.laws.written_parts_are_known.Goals as goal

pub returns : goal.returns
returns g c = parts_known
