use Rattle.nt_format.proofs.Pieces.{part_is}
use Rattle.nt_format.proofs.parts.parts_are_found.Goals as goal

pub returns : goal.returns
returns c = part_is
