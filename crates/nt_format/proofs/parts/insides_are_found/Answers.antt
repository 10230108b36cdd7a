use Rattle.nt_format.proofs.Pieces.{inside_is}
use Rattle.nt_format.proofs.parts.insides_are_found.Goals as goal

pub returns : goal.returns
returns c = inside_is
