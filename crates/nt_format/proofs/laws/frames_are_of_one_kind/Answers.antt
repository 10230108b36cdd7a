use Rattle.nt_format.proofs.OneReading.{other_kind}
use Rattle.nt_format.proofs.laws.frames_are_of_one_kind.Goals as goal

pub returns : goal.returns
returns c = other_kind
