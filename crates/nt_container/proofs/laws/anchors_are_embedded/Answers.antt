use Rattle.nt_container.proofs.Embedded.{embedded}
use Rattle.nt_container.proofs.laws.anchors_are_embedded.Goals as goal

pub returns : goal.returns
returns c = embedded
