use Rattle.nt_writable.proofs.Same.{same}
use Rattle.nt_writable.proofs.laws.written_shapes_take_the_same.Goals as goal

pub returns : goal.returns
returns c = same
