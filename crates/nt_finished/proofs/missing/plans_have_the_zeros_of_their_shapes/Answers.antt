use Rattle.nt_finished.proofs.ZeroColumns.{zero-place}
use Rattle.nt_finished.proofs.missing.plans_have_the_zeros_of_their_shapes.Goals as goal

pub returns : goal.returns
returns c = zero-place
