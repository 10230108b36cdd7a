use Rattle.nt_outside.proofs.Order.{one_follows}
use Rattle.nt_outside.proofs.laws.steps_keep_order.Goals as goal

pub returns : goal.returns
returns c = one_follows
