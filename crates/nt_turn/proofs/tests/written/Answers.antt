use Rattle.std.proofs.Common.{ap}
use Rattle.nt_turn.proofs.Joining.{all_joined}
use Rattle.nt_turn.proofs.tests.written.Goals as goal

pub close-requires-clause-joined : goal.close-requires-clause-joined
close-requires-clause-joined g c = all_joined c.in-Ok.first c.work_beside.new.first (ap (λ p. p.splits) (c.in-Ok.ensures.ok.2))
    c.work_beside.ensures.joined
