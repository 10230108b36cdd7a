use Rattle.nt_cuts.proofs.Keeping.{history-shut}
use Rattle.nt_cuts.proofs.laws.histories_leave_logs_shut.Goals as goal

pub returns : goal.returns
returns g c = history-shut c.steps_stand.ensures.behind
