use Rattle.nt_cuts.proofs.Reading.{read-shut}
use Rattle.nt_close.proofs.Crashes.{begun-leaves}
use Rattle.nt_crash.proofs.Filling.{filling-shut}
use Rattle.nt_crash.proofs.laws.filling_leaves_unfinished.Goals as goal

pub returns-clause-beginning : goal.returns-clause-beginning
returns-clause-beginning c = begun-leaves

pub returns-clause-filling : goal.returns-clause-filling
returns-clause-filling c = λ t log filling. read-shut log (filling-shut c.steps_stand.ensures.behind t log filling)
