use Rattle.nt_cuts.proofs.Reading.{unfinished-zero, read-shut}
use Rattle.nt_cuts.proofs.Keeping.{shut-append}
use Rattle.nt_cuts.proofs.laws.shut_logs_leave_unfinished.Goals as goal

pub returns-clause-file : goal.returns-clause-file
returns-clause-file c = unfinished-zero

pub returns-clause-leaves : goal.returns-clause-leaves
returns-clause-leaves c = read-shut

pub returns-clause-more : goal.returns-clause-more
returns-clause-more c = shut-append
