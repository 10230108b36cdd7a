use Rattle.nt_seq.proofs.Files.{shut-unclosed, order-unclosed}
use Rattle.nt_seq.proofs.laws.unclosed_files_are_shut.Goals as goal

pub returns-clause-shut : goal.returns-clause-shut
returns-clause-shut c = shut-unclosed

pub returns-clause-order : goal.returns-clause-order
returns-clause-order c = order-unclosed
