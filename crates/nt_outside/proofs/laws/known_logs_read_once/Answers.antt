use Rattle.nt_outside.proofs.Known.{known_reads, known_once}
use Rattle.nt_outside.proofs.laws.known_logs_read_once.Goals as goal

pub returns-clause-reads : goal.returns-clause-reads
returns-clause-reads c = known_reads

pub returns-clause-once : goal.returns-clause-once
returns-clause-once c = known_once
