use Rattle.nt_logged.proofs.Written.{lists_read, ranges_read, end_read}
use Rattle.nt_logged.proofs.laws.all_that_is_written_is_read.Goals as goal

pub returns-clause-lists : goal.returns-clause-lists
returns-clause-lists g c = lists_read

pub returns-clause-ranges : goal.returns-clause-ranges
returns-clause-ranges g c = ranges_read

pub returns-clause-end : goal.returns-clause-end
returns-clause-end g c = end_read
