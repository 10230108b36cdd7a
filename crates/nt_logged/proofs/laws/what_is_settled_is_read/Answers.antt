use Rattle.nt_logged.proofs.Sparing.{settled_spared}
use Rattle.nt_logged.proofs.Reading.{settled_read}
use Rattle.nt_logged.proofs.laws.what_is_settled_is_read.Goals as goal

pub returns-clause-read : goal.returns-clause-read
returns-clause-read c = settled_read

pub returns-clause-spared : goal.returns-clause-spared
returns-clause-spared c = settled_spared
