use Rattle.nt_logged.proofs.Sparing.{front_spared}
use Rattle.nt_logged.proofs.Reading.{front_read}
use Rattle.nt_logged.proofs.laws.fronts_stand.Goals as goal

pub returns-clause-read : goal.returns-clause-read
returns-clause-read c = front_read

pub returns-clause-spared : goal.returns-clause-spared
returns-clause-spared c = front_spared
