use Rattle.nt_logged.proofs.Sparing.{appended_spared}
use Rattle.nt_logged.proofs.Reading.{appended_read}
use Rattle.nt_logged.proofs.laws.what_is_appended_stands.Goals as goal

pub returns-clause-read : goal.returns-clause-read
returns-clause-read c = appended_read

pub returns-clause-spared : goal.returns-clause-spared
returns-clause-spared c = appended_spared
