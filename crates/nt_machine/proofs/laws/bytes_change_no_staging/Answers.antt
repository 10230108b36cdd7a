use Rattle.std.proofs.Common.{[]}
use Rattle.nt_machine.proofs.Publishers.{same_publishers, same_staging}
use Rattle.nt_machine.proofs.laws.bytes_change_no_staging.Goals as goal

pub returns-clause-publishers : goal.returns-clause-publishers
returns-clause-publishers g c = same_publishers

pub returns-clause-staging : goal.returns-clause-staging
returns-clause-staging g c staged history told = same_staging staged [] history told
