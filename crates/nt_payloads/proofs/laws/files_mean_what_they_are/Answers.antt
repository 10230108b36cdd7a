use Rattle.nt_payloads.proofs.WholeFiles.{as_it_is, meant}
use Rattle.nt_payloads.proofs.laws.files_mean_what_they_are.Goals as goal

pub returns-clause-means : goal.returns-clause-means
returns-clause-means c = meant

pub returns-clause-read : goal.returns-clause-read
returns-clause-read c = as_it_is
