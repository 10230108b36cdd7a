use Rattle.nt_copying.proofs.FoundPages.{loaded-columns, loaded-sums}
use Rattle.nt_copying.proofs.laws.loaded_pages_are_stored.Goals as goal

pub returns-clause-columns : goal.returns-clause-columns
returns-clause-columns c file number k t l is = loaded-columns file number k t l is

pub returns-clause-sums : goal.returns-clause-sums
returns-clause-sums c file number k t l is = loaded-sums file number k t l is
