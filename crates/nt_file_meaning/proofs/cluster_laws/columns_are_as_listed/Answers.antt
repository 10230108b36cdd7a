use Rattle.nt_file_meaning.proofs.ColumnsListed.{count-listed, types-listed}
use Rattle.nt_file_meaning.proofs.cluster_laws.columns_are_as_listed.Goals as goal

pub returns-clause-count : goal.returns-clause-count
returns-clause-count c = count-listed

pub returns-clause-types : goal.returns-clause-types
returns-clause-types c = types-listed
