use Rattle.nt_file_meaning.proofs.ColumnsListed.{cluster-of_columns}
use Rattle.nt_file_meaning.proofs.cluster_laws.clusters_are_of_their_columns.Goals as goal

pub returns : goal.returns
returns c = cluster-of_columns
