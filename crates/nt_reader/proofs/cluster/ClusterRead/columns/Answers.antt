use Rattle.std.proofs.Common.{ap, sym, ◌∙◌}
use Rattle.nt_file_meaning.specs.Clusters.{columns_by_id}
use Rattle.nt_reader.specs.Columns.{ClusterData}
use Rattle.nt_reader.proofs.cluster.ClusterRead.columns.Goals as goal

pub returns-clause-columns : goal.returns-clause-columns
returns-clause-columns c id =
    sym (c.self.invariant.all id) ∙ ap (λ (d : ClusterData). columns_by_id d.columns id) c.self.view_is
