use Rattle.std.specs.Prelude.{IfOk}
use Rattle.std.proofs.Common.{◌≡◌, subst}
use Rattle.nt_grammar.specs.Table.{Table}
use Rattle.nt_pagelists.specs.declared.cluster.ClusterList.{ClusterList}
use Rattle.nt_file_meaning.specs.Clusters.{cluster_of, columns_in_cluster}
use Rattle.nt_tfile.specs.Calls.{ReadsFile}
use Rattle.nt_reader.specs.Columns.{ClusterData, given_entries}
use Rattle.nt_decoded.proofs.cluster.decode_cluster.Goals as goal

pub returns-clause-read : goal.returns-clause-read
returns-clause-read g c =
    subst (λ (k : ClusterList). ReadsFile (λ (d : ClusterData). given_entries d)
    (λ told. cluster_of told c.args.reader.now.table c.args.k k) (g.F.ReadAt.state c.args.file.now) c.decode.result) c.listed.ensures
    (subst (λ (t : Table). ReadsFile (λ (d : ClusterData). given_entries d)
    (λ told. cluster_of told t c.args.k c.listed.result.now) (g.F.ReadAt.state c.args.file.now) c.decode.result) c.schema.ensures
    c.decode.ensures.read)

pub returns-clause-columns : goal.returns-clause-columns
returns-clause-columns g c =
    subst (λ (k : ClusterList). ReadsFile (λ (d : ClusterData). d.columns)
    (λ told. columns_in_cluster told c.args.reader.now.table c.args.k k) (g.F.ReadAt.state c.args.file.now) c.decode.result)
    c.listed.ensures (subst (λ (t : Table). ReadsFile (λ (d : ClusterData). d.columns)
    (λ told. columns_in_cluster told t c.args.k c.listed.result.now) (g.F.ReadAt.state c.args.file.now) c.decode.result)
    c.schema.ensures c.decode.ensures.columns)

pub returns-clause-table : goal.returns-clause-table
returns-clause-table g c =
    subst (λ (t : Table). IfOk c.decode.result (λ (d : ClusterData). d.table ≡ t)) c.schema.ensures c.decode.ensures.table
