use Rattle.nt_reader.proofs.Chains.{reads-as}
use Rattle.nt_reader.proofs.KnownSteps.{known-clusters}
use Rattle.nt_reader.proofs.groups.read_clusters.Goals as goal

pub returns-clause-read : goal.returns-clause-read
returns-clause-read g c told is =
    reads-as _ c.read_groups.result _ _
    (known-clusters told c.args.said.now.sum c.args.said.now.schema c.in_ok-columns.columns c.args.said.now.groups c.as_slice.result.now
    c.in_ok-columns.ensures c.as_slice.ensures)
    (c.read_groups.ensures.read told is)
