use Rattle.std.proofs.Common.{arith}
use Rattle.nt_generate.proofs.Sums.{same_total}
use Rattle.nt_generate.proofs.AddedEntries.{length-given}
use Rattle.nt_generate.proofs.clusters.with_cluster.Goals as goal

pub returns : goal.returns
returns c =
    same_total _ _ _ _ _ _ (omega (arith, c.saturating_add-clusters.ensures))
    (omega (arith, c.saturating_add-entries.ensures, c.entries.ensures, length-given c.args.cluster.now))
    c.in_ok-sum.ensures
