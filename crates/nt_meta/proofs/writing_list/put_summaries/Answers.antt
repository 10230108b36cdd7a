use Rattle.nt_pagelists.specs.Writing.{ListedCluster, summary_text}
use Rattle.nt_pagelists.specs.Books.{listed_cluster}
use Rattle.nt_meta.proofs.Appended.{counted-next}
use Rattle.nt_meta.proofs.writing_list.put_summaries.Goals as goal

pub loop-cluster-preserved : goal.loop-cluster-preserved
loop-cluster-preserved c =
    counted-next (listed_cluster c.args.book.now) (λ (w : ListedCluster). summary_text w.summary) c.args.to c.loop-cluster.cluster
    c.loop-cluster.out c.put_summary.new.out _ c.loop-cluster-test.true c.in_ok-put_summary.ensures c.loop-cluster.invariant
