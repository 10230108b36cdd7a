use Rattle.std.proofs.Common.{ap, arith}
use Rattle.nt_pagelists.specs.PageLists.{ProgressCounts}
use Rattle.test_meta.proofs.lists.read.Goals as goal

pub read_page_list-requires-clause-clusters : goal.read_page_list-requires-clause-clusters
read_page_list-requires-clause-clusters c = omega (
  arith,
  ap (λ (p : ProgressCounts). p.clusters) c.in_ok-so_far.ensures,
  c.ranges.clusters.fits,
)

pub read_page_list-requires-clause-entries : goal.read_page_list-requires-clause-entries
read_page_list-requires-clause-entries c = omega (arith, ap (λ (p : ProgressCounts). p.entries) c.in_ok-so_far.ensures, c.ranges.span.fits)
