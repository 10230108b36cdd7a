use Rattle.std.proofs.Common.{length, ap, arith}
use Rattle.nt_view.specs.Loaded.{Loaded}
use Rattle.nt_view.proofs.Columns.{length-cut}
use Rattle.nt_view.proofs.cluster.ClusterBytes.pages.Goals as goal

pub returns-clause-stored : goal.returns-clause-stored
returns-clause-stored c = omega (
  arith,
  c.len.ensures,
  length-cut c.self.inside.pages.items c.self.inside.store.items,
  c.self.invariant.few,
  ap (λ (l : Loaded). length l.pages) c.self.view_is,
  ap (λ (l : Loaded). length l.stored) c.self.view_is,
)
