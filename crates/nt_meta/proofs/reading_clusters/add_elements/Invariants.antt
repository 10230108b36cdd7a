use Rattle.std.proofs.Common.{◌≡◌, take}
use Rattle.nt_pagelists.specs.Clusters.{with_elements}
use Rattle.nt_meta.proofs.reading_clusters.add_elements.Given as goal

abbrev pub invariant-loop-id : goal.invariant-loop-id
invariant-loop-id l = record { sum : l.elements ≡ with_elements l.fn.elements (take l.id l.lists) }
