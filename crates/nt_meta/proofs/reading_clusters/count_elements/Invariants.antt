use Rattle.std.proofs.Common.{◌≡◌, ◌-◌, ◌^◌, min, take}
use Rattle.nt_pagelists.specs.Columns.{paged_elements}
use Rattle.nt_meta.proofs.reading_clusters.count_elements.Given as goal

abbrev pub invariant-loop-i : goal.invariant-loop-i
invariant-loop-i l = record { sum : l.elements ≡ min (paged_elements (take l.i l.pages)) (2 ^ 64 - 1) }
