use Rattle.nt_pages.proofs.Paged.{cluster-paged, length-column_metas, image-bits}
use Rattle.nt_pages.proofs.laws.clusters_are_paged.Goals as goal

pub returns-clause-paged : goal.returns-clause-paged
returns-clause-paged c = cluster-paged

pub returns-clause-lists : goal.returns-clause-lists
returns-clause-lists c = λ page context entries cs. length-column_metas page 0 cs

pub returns-clause-bits : goal.returns-clause-bits
returns-clause-bits c = image-bits
