use Rattle.nt_generate.proofs.Adding.{totals_of-nil, totals_of-push}
use Rattle.nt_generate.proofs.total_laws.clusters_add_up.Goals as goal

pub returns-clause-none : goal.returns-clause-none
returns-clause-none c contexts order = totals_of-nil contexts order

pub returns-clause-next : goal.returns-clause-next
returns-clause-next c contexts order before cluster = totals_of-push contexts order before cluster
