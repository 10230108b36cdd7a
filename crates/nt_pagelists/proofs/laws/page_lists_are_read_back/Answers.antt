use Rattle.nt_pagelists.proofs.ClustersBack.{page-list-reads}
use Rattle.nt_pagelists.proofs.laws.page_lists_are_read_back.Goals as goal

pub returns : goal.returns
returns c = page-list-reads
