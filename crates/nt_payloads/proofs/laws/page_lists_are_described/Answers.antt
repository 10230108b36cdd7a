use Rattle.nt_payloads.proofs.PageLists.{listed}
use Rattle.nt_payloads.proofs.laws.page_lists_are_described.Goals as goal

pub returns : goal.returns
returns c = listed
