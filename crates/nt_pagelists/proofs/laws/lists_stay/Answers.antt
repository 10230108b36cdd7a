use Rattle.nt_pagelists.proofs.ListsStay.{list-stays}
use Rattle.nt_pagelists.proofs.laws.lists_stay.Goals as goal

pub returns : goal.returns
returns c = list-stays
