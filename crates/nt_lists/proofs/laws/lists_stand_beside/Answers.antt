use Rattle.nt_lists.proofs.Beside.{range_added, list_noted}
use Rattle.nt_lists.proofs.laws.lists_stand_beside.Goals as goal

pub returns-clause-more : goal.returns-clause-more
returns-clause-more g c = range_added

pub returns-clause-beside : goal.returns-clause-beside
returns-clause-beside g c = list_noted
