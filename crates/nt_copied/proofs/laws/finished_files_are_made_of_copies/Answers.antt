use Rattle.nt_copied.proofs.CopiedPlaces.{copied-beside, copied-behind}
use Rattle.nt_copied.proofs.laws.finished_files_are_made_of_copies.Goals as goal

pub returns-clause-beside : goal.returns-clause-beside
returns-clause-beside c = copied-beside

pub returns-clause-behind : goal.returns-clause-behind
returns-clause-behind c = copied-behind
