use Rattle.nt_finished.proofs.Beside.{beside_ranged, laid-beside, middle_beside}
use Rattle.nt_finished.proofs.laws.files_are_laid_beside.Goals as goal

pub returns-clause-ranged : goal.returns-clause-ranged
returns-clause-ranged c = beside_ranged

pub returns-clause-laid : goal.returns-clause-laid
returns-clause-laid c = laid-beside

pub returns-clause-parts : goal.returns-clause-parts
returns-clause-parts c = λ t most book ranges kept beside lens. middle_beside t most book kept beside ranges lens
