use Rattle.nt_finished.proofs.Staged.{staged_ranged, laid-staged}
use Rattle.nt_finished.proofs.laws.files_are_laid_behind.Goals as goal

pub returns-clause-ranged : goal.returns-clause-ranged
returns-clause-ranged c = staged_ranged

pub returns-clause-laid : goal.returns-clause-laid
returns-clause-laid c = laid-staged
