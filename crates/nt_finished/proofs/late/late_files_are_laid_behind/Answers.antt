use Rattle.nt_finished.proofs.LateLists.{late-behind}
use Rattle.nt_finished.proofs.late.late_files_are_laid_behind.Goals as goal

pub returns : goal.returns
returns c = late-behind
