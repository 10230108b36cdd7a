use Rattle.nt_finished.proofs.LateLists.{late-beside}
use Rattle.nt_finished.proofs.late.late_files_are_laid_beside.Goals as goal

pub returns : goal.returns
returns c = late-beside
