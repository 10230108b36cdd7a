use Rattle.nt_finished.proofs.Outlines.{outlined}
use Rattle.nt_finished.proofs.laws.finished_files_are_outlined.Goals as goal

pub returns : goal.returns
returns c = outlined
