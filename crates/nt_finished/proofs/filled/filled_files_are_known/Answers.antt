use Rattle.nt_finished.proofs.FilledFiles.{filled-known}
use Rattle.nt_finished.proofs.filled.filled_files_are_known.Goals as goal

pub returns : goal.returns
returns c = filled-known c.written_parts_are_known.ensures
