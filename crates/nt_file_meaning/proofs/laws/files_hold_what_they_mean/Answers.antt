use Rattle.nt_file_meaning.proofs.FilesBack.{file_held}
use Rattle.nt_file_meaning.proofs.laws.files_hold_what_they_mean.Goals as goal

pub returns : goal.returns
returns c = file_held
