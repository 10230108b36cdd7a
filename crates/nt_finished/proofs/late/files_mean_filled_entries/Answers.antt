use Rattle.nt_finished.proofs.Filling.{file-filled}
use Rattle.nt_finished.proofs.late.files_mean_filled_entries.Goals as goal

pub returns : goal.returns
returns c = file-filled c.earlier_clusters_are_filled.ensures.all
