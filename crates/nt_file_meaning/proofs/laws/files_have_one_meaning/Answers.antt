use Rattle.nt_file_meaning.proofs.FilesBack.{one_meaning, one_defect, means_or_defect, never_both}
use Rattle.nt_file_meaning.proofs.laws.files_have_one_meaning.Goals as goal

pub returns-clause-means : goal.returns-clause-means
returns-clause-means c = one_meaning

pub returns-clause-defect : goal.returns-clause-defect
returns-clause-defect c = one_defect

pub returns-clause-some : goal.returns-clause-some
returns-clause-some c = means_or_defect

pub returns-clause-apart : goal.returns-clause-apart
returns-clause-apart c = never_both
