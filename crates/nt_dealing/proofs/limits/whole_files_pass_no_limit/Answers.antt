use Rattle.nt_dealing.proofs.Whole.{passes_none}
use Rattle.nt_dealing.proofs.limits.whole_files_pass_no_limit.Goals as goal

pub returns : goal.returns
returns c = passes_none
