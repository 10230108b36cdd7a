use Rattle.nt_file_meaning.proofs.OutlinesBack.{outlined}
use Rattle.nt_file_meaning.proofs.laws.outlines_are_described.Goals as goal

pub returns : goal.returns
returns c = outlined
