use Rattle.nt_pagelists.proofs.FootersBack.{footers-read}
use Rattle.nt_pagelists.proofs.laws.footers_are_read_back.Goals as goal

pub returns : goal.returns
returns c = footers-read
