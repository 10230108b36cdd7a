use Rattle.nt_pages.proofs.Places.{pages-lie}
use Rattle.nt_pages.proofs.laws.pages_lie_where_said.Goals as goal

pub returns : goal.returns
returns c = pages-lie
