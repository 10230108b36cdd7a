use Rattle.nt_copied.proofs.FewElements.{outlined-few}
use Rattle.nt_copied.proofs.laws.listed_pages_have_few_elements.Goals as goal

pub returns : goal.returns
returns c = outlined-few
