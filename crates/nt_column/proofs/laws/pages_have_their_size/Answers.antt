use Rattle.nt_column.proofs.Sizes.{length-page_of}
use Rattle.nt_column.proofs.laws.pages_have_their_size.Goals as goal

pub returns : goal.returns
returns c = length-page_of
