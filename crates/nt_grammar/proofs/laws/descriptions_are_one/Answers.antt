use Rattle.nt_grammar.proofs.Listing.{Rows-one}
use Rattle.nt_grammar.proofs.laws.descriptions_are_one.Goals as goal

pub returns : goal.returns
returns c = Rows-one
