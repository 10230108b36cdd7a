use Rattle.nt_grammar.proofs.Added.{Added-one}
use Rattle.nt_grammar.proofs.laws.additions_are_one.Goals as goal

pub returns : goal.returns
returns c = Added-one
