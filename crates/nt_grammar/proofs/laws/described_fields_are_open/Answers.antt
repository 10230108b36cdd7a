use Rattle.nt_grammar.proofs.Described.{described-open}
use Rattle.nt_grammar.proofs.laws.described_fields_are_open.Goals as goal

pub returns : goal.returns
returns c = described-open
