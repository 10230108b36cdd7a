use Rattle.nt_grammar.proofs.ReadingSchemas.{Rows-described}
use Rattle.nt_grammar.proofs.reading_laws.schemas_are_described.Goals as goal

pub returns : goal.returns
returns c = Rows-described
