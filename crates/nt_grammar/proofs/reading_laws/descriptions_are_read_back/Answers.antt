use Rattle.nt_grammar.proofs.ReadingBack.{description-reads}
use Rattle.nt_grammar.proofs.ReadingParts.{part-reads}
use Rattle.nt_grammar.proofs.reading_laws.descriptions_are_read_back.Goals as goal

pub returns : goal.returns
returns c = record { rows = description-reads; parts = part-reads }
