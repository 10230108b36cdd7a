use Rattle.nt_grammar.proofs.ReadingFoundLists.{description-found}
use Rattle.nt_grammar.proofs.ReadingDescribed.{AddsRows-described}
use Rattle.nt_grammar.proofs.reading_laws.rows_read_are_described.Goals as goal

pub returns-clause-adds : goal.returns-clause-adds
returns-clause-adds c = description-found

pub returns-clause-described : goal.returns-clause-described
returns-clause-described c = AddsRows-described
