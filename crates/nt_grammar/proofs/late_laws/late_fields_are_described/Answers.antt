use Rattle.nt_grammar.proofs.AddedRows.{Added-described}
use Rattle.nt_grammar.proofs.late_laws.late_fields_are_described.Goals as goal

pub returns : goal.returns
returns c = Added-described
