use Rattle.nt_grammar.proofs.AddedOpen.{added-open, added-old}
use Rattle.nt_grammar.proofs.late_laws.late_fields_are_open.Goals as goal

pub returns : goal.returns
returns c = record { new = added-open; old = added-old }
