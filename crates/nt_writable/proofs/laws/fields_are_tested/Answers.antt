use Rattle.nt_writable.proofs.Tested.{field-kept, field-passes}
use Rattle.nt_writable.proofs.laws.fields_are_tested.Goals as goal

pub returns : goal.returns
returns c = λ p. (field-kept p, field-passes p)
