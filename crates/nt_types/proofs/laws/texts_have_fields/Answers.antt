use Rattle.nt_types.proofs.TextFaults.{schema_text-told}
use Rattle.nt_types.proofs.laws.texts_have_fields.Goals as goal

pub returns : goal.returns
returns c text fields e = (schema_text-told text fields e).rules
