use Rattle.nt_types.proofs.TextFaults.{schema_text-told, schema_text-is, schema_text-fault, schema_text-refused}
use Rattle.nt_types.specs.Schema.{at_line}
use Rattle.nt_types.proofs.laws.texts_are_read.Goals as goal

pub returns-clause-fields : goal.returns-clause-fields
returns-clause-fields c text fields = (schema_text-told text fields, schema_text-is text fields)

pub returns-clause-fault : goal.returns-clause-fault
returns-clause-fault c text line kind = (schema_text-fault text (at_line line kind), schema_text-refused text line kind)
