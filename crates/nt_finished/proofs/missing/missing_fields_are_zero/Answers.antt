use Rattle.nt_finished.proofs.MissingColumns.{missing-fault, missing-tree}
use Rattle.nt_finished.proofs.missing.missing_fields_are_zero.Goals as goal

pub returns-clause-fault : goal.returns-clause-fault
returns-clause-fault c = missing-fault

pub returns-clause-tree : goal.returns-clause-tree
returns-clause-tree c = missing-tree
