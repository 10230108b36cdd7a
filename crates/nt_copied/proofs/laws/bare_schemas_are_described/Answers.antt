use Rattle.nt_copied.proofs.ReadTables.{read-described, bare-described, bare-whole}
use Rattle.nt_copied.proofs.laws.bare_schemas_are_described.Goals as goal

pub returns-clause-read : goal.returns-clause-read
returns-clause-read c = read-described

pub returns-clause-bare : goal.returns-clause-bare
returns-clause-bare c = bare-described

pub returns-clause-whole : goal.returns-clause-whole
returns-clause-whole c = bare-whole
