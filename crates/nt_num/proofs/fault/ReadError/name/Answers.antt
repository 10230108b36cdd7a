-- A code past the table has no name of its own.
use Rattle.std.proofs.Common.{sym, arith}
use Rattle.std.specs.Prelude.{codes}
use Rattle.std.proofs.lemmas.List.{get_or_past}
use Rattle.nt_num.specs.Faults.{fault_names}
use Rattle.nt_num.proofs.fault.ReadError.name.Goals as goal

pub returns-in-23-to-255-clause-name : goal.returns-in-23-to-255-clause-name
returns-in-23-to-255-clause-name c = sym (get_or_past fault_names c.args.self.now.code (codes "Unknown") (omega arith))
