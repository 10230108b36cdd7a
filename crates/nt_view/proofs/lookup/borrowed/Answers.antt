use Rattle.nt_column.proofs.Numbers.{text-bytes}
use Rattle.nt_view.proofs.lookup.borrowed.Goals as goal

pub returns-clause-text : goal.returns-clause-text
returns-clause-text c = text-bytes c.args.bytes.now c.type_inv.bytes
