use Rattle.std.proofs.Common.{rules, sym}
use Rattle.nt_scan.proofs.Told.{name-at}
use Rattle.nt_scan.proofs.lines.total_told.Goals as goal

pub returns : goal.returns
returns c =
    rw (
      name-at c.args.schema.now.fields c.args.leaf.field c.field.result.now c.field.ensures,
      sym c.number_or_nothing.ensures,
      sym c.number_or_nothing-2.ensures,
    ) (search rules)
