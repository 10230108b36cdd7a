use Rattle.std.proofs.Common.{arith}
use Rattle.nt_types.specs.declared.column_type.ColumnType.TheVariants.{Switch}
use Rattle.nt_encode.proofs.Values.{part-filled}
use Rattle.nt_view.proofs.column.read_indices.Goals as goal

pub returns : goal.returns
returns c =
    part-filled Switch c.args.count c.args.bytes.now c.loop-i.out c.args.from c.loop-i.i
    (omega (arith, c.loop-i.auto.out, c.requires.within))
    (omega arith) c.loop-i.invariant
