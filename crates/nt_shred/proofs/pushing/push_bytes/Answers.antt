use Rattle.std.proofs.Common.{map, arith}
use Rattle.nt_column.specs.Elements.{plain}
use Rattle.nt_trees.proofs.Leaves.{length-plain}
use Rattle.nt_shred.proofs.Sets.{spare-at, gains}
use Rattle.nt_shred.proofs.pushing.push_bytes.Goals as goal

pub push_all-requires-clause-spare : goal.push_all-requires-clause-spare
push_all-requires-clause-spare c = omega (
  arith,
  length-plain c.args.bytes.now,
  spare-at c.args.out.now c.args.column
      c.buffer.result.now (map plain c.args.bytes.now) c.buffer.ensures.value c.requires.room,
)

pub returns : goal.returns
returns c = gains c.args.out.now c.args.column c.buffer.result.now c.push_all.new.buffer (map plain c.args.bytes.now)
    c.buffer.ensures.value c.push_all.ensures.column (omega (arith, length-plain c.args.bytes.now, c.push_all.ensures.spare))
