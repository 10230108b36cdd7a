use Rattle.std.proofs.Common.{[], ◌∷◌, arith}
use Rattle.nt_column.specs.Elements.{plain}
use Rattle.nt_shred.proofs.Sets.{spare-at, gains}
use Rattle.nt_shred.proofs.pushing.push_at_width.Goals as goal

pub push_at_width-requires-clause-spare : goal.push_at_width-requires-clause-spare
push_at_width-requires-clause-spare c = omega (
  arith,
  spare-at c.args.out.now c.args.column c.buffer.result.now (plain c.args.value ∷ [])
      c.buffer.ensures.value c.requires.room,
)

pub returns : goal.returns
returns c = gains c.args.out.now c.args.column c.buffer.result.now c.push_at_width.new.self (plain c.args.value ∷ []) c.buffer.ensures.value
    c.push_at_width.ensures.column (omega (arith, c.push_at_width.ensures.spare))
