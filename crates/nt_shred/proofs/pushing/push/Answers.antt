use Rattle.std.proofs.Common.{[], ◌∷◌, arith}
use Rattle.nt_column.specs.Elements.{plain}
use Rattle.nt_shred.proofs.Sets.{spare-at, gains}
use Rattle.nt_shred.proofs.pushing.push.Goals as goal

pub push-requires-clause-spare : goal.push-requires-clause-spare
push-requires-clause-spare c = omega (
  arith,
  spare-at c.args.out.now c.args.column c.buffer.result.now (plain c.args.value ∷ [])
      c.buffer.ensures.value c.requires.room,
)

pub returns : goal.returns
returns c = gains c.args.out.now c.args.column c.buffer.result.now c.push.new.self (plain c.args.value ∷ []) c.buffer.ensures.value
    c.push.ensures.column (omega (arith, c.push.ensures.spare))
