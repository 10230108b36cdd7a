use Rattle.std.proofs.Common.{[], ◌∷◌, arith}
use Rattle.nt_column.specs.Elements.{plain}
use Rattle.nt_shred.proofs.Ends.{ends-take}
use Rattle.nt_shred.proofs.Sets.{spare-at, gains}
use Rattle.nt_shred.proofs.pushing.push_end.Goals as goal

pub push-requires-clause-spare : goal.push-requires-clause-spare
push-requires-clause-spare c = omega (
  arith,
  spare-at c.args.out.now c.args.column c.buffer.result.now (plain c.args.end ∷ [])
      c.buffer.ensures.value c.requires.room,
)

pub returns : goal.returns
returns c = gains c.args.out.now c.args.column c.buffer.result.now c.push.new.self (plain c.args.end ∷ []) c.buffer.ensures.value
    c.push.ensures.column (omega (arith, c.push.ensures.spare))

pub push-requires-clause-takes : goal.push-requires-clause-takes
push-requires-clause-takes c = ends-take c.args.out.now c.args.column c.buffer.result.now c.args.end c.requires.column
    c.buffer.ensures.value c.requires.end
