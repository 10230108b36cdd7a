use Rattle.std.proofs.Common.{[], ◌∷◌, arith}
use Rattle.nt_shred.proofs.Sets.{spare-at, gains}
use Rattle.nt_shred.proofs.pushing.push_tag.Goals as goal

pub push_switch-requires-clause-spare : goal.push_switch-requires-clause-spare
push_switch-requires-clause-spare c = omega (
  arith,
  spare-at c.args.out.now c.args.column c.buffer.result.now
      ((c.args.index, c.args.tag) ∷ []) c.buffer.ensures.value c.requires.room,
)

pub returns : goal.returns
returns c = gains c.args.out.now c.args.column c.buffer.result.now c.push_switch.new.self ((c.args.index, c.args.tag) ∷ [])
    c.buffer.ensures.value c.push_switch.ensures.column (omega (arith, c.push_switch.ensures.spare))
