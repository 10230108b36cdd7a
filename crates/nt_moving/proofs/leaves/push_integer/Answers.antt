use Rattle.std.proofs.Common.{ℕ, ◌∷◌, [], sym, subst}
use Rattle.nt_column.specs.Elements.{plain}
use Rattle.nt_trees.specs.Columns.{add_to}
use Rattle.nt_trees.specs.Views.{cols_of}
use Rattle.nt_shred.specs.Frame.{FitsIn}
use Rattle.nt_shred.specs.Steps.{GainsInRoom}
use Rattle.nt_moving.proofs.leaves.push_integer.Goals as goal

pub element_of-requires-clause-bits : goal.element_of-requires-clause-bits
element_of-requires-clause-bits c = c.requires.1.takes.1

pub element_of-requires-clause-range : goal.element_of-requires-clause-range
element_of-requires-clause-range c = (c.requires.0, c.requires.1.fitting)

pub push-requires-clause-column : goal.push-requires-clause-column
push-requires-clause-column c = (c.args.bits, c.requires.1.takes.0, c.element_of.ensures.fits)

pub push-requires-clause-room : goal.push-requires-clause-room
push-requires-clause-room c =
    subst (λ (m : ℕ). FitsIn c.args.out.now (add_to c.args.column (plain m ∷ []) (cols_of c.args.out.now)))
    (sym c.element_of.ensures.element) c.requires.1.room

pub returns : goal.returns
returns c =
    let gains = subst (λ (m : ℕ). GainsInRoom (add_to c.args.column (plain m ∷ [])) c.args.out.now c.push.new.out)
    c.element_of.ensures.element c.push.ensures in
    record { columns = gains.columns; frame = gains.frame; room = gains.room }
