use Rattle.std.proofs.Common.{rules, ◌≡◌, ℕ, ◌∷◌, [], sym, subst, arith}
use Rattle.nt_column.specs.Bits.{bit_of}
use Rattle.nt_column.specs.Elements.{plain}
use Rattle.nt_column.proofs.Numbers.{bit-lt}
use Rattle.nt_trees.specs.Columns.{add_to}
use Rattle.nt_trees.specs.Views.{cols_of}
use Rattle.nt_shred.specs.Frame.{FitsIn}
use Rattle.nt_shred.specs.Steps.{GainsInRoom}
use Rattle.nt_moving.proofs.leaves.push_flag.Goals as goal

pub push-requires-clause-column : goal.push-requires-clause-column
push-requires-clause-column c =
    let same : bit_of c.args.value ≡ c.from.result = search rules in
    (1, c.requires.takes, omega (arith, sym same, bit-lt c.args.value))

pub push-requires-clause-room : goal.push-requires-clause-room
push-requires-clause-room c =
    let same : bit_of c.args.value ≡ c.from.result = search rules in
    subst (λ (n : ℕ). FitsIn c.args.out.now (add_to c.args.column (plain n ∷ []) (cols_of c.args.out.now))) same c.requires.room

pub returns : goal.returns
returns c =
    let same : bit_of c.args.value ≡ c.from.result = search rules in
    let gains = subst (λ (n : ℕ). GainsInRoom (add_to c.args.column (plain n ∷ [])) c.args.out.now c.push.new.out) (sym same)
    c.push.ensures in
    record { columns = gains.columns; frame = gains.frame; room = gains.room }
