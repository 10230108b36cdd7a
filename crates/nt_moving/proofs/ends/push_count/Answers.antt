use Rattle.std.proofs.Common.{ℕ, ◌∷◌, [], sym, subst}
use Rattle.nt_column.specs.Elements.{plain}
use Rattle.nt_trees.specs.Columns.{add_to}
use Rattle.nt_trees.specs.Views.{cols_of}
use Rattle.nt_trees.proofs.Lists.{add_to-extends}
use Rattle.nt_shred.specs.Frame.{FitsIn}
use Rattle.nt_shred.specs.Steps.{GainsInRoom}
use Rattle.nt_shred.proofs.Sets.{less-room}
use Rattle.nt_moving.proofs.ends.push_count.Goals as goal

pub count-last-requires-clause-room : goal.count-last-requires-clause-room
count-last-requires-clause-room c =
    let bs = c.args.out.now in
    less-room bs (cols_of bs) _ (add_to-extends c.args.ends (plain c.requires.room.0 ∷ []) (cols_of bs)) c.requires.room.2

pub push_end-requires-clause-room : goal.push_end-requires-clause-room
push_end-requires-clause-room c =
    subst (λ (n : ℕ). FitsIn c.args.out.now (add_to c.args.ends (plain n ∷ []) (cols_of c.args.out.now)))
    (sym (c.count-last.ensures.size c.requires.room.0 c.requires.room.1)) c.requires.room.2

pub returns : goal.returns
returns c n sound =
    subst (λ (m : ℕ). GainsInRoom (add_to c.args.ends (plain m ∷ [])) c.args.out.now c.push_end.new.out)
    (c.count-last.ensures.size n sound) c.push_end.ensures
