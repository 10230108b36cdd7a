use Rattle.nt_total.proofs.parallel.some_piece.Goals as goal

pub returns-clause-piece : goal.returns-clause-piece
returns-clause-piece g c = rw c.read-some.ensures.read at c.piece_of.ensures
