use Rattle.std.proofs.Common.{arith, ◌<◌, ◌∙◌}
use Rattle.nt_turn.proofs.Allowed.{me_joins, me_learns_joined}
use Rattle.nt_turn.proofs.Passes.{free_of, first_of}
use Rattle.nt_turn.proofs.turn.Turn.join.Goals as goal

pub join_seat-requires : goal.join_seat-requires
join_seat-requires g c =
    let words : 0 < c.self.inside.table.shared.table_id.words = omega (arith, c.self.invariant.0) in
    let first = first_of _ _ _ _ c.self.view_is _ _ _ _ c.first.invariant _ c.first.view_is c.requires.first in
    let other = free_of _ _ _ _ c.self.view_is _ _ _ _ c.other.invariant _ c.other.view_is c.requires.other in
    (first.0, other.0, other.1.none, words, me_joins _ _ _ _ _ _ _ _ _ first.1 other.1 first.2)

pub load-requires : goal.load-requires
load-requires g c =
    let words : 1 < c.self.inside.table.shared.table_id.words = omega (arith, c.self.invariant.0) in
    let first = first_of _ _ _ _ c.self.view_is _ _ _ _ c.first.invariant _ c.first.view_is c.requires.first in
    (c.join_seat.ensures.0 ∙ first.0, words, me_learns_joined _ _ _ _ _ _ _ _ c.other.inside.seat.me.0 _ first.1 c.join_seat.ensures.2)
