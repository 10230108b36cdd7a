use Rattle.std.proofs.Common.{arith, ◌<◌}
use Rattle.nt_turn.proofs.Allowed.{me_splits}
use Rattle.nt_turn.proofs.Passes.{first_of, room_of}
use Rattle.nt_turn.proofs.turn.Turn.split.Goals as goal

pub split_seat-seat-requires : goal.split_seat-seat-requires
split_seat-seat-requires g c =
    let words : 0 < c.self.inside.table.shared.table_id.words = omega (arith, c.self.invariant.0) in
    let first = first_of _ _ _ _ c.self.view_is _ _ _ _ c.first.invariant _ c.first.view_is c.requires.first in (
      first.0,
      words,
      me_splits _ _ _ _ _ _ _ first.1 first.2 (room_of _ _ _ _ c.self.view_is _ _ _ _ c.first.invariant _
          c.first.view_is c.requires.room),
    )
