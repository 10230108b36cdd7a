use Rattle.std.proofs.Common.{arith, ◌<◌}
use Rattle.nt_turn.proofs.Allowed.{me_draws}
use Rattle.nt_turn.proofs.wait.try_draw.Goals as goal

pub compare_exchange-found-requires : goal.compare_exchange-found-requires
compare_exchange-found-requires g c =
    let words : 0 < c.args.cells.now.table_id.words = omega (arith, c.requires.words) in
    (c.requires.same, words, me_draws _ _ _ _ _ _ _ _ _ c.requires.idle (omega arith))
