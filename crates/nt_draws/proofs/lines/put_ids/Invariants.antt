use Rattle.std.proofs.Common.{◌≡◌, ◌+◌, ◌*◌, ◌≤◌, ◌++◌, false}
use Rattle.arrayvec.specs.ArrayVec.{array_vec_len}
use Rattle.nt_draws.specs.Draws.{after_draws}
use Rattle.nt_draws.specs.Events.{drawn_ids}
use Rattle.nt_draws.specs.Lines.{ids_text}
use Rattle.nt_draws.proofs.lines.put_ids.Given as goal

abbrev pub invariant-loop-left : goal.invariant-loop-left
invariant-loop-left l =
    (after_draws l.left l.last ≡ after_draws l.fn.count l.fn.number)
    × (l.line.items ++ ids_text l.later (drawn_ids l.left l.last)
    ≡ l.initial.line.items ++ ids_text false (drawn_ids l.fn.count l.fn.number))
    × (array_vec_len l.line + 7 * l.left ≤ array_vec_len l.initial.line + 7 * l.fn.count)

abbrev pub decreases-loop-left : goal.decreases-loop-left
decreases-loop-left l = l.left
