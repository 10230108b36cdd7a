use Rattle.std.proofs.Common.{arith, ◌<◌, ◌∙◌, sym, subst}
use Rattle.nt_turn.specs.Steps.{IsWaiting}
use Rattle.nt_turn.proofs.Allowed.{me_looks}
use Rattle.nt_turn.proofs.wait.wait_for.Goals as goal

pub load-served-requires : goal.load-served-requires
load-served-requires g c =
    let words : 1 < c.args.cells.now.table_id.words = omega (arith, c.requires.words) in (
      c.loop.invariant.0 ∙ c.requires.same,
      words,
      me_looks _ _ _ _ _ _ _ c.args.ticket _
          (subst (IsWaiting c.args.ticket) (sym c.loop.invariant.1) c.requires.waiting),
    )
