use Rattle.std.proofs.Common.{◌∙◌, ap, Some}
use Rattle.nt_turn.proofs.Moves.{one_slot}
use Rattle.nt_turn.proofs.Passes.{free_of}
use Rattle.nt_turn.proofs.turn.Turn.take.Goals as goal

pub exchange-held-requires : goal.exchange-held-requires
exchange-held-requires g c =
    let h = c.wait_for.ensures.holding in
    let free = free_of _ _ _ _ c.self.view_is _ _ _ _ c.pass.invariant _ c.pass.view_is c.requires.free in (
      c.wait_for.ensures.same ∙ (c.draw-ticket.ensures.same ∙ free.0),
      (Some h.value, one_slot c.wait_for.new.seat.me.1 (Some h.value) (ap (λ m. m.1) h.is)),
    )
