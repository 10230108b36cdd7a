use Rattle.std.proofs.Common.{◌≡◌, sym, subst}
use Rattle.nt_turn.specs.Pass.{AllJoined, Closes}
use Rattle.nt_turn.proofs.Closing.{found}
use Rattle.nt_turn.proofs.Passes.{first_of}
use Rattle.nt_turn.proofs.turn.Turn.close.Goals as goal

pub unreachable-requires : goal.unreachable-requires
unreachable-requires g c =
    let first = first_of _ _ _ _ c.self.view_is _ _ _ _ c.first.invariant _ c.first.view_is c.requires.first in
    let joined = subst (λ p. AllJoined p) (sym c.first.view_is) c.requires.joined in
    let f = found g.V.Logged.history g.V.Logged.birth g.V.Logged.context _ _ _ c.first.inside.seat.table_id c.first.inside.seat.me _
    _ first.1 first.2 joined c.close_with-closed.ensures.values.2 _ c.take-slot.ensures.value in
    c.in_default.not-Some f.0 f.1

pub returns : goal.returns
returns g c =
    let first = first_of _ _ _ _ c.self.view_is _ _ _ _ c.first.invariant _ c.first.view_is c.requires.first in
    let joined = subst (λ p. AllJoined p) (sym c.first.view_is) c.requires.joined in
    let f = found g.V.Logged.history g.V.Logged.birth g.V.Logged.context _ _ _ c.first.inside.seat.table_id c.first.inside.seat.me _
    _ first.1 first.2 joined c.close_with-closed.ensures.values.2 _ c.take-slot.ensures.value in
    let same : c.in-Some.value ≡ f.0 = cc (c.in-Some.is, f.1) in
    subst (λ p. Closes g.V.Logged.history g.V.Logged.birth g.V.Logged.context p c.in-Some.value) c.first.view_is
    (subst (Closes g.V.Logged.history g.V.Logged.birth g.V.Logged.context _) (sym same) f.2)
