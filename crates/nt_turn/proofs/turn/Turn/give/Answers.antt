use Rattle.std.proofs.Common.{arith, ◌<◌, ◌∙◌, ap, sym, subst}
use Rattle.nt_turn.specs.Pass.{Adds}
use Rattle.nt_turn.proofs.Allowed.{put_gives}
use Rattle.nt_turn.proofs.Passes.{holder_of}
use Rattle.nt_turn.proofs.turn.Turn.give.Goals as goal

pub fetch_add-requires : goal.fetch_add-requires
fetch_add-requires g c =
    let words : 1 < c.self.inside.table.shared.table_id.words = omega (arith, c.self.invariant.0) in
    let out = c.exchange-out.ensures in
    let holder = holder_of _ _ _ _ c.self.view_is _ _ _ _ c.pass.invariant _ c.pass.view_is c.requires.holder in
    let adds = subst (λ p. Adds g.V.Logged.context p (g.V.Logged.history c.args.value)) (sym c.pass.view_is) c.requires.adds in
    let birth = ap (λ p. p.birth) c.pass.view_is ∙ c.requires.birth in
    (out.0 ∙ holder.0, words, put_gives _ _ _ _ _ _ _ _ _ _ c.args.value holder.1 adds birth out.3)
