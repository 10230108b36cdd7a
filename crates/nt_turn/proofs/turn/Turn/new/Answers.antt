use Rattle.std.proofs.Common.{map, ap, ◌∙◌, ◌++◌, ◌∷◌, [], Some}
use mathlib.Core.Option.{some}
use Rattle.nt_turn.proofs.Opening.{opens}
use Rattle.nt_turn.proofs.turn.Turn.new.Goals as goal

pub new-requires : goal.new-requires
new-requires g c =
    let items = c.in_default.ensures.items ∙ ap (λ l. l ++ Some c.args.value ∷ []) c.new-slots.ensures.items in
    opens g.V.Logged.history g.V.Logged.birth g.V.Logged.context c.args.seats c.args.value c.of.result.value _
    (ap (λ l. map some l) items) c.requires.empty c.of.ensures
