use Rattle.std.proofs.Common.{◌∷◌, ◌++◌, ℕ, List, take, sym, ap, ◌∙◌}
use Rattle.std.proofs.lemmas.List.{map-id}
use Rattle.serde_json.specs.Written.{compact_text}
use Rattle.nt_event.specs.Json.{data_of}
use Rattle.nt_lines.specs.Lent.{option_tree, lent_tree}
use Rattle.nt_lines.specs.declared.lent.Lent.{Lent}
use Rattle.nt_lines.proofs.placing.place_lent.Goals as goal

pub returns-in-Options32-clause-text : goal.returns-in-Options32-clause-text
returns-in-Options32-clause-text c = λ some.
    let l = c.in-Options32 in
    c.place_optional.ensures.text some
    ∙ ap (λ (ws : List ℕ). take c.args.at c.args.room.now ++ c.args.mark ∷ compact_text
    (data_of (option_tree l.ends.now ws l.bits l.signed c.args.i))) (map-id l.words.now)
    ∙ ap (λ (v : Lent). take c.args.at c.args.room.now ++ c.args.mark ∷ compact_text (data_of (lent_tree v c.args.i))) (sym l.is)

pub returns-in-Options64-clause-text : goal.returns-in-Options64-clause-text
returns-in-Options64-clause-text c = λ some.
    let l = c.in-Options64 in
    c.place_optional-in-Options64.ensures.text some
    ∙ ap (λ (ws : List ℕ). take c.args.at c.args.room.now ++ c.args.mark ∷ compact_text
    (data_of (option_tree l.ends.now ws l.bits l.signed c.args.i))) (map-id l.words.now)
    ∙ ap (λ (v : Lent). take c.args.at c.args.room.now ++ c.args.mark ∷ compact_text (data_of (lent_tree v c.args.i))) (sym l.is)
