use Rattle.std.proofs.Common.{◌∷◌, ◌++◌, take, sym, ap, ◌∙◌}
use Rattle.serde_json.specs.Written.{compact_text}
use Rattle.nt_event.specs.Json.{data_of}
use Rattle.nt_lines.specs.Lent.{lent_tree}
use Rattle.nt_lines.specs.declared.lent.Lent.{Lent}
use Rattle.nt_lines.proofs.LentPlans.{options-text}
use Rattle.nt_lines.proofs.options.place_lent_options.Goals as goal

pub returns-in-OptionLists32-clause-text : goal.returns-in-OptionLists32-clause-text
returns-in-OptionLists32-clause-text c = λ some.
    let l = c.in-OptionLists32 in
    c.place_options.ensures.text some
    ∙ options-text (take c.args.at c.args.room.now) c.args.mark l.lists.now l.ends.now l.words.now l.bits l.signed c.args.i
    c.begin_in.result c.end_in.result c.begin_in.ensures c.end_in.ensures
    ∙ ap (λ (v : Lent). take c.args.at c.args.room.now ++ c.args.mark ∷ compact_text (data_of (lent_tree v c.args.i))) (sym l.is)

pub returns-in-OptionLists64-clause-text : goal.returns-in-OptionLists64-clause-text
returns-in-OptionLists64-clause-text c = λ some.
    let l = c.in-OptionLists64 in
    c.place_options-in-OptionLists64.ensures.text some
    ∙ options-text (take c.args.at c.args.room.now) c.args.mark l.lists.now l.ends.now l.words.now l.bits l.signed c.args.i
    c.begin_in-in-OptionLists64.result c.end_in-in-OptionLists64.result c.begin_in-in-OptionLists64.ensures
    c.end_in-in-OptionLists64.ensures
    ∙ ap (λ (v : Lent). take c.args.at c.args.room.now ++ c.args.mark ∷ compact_text (data_of (lent_tree v c.args.i))) (sym l.is)
