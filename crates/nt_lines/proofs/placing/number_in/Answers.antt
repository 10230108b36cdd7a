use Rattle.std.proofs.Common.{map, sym, ap, ◌∙◌}
use Rattle.std.proofs.lemmas.List.{get_or-map}
use Rattle.nt_join.proofs.Unmet.{number_at-plain}
use Rattle.nt_lines.proofs.placing.number_in.Goals as goal

pub returns : goal.returns
returns g c =
    let words = c.args.words.now in
    c.number.ensures ∙ ap g.W.Word.number c.index-words-i.is
    ∙ sym (get_or-map g.W.Word.number words c.args.i c.index-words-i.result 0 c.requires)
    ∙ sym (number_at-plain (map g.W.Word.number words) c.args.i)
