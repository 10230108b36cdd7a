use Rattle.std.proofs.Common.{ltb, ◌+◌, length, map, ap, sym}
use Rattle.std.proofs.lemmas.List.{length-map}
use Rattle.nt_lines.proofs.Placed.{kept-placed, list-placed}
use Rattle.nt_lines.proofs.placing.place_list.Goals as goal

pub returns-clause-text : goal.returns-clause-text
returns-clause-text g c = λ some.
    let words = c.args.words.now in
    list-placed c.args.at (c.args.at + 1) c.place_integers-end.result c.place_end.result c.args.mark c.args.form.0 c.args.form.1
    (map g.W.Word.number words) c.args.room.now c.place_byte.new.room c.place_integers-end.new.room c.place_end.new.room
    (ltb 0 (length words)) (ap (λ n. ltb 0 n) (sym (length-map words g.W.Word.number)))
    c.place_byte.ensures.text c.place_integers-end.ensures.text c.place_end.ensures.text

pub returns-clause-kept : goal.returns-clause-kept
returns-clause-kept g c =
    let words = c.args.words.now in
    kept-placed c.args.at c.place_end.result c.args.room.now c.place_end.new.room _ c.requires
    (list-placed c.args.at (c.args.at + 1) c.place_integers-end.result c.place_end.result c.args.mark c.args.form.0 c.args.form.1
    (map g.W.Word.number words) c.args.room.now c.place_byte.new.room c.place_integers-end.new.room c.place_end.new.room
    (ltb 0 (length words)) (ap (λ n. ltb 0 n) (sym (length-map words g.W.Word.number)))
    c.place_byte.ensures.text c.place_integers-end.ensures.text c.place_end.ensures.text)
