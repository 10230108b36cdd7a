use Rattle.std.proofs.Common.{List, ℕ, ◌++◌, length, ltb, ap, ◌∙◌, map, pos, arith}
use Rattle.nt_print.specs.Integers.{integers_text}
use Rattle.nt_print.specs.Marks.{end_of}
use Rattle.nt_print.proofs.few.place_array.Goals as goal

pub returns-clause-text : goal.returns-clause-text
returns-clause-text g c = λ some.
    let all = integers_text 91 (map pos (map g.W.Word.number c.args.words.now)) in
    c.place_end.ensures.text
    ∙ ap (λ (l : List ℕ). l ++ end_of (ltb 0 (length c.args.words.now)))
    (c.place_below-at.ensures.text (omega (arith, c.if-at-eq0.false)) ∙ ap (λ (l : List ℕ). l ++ all) c.place_byte.ensures.text)
