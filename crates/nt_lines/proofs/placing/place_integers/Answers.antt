use Rattle.std.proofs.Common.{◌≡◌, ◌++◌, ℤ, List, map, take, subst}
use Rattle.nt_print.specs.Integers.{integers_text}
use Rattle.nt_print.proofs.Parts.{below-more, integers-below}
use Rattle.nt_lines.proofs.placing.place_integers.Goals as goal

pub place_each-requires-clause-below : goal.place_each-requires-clause-below
place_each-requires-clause-below g c =
    below-more c.short_end.result 1000000 (map g.W.Word.number c.args.words.now) c.short_end.ensures.short
    (c.are_below.ensures c.if-are_below.true)

pub returns-then-are_below-clause-text : goal.returns-then-are_below-clause-text
returns-then-are_below-clause-text g c =
    subst (λ (zs : List ℤ). take c.place_each.result c.place_each.new.room ≡ take c.args.from c.args.room.now
    ++ integers_text c.args.mark zs)
    (integers-below c.args.form.0 c.args.form.1 c.short_end.result (map g.W.Word.number c.args.words.now) c.short_end.ensures.same
    (c.are_below.ensures c.if-are_below.true)) c.place_each.ensures.text
