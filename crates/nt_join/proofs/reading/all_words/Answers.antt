use Rattle.std.proofs.Common.{◌≡◌, ◌-◌, List, subst, arith}
use Rattle.std.specs.Prelude.{IfSome}
use Rattle.std.proofs.lemmas.List.{take_all}
use Rattle.nt_column.specs.Elements.{Element}
use Rattle.nt_column.specs.Words.{lent_elements}
use Rattle.nt_join.proofs.reading.all_words.Goals as goal

pub returns : goal.returns
returns g c =
    let es = g.C.Columns.elements c.args.columns.now c.args.column in
    subst (λ (xs : List Element). IfSome c.words.result (λ w. lent_elements w ≡ xs))
    (take_all (c.len.result - 0) es (omega (arith, c.len.ensures))) c.words.ensures.words
