use Rattle.std.proofs.Common.{◌∙◌, ℕ, List, map, ap, subst}
use Rattle.std.specs.Prelude.{IfSome}
use Rattle.nt_column.specs.Elements.{numbers}
use Rattle.nt_column.proofs.Numbers.{numbers-range}
use Rattle.nt_total.specs.Keys.{key, IsPieceOf}
use Rattle.nt_total.proofs.parallel.lent_part.Goals as goal

pub returns : goal.returns
returns g c =
    let es = g.C.Columns.elements c.args.columns.now c.args.column in
    let part = ap numbers c.in_ok-words.ensures.words ∙ numbers-range es c.args.from c.args.to in
    subst (λ (ns : List ℕ). IfSome c.lent_piece.result (λ p. IsPieceOf (map (key c.args.bias) ns) p)) part c.lent_piece.ensures
