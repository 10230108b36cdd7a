use Rattle.std.proofs.Common.{◌∷◌, ◌∙◌, ap, decimal, arith}
use Rattle.nt_print.proofs.Decimals.{small-text}
use Rattle.nt_print.proofs.digits.small_word.Goals as goal

pub returns-clause-text : goal.returns-clause-text
returns-clause-text c =
    small-text c.from.result c.args.n c.triple.result c.zeros_before-none.result (omega (arith, c.from.ensures, c.ranges.mark.fits))
    c.requires
    c.triple.ensures c.zeros_before-none.ensures.units c.zeros_before-none.ensures.tens c.zeros_before-none.ensures.hundreds
    ∙ ap (λ k. k ∷ decimal c.args.n) c.from.ensures
