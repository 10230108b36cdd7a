use Rattle.std.proofs.Common.{◌≤◌, List, subst, length, arith}
use Rattle.std.proofs.lemmas.Option.{slice_get_within}
use Rattle.nt_column.specs.Elements.{Element}
use Rattle.nt_column.proofs.Sets.{elements-at}
use Rattle.nt_column.proofs.set.ColumnSetColumns.words.Goals as goal

pub words-requires-clause-within : goal.words-requires-clause-within
words-requires-clause-within c =
    subst (λ (es : List Element). c.args.to ≤ length es) (elements-at c.args.self.now c.args.column _ c.column.ensures) c.requires.within

pub returns-then-column-columns-clause-words : goal.returns-then-column-columns-clause-words
returns-then-column-columns-clause-words c =
    rw (elements-at c.args.self.now c.args.column _ c.column.ensures) c.words.ensures.words

pub returns-else-column-columns-clause-lent : goal.returns-else-column-columns-clause-lent
returns-else-column-columns-clause-lent c b there = absurd (omega (arith, slice_get_within c.args.self.now c.args.column b there))
