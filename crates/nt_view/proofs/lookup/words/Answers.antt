use Rattle.nt_view.proofs.InTable.{sums-in}
use Rattle.nt_view.proofs.lookup.words.Goals as goal

pub words-requires-clause-within : goal.words-requires-clause-within
words-requires-clause-within c =
    rw (sums-in c.args.store.now c.args.table.now c.args.column c.in-Sums.place c.index.result.now c.in-Sums.ensures c.index.ensures
    c.requires.column) at c.requires.part.within

pub returns-in-Sums : goal.returns-in-Sums
returns-in-Sums c =
    rw (sums-in c.args.store.now c.args.table.now c.args.column c.in-Sums.place c.index.result.now c.in-Sums.ensures c.index.ensures
    c.requires.column) c.words.ensures.words
