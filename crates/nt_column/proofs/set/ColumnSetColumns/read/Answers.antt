use Rattle.std.proofs.Common.{◌<◌, ◌≤◌, ◌+◌, List, sym, subst, length}
use Rattle.nt_column.specs.Elements.{Element}
use Rattle.nt_column.proofs.Sets.{elements-at}
use Rattle.nt_column.proofs.set.ColumnSetColumns.read.Goals as goal

pub read-requires-clause-within : goal.read-requires-clause-within
read-requires-clause-within c =
    subst (λ (es : List Element). c.args.from < length es) (elements-at c.args.self.now c.args.column _ c.column.ensures) c.requires.within

pub returns-clause-within : goal.returns-clause-within
returns-clause-within c =
    let same = elements-at c.args.self.now c.args.column _ c.column.ensures in
    subst (λ (es : List Element). c.args.from + c.read.result ≤ length es) (sym same) c.read.ensures.within

pub returns-clause-read : goal.returns-clause-read
returns-clause-read c = rw (elements-at c.args.self.now c.args.column _ c.column.ensures) c.read.ensures.read
