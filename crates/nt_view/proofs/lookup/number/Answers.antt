use Rattle.std.proofs.Common.{◌∙◌, List, sym, ap, get_or}
use Rattle.nt_encode.specs.Elements.{Element, numbers}
use Rattle.nt_view.proofs.InTable.{pages-in, sums-in, zeros-number}
use Rattle.nt_view.proofs.lookup.number.Goals as goal

pub number-requires-clause-within : goal.number-requires-clause-within
number-requires-clause-within c =
    rw (
      c.deref.ensures.value,
      ← pages-in c.args.store.now c.args.table.now c.args.column c.in-Pages.begin c.in-Pages.end c.in-Pages.count
          c.in-Pages.kind c.in-Pages.ensures,
    ) c.requires.within

pub number-requires-in-Sums : goal.number-requires-in-Sums
number-requires-in-Sums c =
    rw (sums-in c.args.store.now c.args.table.now c.args.column c.in-Sums.place c.index.result.now c.in-Sums.ensures c.index.ensures
    c.requires.column) at c.requires.within

pub returns-in-Zeros : goal.returns-in-Zeros
returns-in-Zeros c =
    zeros-number c.args.store.now c.args.table.now c.args.column c.in-Zeros.field-0 c.args.i c.in-Zeros.ensures

pub returns-in-Sums : goal.returns-in-Sums
returns-in-Sums c =
    c.number-in-Sums.ensures ∙ sym (ap (λ (es : List Element). get_or (numbers es) c.args.i 0)
    (sums-in c.args.store.now c.args.table.now c.args.column c.in-Sums.place c.index.result.now c.in-Sums.ensures c.index.ensures
    c.requires.column))
