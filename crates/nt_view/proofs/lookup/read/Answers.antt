use Rattle.std.proofs.Common.{◌∙◌}
use Rattle.nt_view.proofs.InTable.{pages-in, sums-in, zeros-read}
use Rattle.nt_view.proofs.lookup.read.Goals as goal

pub read-requires-clause-room : goal.read-requires-clause-room
read-requires-clause-room c = (
  rw (
    c.deref.ensures.value,
    ← pages-in c.args.store.now c.args.table.now c.args.column c.in-Pages.begin c.in-Pages.end c.in-Pages.count
        c.in-Pages.kind c.in-Pages.ensures,
  ) c.requires.room.0,
  c.requires.room.1,
)

pub read-requires-in-Sums-clause-within : goal.read-requires-in-Sums-clause-within
read-requires-in-Sums-clause-within c =
    rw (sums-in c.args.store.now c.args.table.now c.args.column c.in-Sums.place c.index.result.now c.in-Sums.ensures c.index.ensures
    c.requires.column) at c.requires.room.0

pub returns-in-Zeros-clause-read : goal.returns-in-Zeros-clause-read
returns-in-Zeros-clause-read c =
    c.read_zeros.ensures.read
    ∙ zeros-read c.args.store.now c.args.table.now c.args.column c.in-Zeros.count c.args.from c.read_zeros.result c.in-Zeros.ensures
    c.read_zeros.ensures.within

pub returns-in-Sums-clause-within : goal.returns-in-Sums-clause-within
returns-in-Sums-clause-within c =
    rw (sums-in c.args.store.now c.args.table.now c.args.column c.in-Sums.place c.index.result.now c.in-Sums.ensures c.index.ensures
    c.requires.column) c.read-in-Sums.ensures.within

pub returns-in-Sums-clause-read : goal.returns-in-Sums-clause-read
returns-in-Sums-clause-read c =
    rw (sums-in c.args.store.now c.args.table.now c.args.column c.in-Sums.place c.index.result.now c.in-Sums.ensures c.index.ensures
    c.requires.column) c.read-in-Sums.ensures.read
