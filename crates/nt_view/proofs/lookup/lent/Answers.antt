use Rattle.nt_view.proofs.InTable.{pages-in}
use Rattle.nt_view.proofs.lookup.lent.Goals as goal

pub lent_bytes-requires-clause-part : goal.lent_bytes-requires-clause-part
lent_bytes-requires-clause-part c = record {
  order = c.requires.part.order;
  within =
      rw (
        c.deref.ensures.value,
        ← pages-in c.args.store.now c.args.table.now c.args.column c.in-Pages.begin c.in-Pages.end
            c.in-Pages.count c.in-Pages.kind c.in-Pages.ensures,
      ) c.requires.part.within;
}
