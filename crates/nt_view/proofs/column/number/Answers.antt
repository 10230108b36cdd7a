use Rattle.nt_view.proofs.Elements.{number-in}
use Rattle.nt_view.proofs.column.number.Goals as goal

pub returns : goal.returns
returns c =
    number-in c.args.kind c.args.store.now c.args.pages.now c.page_with.result c.args.i c.value_of.result _
    c.requires.own.pages.follow c.page_with.ensures (rw c.page_bytes-bytes.ensures at c.value_of.ensures)
