use Rattle.nt_view.proofs.Elements.{tag-in}
use Rattle.nt_view.proofs.column.pair_tag.Goals as goal

pub returns : goal.returns
returns c =
    tag-in c.args.store.now c.args.pages.now c.page_with.result c.args.i c.tag_of_pair.result _
    c.requires.pages.follow c.page_with.ensures (rw c.page_bytes-bytes.ensures at c.tag_of_pair.ensures)
