use Rattle.std.proofs.Common.{◌∙◌, sym}
use Rattle.nt_column.proofs.Pages.{page-bytes}
use Rattle.nt_column.proofs.widths.encode_bytes.Goals as goal

pub returns : goal.returns
returns c = c.copy_from_slice.ensures.after ∙ sym (page-bytes c.args.kind c.args.list.now c.requires.kind c.type_inv.list)
