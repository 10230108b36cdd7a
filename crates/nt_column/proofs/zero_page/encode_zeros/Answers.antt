use Rattle.std.proofs.Common.{◌∙◌}
use Rattle.nt_column.proofs.ZeroPages.{zero-page}
use Rattle.nt_column.proofs.zero_page.encode_zeros.Goals as goal

pub returns : goal.returns
returns c = c.fill.ensures.after (λ y h. h) ∙ zero-page c.args.kind c.args.count _ c.requires
