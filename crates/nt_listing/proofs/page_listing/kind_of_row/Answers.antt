use Rattle.nt_listing.proofs.ColumnKinds.{kind-of_code}
use Rattle.nt_listing.proofs.page_listing.kind_of_row.Goals as goal

pub returns : goal.returns
returns c = kind-of_code c.args.row.now.code c.of_code.result c.of_code.ensures.found c.of_code.ensures.each
