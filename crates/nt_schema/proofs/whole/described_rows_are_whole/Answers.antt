use Rattle.nt_schema.proofs.WholeRows.{described_whole, added-whole}
use Rattle.nt_schema.proofs.whole.described_rows_are_whole.Goals as goal

pub returns : goal.returns
returns c = record { described = described_whole; added = added-whole }
