use Rattle.std.proofs.Common.{arith}
use Rattle.nt_schema.proofs.WholeRows.{described_whole}
use Rattle.test_close.proofs.Growing.{new-notes}
use Rattle.test_close.proofs.files.write_on.Goals as goal

pub fill-requires-clause-notes : goal.fill-requires-clause-notes
fill-requires-clause-notes c = new-notes _ _ _ c.in-Ok.ensures.begun.book_is (omega arith)

pub fill-requires-clause-whole : goal.fill-requires-clause-whole
fill-requires-clause-whole c = described_whole _ _ _ c.in-Ok.ensures.begun.rows
