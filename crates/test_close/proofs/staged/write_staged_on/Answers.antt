use Rattle.std.proofs.Common.{◌∙◌, arith, sym}
use Rattle.nt_schema.proofs.WholeRows.{described_whole}
use Rattle.test_close.proofs.Growing.{new-notes}
use Rattle.test_close.proofs.Publishing.{new-unpublished}
use Rattle.test_close.proofs.staged.write_staged_on.Goals as goal

pub fill_staged-requires-clause-unpublished : goal.fill_staged-requires-clause-unpublished
fill_staged-requires-clause-unpublished c =
    new-unpublished _ c.args.params.now _ c.in-Ok.ensures.begun.book_is (sym c.staged.ensures ∙ c.if-not-staged.false)

pub fill_staged-requires-clause-notes : goal.fill_staged-requires-clause-notes
fill_staged-requires-clause-notes c = new-notes _ _ _ c.in-Ok.ensures.begun.book_is (omega arith)

pub fill_staged-requires-clause-whole : goal.fill_staged-requires-clause-whole
fill_staged-requires-clause-whole c = described_whole _ _ _ c.in-Ok.ensures.begun.rows
