use Rattle.test_book.proofs.Appended.{out_last}
use Rattle.test_book.proofs.tests.append.Goals as goal

pub settle-requires : goal.settle-requires
settle-requires c = out_last _ _ _ c.args.meta.now c.append-number.ensures.number c.append-number.ensures.book

pub spoil-requires : goal.spoil-requires
spoil-requires c = out_last _ _ _ c.args.meta.now c.append-number.ensures.number c.append-number.ensures.book
