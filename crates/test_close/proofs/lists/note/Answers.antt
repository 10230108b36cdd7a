use Rattle.std.proofs.Common.{arith}
use Rattle.test_close.proofs.Keeping.{keeps-list}
use Rattle.test_close.proofs.lists.note.Goals as goal

pub returns : goal.returns
returns c =
    keeps-list c.args.book.now c.note_list.new.self _ c.args.len c.note_list.ensures c.keeps.ensures c.requires.due
    (omega (arith, c.requires.long)) (omega (arith, c.requires.long)) c.requires.fits.0
