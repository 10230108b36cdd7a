use Rattle.test_close.proofs.Keeping.{keeps-spare}
use Rattle.test_close.proofs.lists.make_room.Goals as goal

pub returns-clause-notes : goal.returns-clause-notes
returns-clause-notes c = keeps-spare c.args.book.now c.room.new.self _ c.keeps.ensures c.room.ensures.same
