use Rattle.std.proofs.lemmas.Result.{on_ok_weaker}
use Rattle.test_close.proofs.Growing.{keeps-then}
use Rattle.test_close.proofs.lists.put_due.Goals as goal

pub returns-then-not-due-clause-notes : goal.returns-then-not-due-clause-notes
returns-then-not-due-clause-notes c = c.make_room.ensures.notes

pub returns-clause-notes : goal.returns-clause-notes
returns-clause-notes c =
    on_ok_weaker c.put_list.result
    (keeps-then c.args.book.now c.make_room.new.book c.put_list.new.book c.make_room.ensures.notes) c.put_list.ensures.notes
