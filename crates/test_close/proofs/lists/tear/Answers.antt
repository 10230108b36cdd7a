use Rattle.test_close.proofs.Keeping.{keeps-torn}
use Rattle.test_close.proofs.lists.tear.Goals as goal

pub returns : goal.returns
returns c = keeps-torn c.args.book.now c.tear.new.self _ c.keeps.ensures c.tear.ensures
