use Rattle.test_commit.proofs.Joined.{back-around}
use Rattle.test_commit.proofs.pairs.write_two.Goals as goal

pub returns : goal.returns
returns g c =
    back-around c.args.committer.now c.args.first.now c.enter_one.new.first c.write_with_another-a.new.first c.leave_one-2.new.first
    c.in-Ok.pass _ c.in-Ok.ensures.ok
    c.write_with_another-a.ensures.all c.write_with_another-a.ensures.done.number_is c.leave_one-2.ensures
