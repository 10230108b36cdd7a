use Rattle.std.proofs.Common.{refl}
use Rattle.test_commit.proofs.Joined.{back-alone}
use Rattle.test_commit.proofs.pairs.write_with_another.Goals as goal

pub returns-in_default-image_of-clause-all : goal.returns-in_default-image_of-clause-all
returns-in_default-image_of-clause-all g c =
    back-alone c.args.committer.now c.args.first.now c.enter_one.new.first c.leave_one.new.first c.in-Ok.pass _ c.in-Ok.ensures.ok
    refl c.leave_one.ensures

pub returns-clause-all : goal.returns-clause-all
returns-clause-all g c =
    back-alone c.args.committer.now c.args.first.now c.enter_one.new.first c.leave_one-2.new.first c.in-Ok.pass _ c.in-Ok.ensures.ok
    c.write_led-a.ensures.b.number_is c.leave_one-2.ensures
