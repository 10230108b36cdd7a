use Rattle.std.proofs.Common.{rules, ◌≡◌}
use Rattle.test_commit.specs.Joined.{HasNoRange, HasAllBack}
use Rattle.test_commit.proofs.Joined.{back-around}
use Rattle.test_commit.proofs.tests.threads.+fn-write_beside_each_other-join_mut+arg3+write_beside_each_other.Goals as goal

pub returns : goal.returns
returns g t c =
    let between = c.first-1.given.0 in
    let around : HasAllBack c.args.committer.now c.enter_one.new.first between = search rules in
    let number : c.pass-3-1.given.0.number ≡ c.in-Ok.pass.number = search rules in
    back-around c.args.committer.now c.args.first.now c.enter_one.new.first between c.leave_one.new.first c.in-Ok.pass _
    c.in-Ok.ensures.ok around number c.leave_one.ensures
