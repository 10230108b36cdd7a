use Rattle.std.proofs.Common.{◌≡◌}
use Rattle.test_commit.proofs.Joined.{all-left}
use Rattle.test_commit.proofs.pairs.written.Goals as goal

pub finish-disk-requires-clause-left : goal.finish-disk-requires-clause-left
finish-disk-requires-clause-left g c =
    all-left c.in-Ok-new.committer c.in-Ok-new.first c.write_two-refusals.new.first c.in-Ok-new.ensures.ok.2
    c.write_two-refusals.ensures
