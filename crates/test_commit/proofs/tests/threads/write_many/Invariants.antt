use Rattle.std.proofs.Common.{◌≡◌, false}
use Rattle.test_commit.specs.Joined.{HasNoRange}
use Rattle.test_commit.proofs.tests.threads.write_many.Given as goal

abbrev pub invariant-loop-more : goal.invariant-loop-more
invariant-loop-more g l =
    HasNoRange l.committer l.fn.pass.number l.pass × ((l.committer.birth.columns ≡ 0) × (l.committer.birth.staged ≡ false))
