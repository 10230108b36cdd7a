use Rattle.std.proofs.Common.{◌≡◌, subst}
use Rattle.std.specs.List.{AllByRecursion}
use Rattle.nt_commit.proofs.Holding.{birth_is, commits_by, own_commit, hold}
use Rattle.nt_commit.proofs.Unpublished.{may_reserve}
use Rattle.nt_commit.proofs.committing.CommitterOf+Locked+D.reserve.Goals as goal

pub commit-answer-requires-clause-before : goal.commit-answer-requires-clause-before
commit-answer-requires-clause-before g c =
    may_reserve g.D.Disk.state _ _ c.take-locked.ensures.took _ c.requires.meta.0 _
    (birth_is g.D.Disk.state _ _ _ _ c.requires.pass c.take-locked.ensures.pass c.take-locked.ensures.took) c.requires.before

pub returns-clause-commits : goal.returns-clause-commits
returns-clause-commits g c =
    let done = commits_by g.D.Disk.state _ _ _ _ c.requires.pass c.take-locked.ensures.pass c.take-locked.ensures.took
    g.D.Ext.Ext.state c.args.meta.now c.commit-answer.new.self c.commit-answer.result c.commit-answer.ensures.commits in
    let ours = subst (λ n. AllByRecursion (λ e. e.context ≡ n) done.added) c.requires.meta.0
    (own_commit _ _ _ _ _ _ _ _ _ _ done.adds) in
    record {
      taken = c.take-locked.result;
      given = c.commit-answer.new.self;
      commits = done;
      hold = hold g.D.Disk.state _ _ _ _ c.requires.pass c.take-locked.ensures.pass c.take-locked.ensures.took _ _
          c.commit-answer.ensures.step done.grows ours _ c.give.ensures;
    }
