use Rattle.nt_commit.proofs.Holding.{adds, hold}
use Rattle.nt_commit.proofs.Unpublished.{filled_taken, own_publish, publishes_by, unpublished_taken}
use Rattle.nt_commit.proofs.committing.CommitterOf+Locked+D.publish.Goals as goal

pub publish-answer-requires-clause-before : goal.publish-answer-requires-clause-before
publish-answer-requires-clause-before g c =
    unpublished_taken g.D.Disk.state _ _ c.take-locked.ensures.took _ c.number-context.ensures c.requires.ready.before

pub publish-answer-requires-clause-filled : goal.publish-answer-requires-clause-filled
publish-answer-requires-clause-filled g c =
    filled_taken g.D.Disk.state _ _ c.take-locked.ensures.took _ c.number-context.ensures c.requires.ready.filled

pub give-requires-clause-adds : goal.give-requires-clause-adds
give-requires-clause-adds g c =
    let grows = publishes_by g.D.Disk.state _ _ c.take-locked.ensures.took _ c.number-context.ensures _ _
    c.publish-answer.ensures.publishes in
    adds g.D.Disk.state _ _ _ _ c.requires.pass c.take-locked.ensures.pass c.take-locked.ensures.took c.publish-answer.new.self _
    c.publish-answer.ensures.step grows (own_publish _ _ c.publish-answer.result)

pub returns : goal.returns
returns g c =
    let grows = publishes_by g.D.Disk.state _ _ c.take-locked.ensures.took _ c.number-context.ensures _ _
    c.publish-answer.ensures.publishes in
    record {
      publishes = record {
        taken = c.take-locked.result;
        given = c.publish-answer.new.self;
        refused = c.publish-answer.ensures.publishes.refused;
        hold = hold g.D.Disk.state _ _ _ _ c.requires.pass c.take-locked.ensures.pass c.take-locked.ensures.took _ _
            c.publish-answer.ensures.step grows (own_publish _ _ c.publish-answer.result) _ c.give.ensures;
      };
    }
