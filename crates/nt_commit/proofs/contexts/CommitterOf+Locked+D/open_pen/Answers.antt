use Rattle.nt_commit.proofs.Holding.{own_pen, opens_by, hold}
use Rattle.nt_commit.proofs.contexts.CommitterOf+Locked+D.open_pen.Goals as goal

pub returns-clause-opens : goal.returns-clause-opens
returns-clause-opens g c =
    let done = opens_by g.D.Disk.state _ _ _ _ c.requires.pass c.take-locked.ensures.pass c.take-locked.ensures.took _
    c.number-context.result _ c.number-context.ensures c.open_pen-answer.ensures.opens in
    record {
      taken = c.take-locked.result;
      given = c.open_pen-answer.new.self;
      opens = done;
      hold = hold g.D.Disk.state _ _ _ _ c.requires.pass c.take-locked.ensures.pass c.take-locked.ensures.took _ _
          c.open_pen-answer.ensures.step done.grows (own_pen _ _ _ _ _ done.adds) _ c.give.ensures;
    }
