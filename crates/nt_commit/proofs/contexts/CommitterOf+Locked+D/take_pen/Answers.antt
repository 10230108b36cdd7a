use Rattle.nt_commit.proofs.Holding.{hold}
use Rattle.nt_commit.proofs.contexts.CommitterOf+Locked+D.take_pen.Goals as goal

pub returns : goal.returns
returns g c =
    record {
      keeps = record {
        taken = c.take-locked.result;
        given = c.take_pen.new.self;
        hold = hold g.D.Disk.state _ _ _ _ c.requires.pass c.take-locked.ensures.pass c.take-locked.ensures.took _ _
            c.take_pen.ensures.step c.take_pen.ensures.keeps.same tt _ c.give.ensures;
      };
    }
