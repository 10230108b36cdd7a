use Rattle.std.proofs.Common.{refl, arith}
use Rattle.nt_commit.proofs.Stepping.{same_history}
use Rattle.nt_commit.proofs.Owned.{step_from}
use Rattle.nt_commit.proofs.locked.Locked.make_room.Goals as goal

pub invariant_of-self : goal.invariant_of-self
invariant_of-self g c =
    (same_history g.D.Disk.state _ _ _ _ c.self.invariant _ _ c.room.new.self.spare c.room.ensures.same (record {
      held = refl;
      end = refl;
      out = refl;
    }) (omega arith)).0.after

pub returns-clause-step : goal.returns-clause-step
returns-clause-step g c =
    step_from g.D.Disk.state _ _ _ c.self.view_is
    (same_history g.D.Disk.state _ _ _ _ c.self.invariant _ _ c.room.new.self.spare c.room.ensures.same (record {
      held = refl;
      end = refl;
      out = refl;
    }) (omega arith)).0
