use Rattle.std.proofs.Common.{refl, subst}
use Rattle.nt_commit.specs.Holds.{IsLater}
use Rattle.nt_commit.proofs.locked.Locked.append_due.Goals as goal

pub returns-then-is_empty-clause-step : goal.returns-then-is_empty-clause-step
returns-then-is_empty-clause-step g c =
    subst (λ v. IsLater g.D.Disk.state v v) c.self.view_is (record {
      birth = refl;
      before = c.self.invariant;
      after = c.self.invariant;
    })
