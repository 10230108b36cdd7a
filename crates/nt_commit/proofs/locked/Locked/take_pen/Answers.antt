use Rattle.std.proofs.Common.{refl}
use Rattle.nt_commit.proofs.Stepping.{same_history}
use Rattle.nt_commit.proofs.Owned.{step_from, keeps_from}
use Rattle.nt_commit.proofs.locked.Locked.take_pen.Goals as goal

pub invariant_of-self : goal.invariant_of-self
invariant_of-self g c =
    let back = c.return_pen.ensures in
    (same_history g.D.Disk.state _ _ _ _ c.self.invariant _ _ c.self.inside.book.spare {ready = c.self.inside.book.ready}
    refl back.place back.faults_taken.later).0.after

pub returns-clause-step : goal.returns-clause-step
returns-clause-step g c =
    let back = c.return_pen.ensures in
    step_from g.D.Disk.state _ _ _ c.self.view_is (same_history g.D.Disk.state _ _ _ _ c.self.invariant _ _ c.self.inside.book.spare
    {ready = c.self.inside.book.ready} refl back.place back.faults_taken.later).0

pub returns-clause-keeps : goal.returns-clause-keeps
returns-clause-keeps g c =
    let back = c.return_pen.ensures in
    keeps_from g.D.Disk.state _ _ _ c.self.view_is (record {
      same =
          (same_history g.D.Disk.state _ _ _ _ c.self.invariant _ _ c.self.inside.book.spare {ready = c.self.inside.book.ready}
          refl back.place back.faults_taken.later).1;
    })
