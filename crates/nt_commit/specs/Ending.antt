-- What a committer leaves when it ends.
use Rattle.std.specs.Prelude.{◌≡◌, []}
use Rattle.nt_outside.specs.Held.{BecomesSome}
use Rattle.nt_outside.specs.Disk.{DiskState}
use Rattle.nt_cuts.specs.Cuts.{LeavesUnfinished}
use Rattle.nt_cuts.specs.Shut.{StaysShut}
use Rattle.nt_commit.specs.Locked.{LockedState}

-- no range of the disk is out; and where the file was shut when it was begun, it still is, and so a crash at any step leaves what isn't
-- finished, whatever the contexts did
pub record LeavesDisk {D : Type 0} (state : D → DiskState) (locked : LockedState D) : Type 0 where
  pub out : (state locked.disk).out ≡ []
  pub crash : BecomesSome (state locked.birth.begun).held (state locked.disk).held (λ h h'. StaysShut h.log
      → StaysShut h'.log × LeavesUnfinished h'.log)
