use Rattle.std.proofs.Common.{length}
use Rattle.nt_outside.specs.World.{HostState}
use Rattle.nt_merge_files.specs.Files.{ReturnsFiles}
use Rattle.nt_merge_files.proofs.opening.return_files.Given as goal

abbrev pub invariant-loop-host : goal.invariant-loop-host
invariant-loop-host g l = (new : HostState) → ReturnsFiles g.H.File.ReadAt.state l.files.items (g.H.Host.state l.host) new
    → ReturnsFiles g.H.File.ReadAt.state l.initial.files.items (g.H.Host.state l.initial.host) new

abbrev pub decreases-loop-host : goal.decreases-loop-host
decreases-loop-host g l = length l.files.items
