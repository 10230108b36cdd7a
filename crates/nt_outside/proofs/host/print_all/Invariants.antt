use Rattle.std.proofs.Common.{◌≡◌, ℕ, ◌-◌, ◌≤◌, List, length, take}
use Rattle.nt_outside.specs.World.{HostState, Turns, prints, counted, uncounted}
use Rattle.nt_outside.specs.declared.stream.Stream.{Stream}
use Rattle.nt_outside.proofs.host.print_all.Given as goal

-- the first bytes are printed
pub record Printed (stream : Stream) (before now : HostState) (at : ℕ) (bytes : List ℕ) : Type 0 where
  pub within : at ≤ length bytes
  pub world : Turns before.world now.world (prints stream (take at bytes))
  pub asked : now.asked ≡ before.asked
  pub later : counted stream before ≤ counted stream now
  pub other : uncounted stream now ≡ uncounted stream before
  pub opened : now.opened ≡ before.opened

abbrev pub invariant-loop-at : goal.invariant-loop-at
invariant-loop-at g l =
    Printed l.stream (g.H.Host.state l.initial.host) (g.H.Host.state l.host) l.at l.bytes

abbrev pub decreases-loop-at : goal.decreases-loop-at
decreases-loop-at g l = length l.bytes - l.at
