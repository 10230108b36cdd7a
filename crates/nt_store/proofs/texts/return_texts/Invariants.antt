use Rattle.std.proofs.Common.{map, length}
use Rattle.nt_outside.specs.World.{HostState}
use Rattle.nt_store.specs.Worlds.{PutsTexts}
use Rattle.nt_store.proofs.texts.return_texts.Given as goal

abbrev pub invariant-loop-host : goal.invariant-loop-host
invariant-loop-host g l = (new : HostState) → PutsTexts (map g.H.Text.Source.state l.texts.items) (g.H.Host.state l.host) new
    → PutsTexts (map g.H.Text.Source.state l.initial.texts.items) (g.H.Host.state l.initial.host) new

abbrev pub decreases-loop-host : goal.decreases-loop-host
decreases-loop-host g l = length l.texts.items
