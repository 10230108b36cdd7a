use Rattle.nt_dealing.proofs.Filled.{filled}
use Rattle.nt_dealing.proofs.laws.histories_fill.Goals as goal

pub returns : goal.returns
returns g c = filled g.D.Disk.state g.met.D.Disk.told c.fronts_stand.ensures.read
