use Rattle.nt_dealing.proofs.Dealt.{dealt_out}
use Rattle.nt_dealing.proofs.laws.commits_are_dealt.Goals as goal

pub returns : goal.returns
returns g c = dealt_out g.D.Disk.state g.met.D.Disk.told c.fronts_stand.ensures.read c.filled_files_are_known.ensures
