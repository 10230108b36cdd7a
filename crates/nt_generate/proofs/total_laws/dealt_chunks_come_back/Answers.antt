use Rattle.nt_generate.proofs.Returning.{come_back}
use Rattle.nt_generate.proofs.total_laws.dealt_chunks_come_back.Goals as goal

pub returns : goal.returns
returns g c chunks order dealt i uses deal less = come_back chunks i order dealt uses deal less
