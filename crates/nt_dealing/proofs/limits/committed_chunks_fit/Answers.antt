use Rattle.nt_dealing.proofs.Fitting.{committed-fit, front-fits}
use Rattle.nt_dealing.proofs.limits.committed_chunks_fit.Goals as goal

pub returns-clause-fit : goal.returns-clause-fit
returns-clause-fit g c = committed-fit g.D.Disk.state

pub returns-clause-front : goal.returns-clause-front
returns-clause-front g c = front-fits
