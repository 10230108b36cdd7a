use Rattle.nt_dealing.specs.Texts.{chunks_of}
use Rattle.nt_dealing.proofs.CommittedLimits.{next_passes_all}
use Rattle.nt_dealing.proofs.limits.next_chunks_pass_limits_of_all.Goals as goal

pub returns : goal.returns
returns g c birth disk book first fields t p texts i own seen error rules rows closes step born have at before next =
    next_passes_all g.D.Disk.state birth disk book first fields t p rows (chunks_of p.cluster fields texts) i own seen error
    closes born have at before next
