use Rattle.nt_app.proofs.Running.{runs}
use Rattle.nt_app.proofs.program.run_alone.Goals as goal

pub returns-clause-some : goal.returns-clause-some
returns-clause-some g c = runs _ _ _ _ _ c.do_alone-status.ensures c.report.ensures
    (g.met.H.Host.fit c.report.new.host)
