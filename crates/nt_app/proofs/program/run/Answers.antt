use Rattle.std.proofs.Common.{ap}
use Rattle.nt_command_line.specs.CommandLine.{texts}
use Rattle.nt_app.proofs.Running.{runs_as, runs_after}
use Rattle.nt_app.proofs.program.run.Goals as goal

pub returns-in-Some : goal.returns-in-Some
returns-in-Some g c = runs_as _ _ _ _ _ (ap texts c.deref.ensures.value) c.in-Some.ensures.some

pub returns : goal.returns
returns g c =
    runs_after _ _ _ _ _ _ _ (ap texts c.deref-in-None.ensures.value) (c.run_alone.ensures.none c.in-None.is).1
    c.do_in_parallel-status.ensures c.report.ensures (g.met.H.Host.fit c.report.new.host)
