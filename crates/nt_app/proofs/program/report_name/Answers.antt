use Rattle.std.proofs.Common.{codes}
use Rattle.nt_app.proofs.Messages.{reports_all, reports_front, reports_joined}
use Rattle.nt_app.proofs.program.report_name.Goals as goal

pub returns-in-Ok : goal.returns-in-Ok
returns-in-Ok g c =
    reports_joined c.args.name.now (codes "\n") _ _ _ _ c.in-Ok.ensures (reports_all (codes "\n") _ _ _ c.print_all-in-Ok.ensures)

pub returns-in-Err : goal.returns-in-Err
returns-in-Err g c = reports_front c.args.name.now (codes "\n") _ _ _ c.in-Err.ensures
