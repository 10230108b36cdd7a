use Rattle.nt_app.proofs.Messages.{reports_no_end}
use Rattle.nt_app.proofs.program.report_end.Goals as goal

pub returns-in_default : goal.returns-in_default
returns-in_default g c = reports_no_end c.args.status.now _ c.in_default.not-Schema
