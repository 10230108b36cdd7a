use Rattle.std.proofs.Common.{◌≡◌, subst, ℕ, List, ◌++◌, rules}
use Rattle.nt_app.specs.Reports.{Reports}
use Rattle.nt_app.specs.Statuses.{message_front, message_end}
use Rattle.nt_app.proofs.Messages.{message_whole, reports_front, reports_joined}
use Rattle.nt_app.proofs.program.report.Goals as goal

pub returns-in-Ok : goal.returns-in-Ok
returns-in-Ok g c =
    let status = c.args.status.now in
    let text : c.as_bytes.result.now ≡ message_front status = search rules in
    subst (λ (l : List ℕ). Reports l (g.H.Host.state c.args.host.now) (g.H.Host.state c.report_end.new.host)) (message_whole status)
    (subst (λ (l : List ℕ). Reports (l ++ message_end status) (g.H.Host.state c.args.host.now) (g.H.Host.state c.report_end.new.host))
    text (reports_joined c.as_bytes.result.now (message_end status) _ _ _ _ c.in-Ok.ensures c.report_end.ensures))

pub returns-in-Err : goal.returns-in-Err
returns-in-Err g c =
    let status = c.args.status.now in
    let text : c.as_bytes.result.now ≡ message_front status = search rules in
    subst (λ (l : List ℕ). Reports l (g.H.Host.state c.args.host.now) (g.H.Host.state c.print_all.new.host)) (message_whole status)
    (subst (λ (l : List ℕ). Reports (l ++ message_end status) (g.H.Host.state c.args.host.now) (g.H.Host.state c.print_all.new.host))
    text (reports_front c.as_bytes.result.now (message_end status) _ _ _ c.in-Err.ensures))
