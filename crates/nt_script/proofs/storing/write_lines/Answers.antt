use Rattle.std.proofs.Common.{ap}
use Rattle.nt_types.specs.Views.{members_view}
use Rattle.nt_contexts.specs.Reading.{left_of}
use Rattle.nt_script.proofs.Early.{files_done, files_early}
use Rattle.nt_script.proofs.storing.write_lines.Goals as goal

pub returns-in-Ok : goal.returns-in-Ok
returns-in-Ok g c =
    files_done g.D.Disk.state (members_view c.args.fields) (left_of g.S.Source.state c.args.lines.now)
    (left_of g.S.Source.state c.write_script.new.lines) c.args.writer c.write_script.new.writer c.finish.result.0 c.finish.result.1
    c.requires.begins c.in-Ok.ensures.given c.in-Ok.ensures.ended c.finish.ensures

pub returns-in-Err : goal.returns-in-Err
returns-in-Err g c =
    rw c.error_of_script.ensures (files_early g.D.Disk.state (members_view c.args.fields) (left_of g.S.Source.state c.args.lines.now)
    (left_of g.S.Source.state c.write_script.new.lines) c.args.writer c.write_script.new.writer c.abandon-disk.result
    c.args.params.now.limits.clusters c.in-Err.error c.crashes_leave_closed_or_unfinished.ensures
    (ap (λ p. p.limits.clusters) c.requires.params) c.in-Err.ensures.given c.in-Err.ensures.ended c.abandon-disk.ensures.disk
    c.abandon-disk.ensures.unclosed)
