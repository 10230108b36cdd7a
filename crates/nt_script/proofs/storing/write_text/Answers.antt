use Rattle.nt_types.specs.Views.{members_view}
use Rattle.nt_contexts.specs.Reading.{left_of}
use Rattle.nt_script.proofs.Unbegun.{lines_unbegun, lines_filed, first_writer}
use Rattle.nt_script.proofs.storing.write_text.Goals as goal

pub new-requires-clause-blank : goal.new-requires-clause-blank
new-requires-clause-blank g c =
    record { held = c.requires.empty.held; end = c.requires.empty.end; out = c.requires.empty.out }

pub write_lines-requires-clause-begins : goal.write_lines-requires-clause-begins
write_lines-requires-clause-begins g c =
    first_writer g.D.Disk.state (members_view c.args.fields) c.args.params.now (left_of g.S.Source.state c.args.lines.now) c.args.disk
    c.in-Ok.writer c.tables_have_just_their_fields.ensures c.requires.rules c.requires.first c.in-Ok.ensures.ok

pub returns-in-Ok : goal.returns-in-Ok
returns-in-Ok g c =
    lines_filed g.D.Disk.state (members_view c.args.fields) c.args.params.now (left_of g.S.Source.state c.args.lines.now)
    (left_of g.S.Source.state c.write_lines.new.lines) c.args.disk c.write_lines.result.0 c.in-Ok.writer c.write_lines.result.1
    c.in-Ok.ensures.ok c.write_lines.ensures

pub returns-in-Err : goal.returns-in-Err
returns-in-Err g c =
    rw c.from.ensures (lines_unbegun c.crashes_leave_closed_or_unfinished.ensures (members_view c.args.fields) c.args.params.now
    (left_of g.S.Source.state c.args.lines.now) (g.D.Disk.state c.args.disk) (g.D.Disk.state c.in-Err.disk) c.in-Err.error
    c.in-Err.ensures.err)
