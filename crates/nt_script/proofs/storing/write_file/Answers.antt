use Rattle.std.proofs.Common.{ap}
use Rattle.nt_types.specs.Views.{members_view}
use Rattle.nt_contexts.specs.Reading.{left_of}
use Rattle.nt_script.proofs.Unbegun.{writes_unread, writes_text}
use Rattle.nt_script.proofs.storing.write_file.Goals as goal

pub returns-in-Ok : goal.returns-in-Ok
returns-in-Ok g c =
    let st = g.S.Source.state in
    writes_text (members_view c.args.fields) c.args.params.now (st c.args.text) (st c.into_source.result)
    (left_of st c.in-Ok.lines) (left_of st c.write_text-disk.new.lines) (g.D.Disk.state c.args.disk)
    (g.D.Disk.state c.write_text-disk.result.0) c.write_text-disk.result.1 c.in-Ok.ensures.ok
    (ap (λ s. (st s).faults) c.into_source.ensures) c.write_text-disk.ensures

pub returns-in-Err : goal.returns-in-Err
returns-in-Err g c =
    rw c.in-Err.ensures.err (writes_unread (members_view c.args.fields) c.args.params.now (g.S.Source.state c.args.text)
    (g.D.Disk.state c.args.disk))
