use Rattle.nt_script.proofs.Closed.{finishes, finishes_not}
use Rattle.nt_script.proofs.storing.finish.Goals as goal

pub returns-in-Ok : goal.returns-in-Ok
returns-in-Ok g c =
    let closed = c.close-disk in
    finishes g.D.Disk.state c.args.writer c.late_files_mean_their_entries.ensures (c.keeps.ensures.writer.writing c.requires.alive)
    c.keeps.ensures.book closed.result.0 closed.result.1 closed.ensures.left closed.ensures.file (c.in-Ok.clusters, c.in-Ok.entries)
    c.in-Ok.is closed.ensures.cause closed.ensures.counts

pub returns-in-Err : goal.returns-in-Err
returns-in-Err g c =
    let closed = c.close-disk in
    rw c.from.ensures (finishes_not g.D.Disk.state c.args.writer c.late_files_mean_their_entries.ensures
    (c.keeps.ensures.writer.writing c.requires.alive) c.keeps.ensures.book closed.result.0 closed.result.1 closed.ensures.left
    closed.ensures.file c.in-Err.error c.in-Err.is closed.ensures.cause)
