use Rattle.nt_skim_file.proofs.Ended.{closed, not_closed}
use Rattle.nt_skim_file.proofs.writing.close_file.Goals as goal

pub returns-in-Ok : goal.returns-in-Ok
returns-in-Ok g c =
    let done = c.close-disk in
    closed g.D.Disk.state c.args.writer c.late_files_mean_their_entries.ensures c.unclosed_files_are_shut.ensures.shut
    c.keeps.ensures.writer c.requires.alive c.keeps.ensures.book done.result.0 done.result.1 done.ensures.left done.ensures.file
    (c.in-Ok.clusters, c.in-Ok.entries) c.in-Ok.is done.ensures.cause done.ensures.counts

pub returns-in-Err : goal.returns-in-Err
returns-in-Err g c =
    let done = c.close-disk in
    rw c.from.ensures (not_closed g.D.Disk.state c.args.writer c.late_files_mean_their_entries.ensures
    c.unclosed_files_are_shut.ensures.shut c.keeps.ensures.writer c.requires.alive c.keeps.ensures.book done.result.0 done.result.1
    done.ensures.left done.ensures.file c.in-Err.error c.in-Err.is done.ensures.cause)
