use Rattle.std.proofs.Common.{ℕ, ◌<◌, subst, arith, Err, List, []}
use Rattle.nt_types.specs.TreeData.{TreesData}
use Rattle.nt_script.specs.Taking.{HasTakenLines}
use Rattle.nt_skim_file.specs.Errors.{skim_of_commit}
use Rattle.nt_skim_file.specs.Filing.{EndsEntries}
use Rattle.nt_skim_file.proofs.Early.{finished, not_finished}
use Rattle.nt_skim_file.proofs.writing.finish.Goals as goal

pub returns-in-Ok : goal.returns-in-Ok
returns-in-Ok g c =
    let some : 0 < c.args.writer.params.cluster = omega (arith, c.args.writer.params.cluster_range.0) in
    finished g.D.Disk.state c.args.writer c.flush.new.self c.close_file.result.0 some c.requires.few c.requires.alive
    c.in-Ok.ensures.flushes c.close_file.result.1 c.close_file.ensures

pub returns-in-Err : goal.returns-in-Err
returns-in-Err g c =
    let some : 0 < c.args.writer.params.cluster = omega (arith, c.args.writer.params.cluster_range.0) in
    rw c.commit_error.ensures (subst (λ (n : ℕ). EndsEntries g.D.Disk.state c.args.writer
    (λ (es : List TreesData). HasTakenLines g.D.Disk.state [] es c.args.writer) c.abandon-disk.result
    (Err (skim_of_commit n c.in-Err.error))) c.requires.clusters
    (not_finished g.D.Disk.state c.args.writer c.flush.new.self c.abandon-disk.result some c.requires.few c.requires.alive
    c.keeps.ensures.book (c.keeps.ensures.writer.writing c.requires.alive) c.unclosed_files_are_shut.ensures.shut
    c.unclosed_files_are_shut.ensures.order c.crashes_leave_closed_or_unfinished.ensures.unclosed c.abandon-disk.ensures.disk
    c.abandon-disk.ensures.unclosed c.in-Err.error c.in-Err.ensures.flushes))
