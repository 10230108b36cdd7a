use Rattle.std.proofs.Common.{◌<◌, sym, subst, arith, Err}
use Rattle.nt_script.specs.declared.error.ScriptError.{ScriptError}
use Rattle.nt_script.specs.Taking.{WritesGathered}
use Rattle.nt_script.proofs.Flushed.{gathered_written, gathered_flushed, gathered_refused, given_flushed, given_refused}
use Rattle.nt_script.proofs.taking.write_gathered.Goals as goal

pub returns-in-Ok-clause-done : goal.returns-in-Ok-clause-done
returns-in-Ok-clause-done g c segments es taken =
    let some : 0 < c.args.writer.now.params.cluster = omega (arith, c.args.writer.now.params.cluster_range.0) in
    gathered_written g.D.Disk.state segments es c.args.writer.now c.flush.new.self some c.requires.few c.requires.alive taken
    (λ none. (c.in-Ok.ensures.flushes.nothing none).1) c.in-Ok.ensures.flushes.ok

pub returns-in-Err-clause-done : goal.returns-in-Err-clause-done
returns-in-Err-clause-done g c segments es taken =
    let writing = c.keeps.ensures.writer.writing c.requires.alive in
    subst (λ (e : ScriptError). WritesGathered g.D.Disk.state segments es c.args.writer.now c.flush.new.self (Err e)) (sym c.from.ensures)
    (gathered_refused g.D.Disk.state segments es c.args.writer.now c.flush.new.self c.in-Err.error c.requires.few c.keeps.ensures.book
    writing taken c.in-Err.ensures.flushes.nothing c.in-Err.ensures.flushes.limits c.in-Err.ensures.flushes.refused.fault)

pub returns-in-Ok-clause-flushed : goal.returns-in-Ok-clause-flushed
returns-in-Ok-clause-flushed g c =
    gathered_flushed g.D.Disk.state c.args.writer.now c.flush.new.self c.requires.alive (λ none. (c.in-Ok.ensures.flushes.nothing none).1)
    c.in-Ok.ensures.flushes.ok

pub returns-in-Ok-clause-given : goal.returns-in-Ok-clause-given
returns-in-Ok-clause-given g c =
    given_flushed g.D.Disk.state c.args.writer.now c.flush.new.self (λ none. (c.in-Ok.ensures.flushes.nothing none).1)
    c.in-Ok.ensures.flushes.ok

pub returns-in-Err-clause-given : goal.returns-in-Err-clause-given
returns-in-Err-clause-given g c =
    given_refused g.D.Disk.state c.args.writer.now c.flush.new.self c.in-Err.error c.in-Err.ensures.flushes.refused
