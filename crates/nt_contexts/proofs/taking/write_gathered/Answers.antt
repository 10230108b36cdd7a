use Rattle.std.proofs.Common.{sym, subst, Err}
use Rattle.nt_contexts.specs.declared.error.ContextError.{ContextError}
use Rattle.nt_contexts.specs.Taking.{WritesChunk}
use Rattle.nt_contexts.proofs.Unwritten.{write_refused}
use Rattle.nt_contexts.proofs.taking.write_gathered.Goals as goal

pub returns-in-Err : goal.returns-in-Err
returns-in-Err g c =
    subst (λ (e : ContextError). WritesChunk g.D.Disk.state c.args.fill.now c.flush.new.self (Err e)) (sym c.from.ensures)
    (write_refused g.D.Disk.state c.args.fill.now c.flush.new.self c.in-Err.error
    (c.in-Err.ensures.limits c.requires.some) c.in-Err.ensures.refused.kept c.in-Err.ensures.refused.fault)

pub returns-in-Ok : goal.returns-in-Ok
returns-in-Ok g c = (c.in-Ok.ensures.ok c.requires.some).0
