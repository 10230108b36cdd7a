use Rattle.std.proofs.Common.{◌-◌, length, subst, sym}
use Rattle.nt_shred.specs.Runs.{AddsRun}
use Rattle.nt_shred.proofs.OneColumn.{takes-at}
use Rattle.nt_shred.proofs.RunOfIntegers.{run-in}
use Rattle.nt_shred.proofs.integer_runs.put_run.Goals as goal

pub signed_run-requires-clause-takes : goal.signed_run-requires-clause-takes
signed_run-requires-clause-takes c =
    takes-at c.args.out.now c.args.of.column c.args.of.bits c.args.of.signed (length c.args.line.now - c.args.at)
    c.buffer-column.result.now c.buffer-column.ensures.value c.requires.can

pub unsigned_run-requires-clause-takes : goal.unsigned_run-requires-clause-takes
unsigned_run-requires-clause-takes c =
    takes-at c.args.out.now c.args.of.column c.args.of.bits c.args.of.signed (length c.args.line.now - c.args.at)
    c.buffer-column.result.now c.buffer-column.ensures.value c.requires.can

pub returns-then-of : goal.returns-then-of
returns-then-of c =
    let old = c.buffer-column.result.now in
    let new = c.signed_run.new.column in
    run-in c.args.of.column c.args.of.bits c.args.of.signed c.args.line.now c.args.at c.args.out.now old new c.signed_run.result
    c.buffer-column.ensures.value (subst (λ b. AddsRun c.args.of.bits b c.args.line.now c.args.at old new c.signed_run.result)
    (sym c.if-of.true) c.signed_run.ensures)

pub returns-else-of : goal.returns-else-of
returns-else-of c =
    let old = c.buffer-column.result.now in
    let new = c.unsigned_run.new.column in
    run-in c.args.of.column c.args.of.bits c.args.of.signed c.args.line.now c.args.at c.args.out.now old new c.unsigned_run.result
    c.buffer-column.ensures.value (subst (λ b. AddsRun c.args.of.bits b c.args.line.now c.args.at old new c.unsigned_run.result)
    (sym c.if-of.false) c.unsigned_run.ensures)
