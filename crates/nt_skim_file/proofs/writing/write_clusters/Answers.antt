use Rattle.std.proofs.Common.{◌∙◌, subst, List, [], Err, ap}
use Rattle.nt_types.specs.TreeData.{TreesData}
use Rattle.nt_outside.specs.Held.{Held, BecomesSome}
use Rattle.nt_book.specs.declared.params.Params.{Params}
use Rattle.nt_seq.specs.Writer.{SeqState}
use Rattle.nt_seq.specs.Written.{IsUnclosedOf}
use Rattle.nt_script.specs.Taking.{HasTakenLines}
use Rattle.nt_skim.specs.Select.{selection_of}
use Rattle.nt_skim_file.specs.Errors.{skim_of_early}
use Rattle.nt_skim_file.specs.Filing.{EndsEntries, EndsSelection}
use Rattle.nt_skim_file.proofs.Skimmed.{skimmed_all, skimmed_early}
use Rattle.nt_skim_file.proofs.writing.write_clusters.Goals as goal

pub returns-in-Ok : goal.returns-in-Ok
returns-in-Ok g c =
    let s = selection_of c.args.chosen.now.plan in
    let skims = c.skim-skimmed in
    skimmed_all g.D.Disk.state s c.args.chosen.now.reader c.args.writer skims.new.out c.fields.result.now
    (g.F.ReadAt.state c.args.file.now) (g.F.ReadAt.state skims.new.file) c.new-sink.result c.new-sink.ensures skims.result
    c.in-Ok.field-0 c.in-Ok.is c.requires.first
    (record { left = skims.ensures.left; serves = skims.ensures.file; skimmed = skims.ensures.skimmed }) c.finish.result.0
    c.finish.result.1
    (subst (λ (w : SeqState _). EndsEntries g.D.Disk.state w (λ (es : List TreesData). HasTakenLines g.D.Disk.state [] es w)
    c.finish.result.0 c.finish.result.1) c.into_writer-writer.ensures.writer c.finish.ensures)

pub returns-in-Err : goal.returns-in-Err
returns-in-Err g c =
    let s = selection_of c.args.chosen.now.plan in
    let skims = c.skim-skimmed in
    let same = c.into_writer-writer.ensures.writer in
    rw c.early_error.ensures (subst (λ (p : Params). EndsSelection g.D.Disk.state c.args.writer s c.args.chosen.now.reader
    (g.F.ReadAt.state c.args.file.now) (g.F.ReadAt.state skims.new.file) c.abandon-disk.result
    (Err (skim_of_early p.limits.clusters c.in-Err.error))) c.requires.params
    (skimmed_early g.D.Disk.state s c.args.chosen.now.reader c.args.writer skims.new.out c.fields.result.now
    (g.F.ReadAt.state c.args.file.now) (g.F.ReadAt.state skims.new.file) c.requires.first
    c.into_writer-writer.ensures.sink c.unclosed_files_are_shut.ensures.shut
    c.unclosed_files_are_shut.ensures.order c.crashes_leave_closed_or_unfinished.ensures.unclosed c.abandon-disk.result
    (c.abandon-disk.ensures.disk ∙ ap (λ (w : SeqState _). w.disk) same)
    (subst (λ (w : SeqState _). BecomesSome (g.D.Disk.state w.given).held (g.D.Disk.state c.abandon-disk.result).held
    (λ (h left : Held). IsUnclosedOf w.begun left)) same c.abandon-disk.ensures.unclosed)
    c.new-sink.result c.new-sink.ensures skims.result c.in-Err.error c.in-Err.is
    (record { left = skims.ensures.left; serves = skims.ensures.file; skimmed = skims.ensures.skimmed })))
