use Rattle.std.proofs.Common.{subst, List}
use Rattle.nt_types.specs.ShapeData.{MemberData}
use Rattle.nt_close.specs.Beginning.{IsNotBegun}
use Rattle.nt_seq.specs.Changing.{BeginsFile}
use Rattle.nt_skim.specs.Select.{selection_of}
use Rattle.nt_skim_file.proofs.Begun.{not_begun, then_written, first_of}
use Rattle.nt_skim_file.proofs.writing.write_selection.Goals as goal

pub new-requires-clause-blank : goal.new-requires-clause-blank
new-requires-clause-blank g c =
    record { held = c.requires.empty.held; end = c.requires.empty.end; out = c.requires.empty.out }

pub write_clusters-requires-clause-first : goal.write_clusters-requires-clause-first
write_clusters-requires-clause-first g c =
    first_of g.D.Disk.state (selection_of c.args.chosen.now.plan).fields c.args.params.now c.args.disk c.in-Ok.writer
    c.tables_have_just_their_fields.ensures c.requires.fit.rules
    (subst (λ (ms : List MemberData). BeginsFile g.D.Disk.state ms c.args.params.now c.args.disk c.in-Ok.writer) c.fields.ensures
    c.in-Ok.ensures.ok)

pub returns-in-Ok : goal.returns-in-Ok
returns-in-Ok g c =
    then_written g.D.Disk.state c.args.params.now (selection_of c.args.chosen.now.plan) c.args.chosen.now.reader
    (g.F.ReadAt.state c.args.file.now) (g.F.ReadAt.state c.write_clusters.new.file) c.args.disk c.write_clusters.result.0
    c.in-Ok.writer c.write_clusters.result.1
    (subst (λ (ms : List MemberData). BeginsFile g.D.Disk.state ms c.args.params.now c.args.disk c.in-Ok.writer) c.fields.ensures
    c.in-Ok.ensures.ok)
    c.write_clusters.ensures

pub returns-in-Err : goal.returns-in-Err
returns-in-Err g c =
    rw c.from.ensures (not_begun c.args.params.now (selection_of c.args.chosen.now.plan) c.args.chosen.now.reader
    (g.F.ReadAt.state c.args.file.now) (g.D.Disk.state c.args.disk) (g.D.Disk.state c.in-Err.disk) c.in-Err.error
    (subst (λ (ms : List MemberData). IsNotBegun ms c.args.params.now (g.D.Disk.state c.args.disk) (g.D.Disk.state c.in-Err.disk)
    c.in-Err.error) c.fields.ensures c.in-Err.ensures.err))
