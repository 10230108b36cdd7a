use Rattle.std.proofs.Common.{◌≡◌, ◌∙◌, sym, ap, refl, Some}
use Rattle.nt_types.specs.Views.{members_view}
use Rattle.nt_fill.specs.Flushes.{DiskContext}
use Rattle.nt_contexts.proofs.Ends.{ended_ran, unbegun}
use Rattle.nt_contexts.proofs.seats.ContextCommitterSeatOfJob.run.Goals as goal

pub returns-in-Ok : goal.returns-in-Ok
returns-in-Ok g c =
    let shared = c.args.self.shared.now in
    let is = c.in-Ok.ensures.ok in
    let was : c.args.self.seat.pass ≡ Some c.in-Some-Some.pass = c.in-Some-Some.is-0 in
    ended_ran g.D.Disk.state (members_view shared.fields.now) shared.schema.now shared.params.now c.args.self.committer.now c.in-Ok.fill
    c.read_all-ended.new.fill
    (ap (λ (d : DiskContext _ _). d.committer) is) (ap (λ (d : DiskContext _ _). d.table) is) (ap (λ (d : DiskContext _ _). d.cluster) is)
    (ap (λ (d : DiskContext _ _). d.page) is) (ap (λ (d : DiskContext _ _). d.staged) is) g.S.Source.state c.args.self.seat _
    (was ∙ sym (ap (λ (d : DiskContext _ _). Some d.pass) is)) (ap Some c.end-pass.ensures.parts.0) c.end-pass.ensures.pass
    c.end-pass.ensures.none_out c.read_all-ended.ensures.later c.read_all-ended.ensures.ended

pub returns-in-Err : goal.returns-in-Err
returns-in-Err g c =
    let shared = c.args.self.shared.now in
    let fresh = c.requires.1 in
    let was : c.args.self.seat.pass ≡ Some c.in-Some-Some.pass = c.in-Some-Some.is-0 in
    unbegun g.D.Disk.state g.S.Source.state (members_view shared.fields.now) shared.schema.now shared.params.now c.args.self.committer.now
    c.args.self.seat _ fresh.pass fresh.there (ap Some c.in-Err.ensures.err.0 ∙ (sym was ∙ fresh.there)) refl refl fresh.of fresh.unused
