use Rattle.std.proofs.Common.{refl, ap, ◌∙◌}
use Rattle.nt_contexts.proofs.Opens.{new-seat}
use Rattle.nt_contexts.proofs.LettingIn.{enters, entered, refuses}
use Rattle.nt_contexts.proofs.opening.open_seat.Goals as goal

pub returns-in-Ok-enter-clause-ok : goal.returns-in-Ok-enter-clause-ok
returns-in-Ok-enter-clause-ok g c =
    let committer = c.args.committer.now in
    let old = c.args.first.now in
    let e = c.in-Ok-enter.ensures.ok in (
      enters committer g.D.Disk.state g.D.Pen.Pen.state old.splits old c.enter.new.first c.in-Ok-enter.pass c.in-Ok-enter.pen
          c.requires.letting e,
      new-seat committer g.S.Source.state old.splits (g.S.Source.state c.args.source) _ c.in-Ok-enter.pass c.in-Ok-enter.pen refl refl
          (entered committer g.D.Disk.state g.D.Pen.Pen.state old.splits old c.enter.new.first c.in-Ok-enter.pass c.in-Ok-enter.pen
          c.requires.letting c.requires.room e)
          c.in-Ok.ensures.ok,
    )

pub returns-in-Err-enter-clause-err : goal.returns-in-Err-enter-clause-err
returns-in-Err-enter-clause-err g c =
    let faults = ap (λ l. l.faults) c.in-Ok.ensures.ok in (
      ap (λ s. (g.S.Source.state s).faults) c.into_source.ensures ∙ faults,
      refuses c.args.committer.now g.D.Disk.state
          c.args.first.now.splits c.args.first.now c.enter.new.first c.in-Err-enter.refused c.requires.letting c.in-Err-enter.ensures.err,
    )
