use Rattle.std.proofs.Common.{◌∙◌, refl, arith, ap, sym, subst, true, Result, Ok, Err}
use Rattle.std.proofs.lemmas.Result.{err_from_is_err_and}
use Rattle.nt_types.specs.ShapeData.{parts_of}
use Rattle.nt_types.specs.Views.{members_view}
use Rattle.nt_contexts.specs.declared.error.ContextError.{ContextError}
use Rattle.nt_contexts.specs.Reading.{left_of}
use Rattle.nt_contexts.specs.Running.{HasAll, ReadsLine, Ended}
use Rattle.nt_contexts.specs.Taking.{TakesNextLine}
use Rattle.nt_contexts.proofs.Lines.{took, not_next}
use Rattle.nt_contexts.proofs.LinesTaken.{begun, none_next, ended_rest, ended_all, ended_line, still_for}
use Rattle.nt_contexts.proofs.running.read_all.Goals as goal

pub loop-count-init : goal.loop-count-init
loop-count-init g c =
    let lines = left_of g.S.Source.state c.args.lines.now in
    record {
      on = begun g.D.Disk.state (parts_of (members_view c.args.shared.now.fields.now)) lines.left c.args.fill.now lines refl
          c.requires.start.first c.requires.start.is_open c.requires.start.unused c.requires.start.empty;
      counted = c.requires.start.first;
      low = omega (arith, c.requires.start.first);
      later = omega arith;
    }

pub take_next-requires-clause-fields : goal.take_next-requires-clause-fields
take_next-requires-clause-fields g c =
    let fields = members_view c.args.shared.now.fields.now in
    still_for g.D.Disk.state (parts_of fields) (left_of g.S.Source.state c.args.lines.now).left c.args.fill.now
    fields c.loop-count.fill c.loop-count.invariant.on.same c.requires.fields

pub loop-count-preserved : goal.loop-count-preserved
loop-count-preserved g c =
    let F = parts_of (members_view c.args.shared.now.fields.now) in
    let first = left_of g.S.Source.state c.args.lines.now in
    let was = left_of g.S.Source.state c.loop-count.lines in
    let is = left_of g.S.Source.state c.take_next.new.lines in
    let old = c.loop-count.fill in
    let new = c.take_next.new.fill in
    let on = c.loop-count.invariant.on in
    let some : TakesNextLine g.D.Disk.state F on.entries was is old new (Ok true) =
    subst (λ b. TakesNextLine g.D.Disk.state F on.entries was is old new (Ok b)) c.if-not-branch.false
    (c.in_ok-take_next.ensures.taken on.entries on.taken) in
    let taken : ReadsLine g.D.Disk.state F first.left c.args.fill.now was is new (Ok true) =
    took g.D.Disk.state F first.left c.args.fill.now old new was is some.0 on some.1 some.2 in
    record {
      on = taken.0;
      counted = omega (arith, taken.1, c.loop-count.invariant.counted);
      low = taken.2;
      later = omega (arith, c.in_ok-take_next.ensures.later, c.loop-count.invariant.later);
    }

pub returns-in_err-take_next-clause-ended : goal.returns-in_err-take_next-clause-ended
returns-in_err-take_next-clause-ended g c =
    let F = parts_of (members_view c.args.shared.now.fields.now) in
    let first = left_of g.S.Source.state c.args.lines.now in
    let was = left_of g.S.Source.state c.loop-count.lines in
    let is = left_of g.S.Source.state c.take_next.new.lines in
    let new = c.take_next.new.fill in
    let on = c.loop-count.invariant.on in
    let error = c.in_err-take_next.field-0.0 in
    let why = not_next g.D.Disk.state F first.left c.args.fill.now c.loop-count.fill new was is error on
    (c.in_err-take_next.ensures.taken on.entries on.taken) in
    let p = err_from_is_err_and c.from_residual.result c.from_residual.ensures.1 in
    subst (λ (r : Result Unit ContextError). Ended g.D.Disk.state F first.left c.args.fill.now first is new r)
    (sym (p.1 ∙ ap (λ (e : ContextError). Err e) p.2))
    (ended_line g.D.Disk.state F first.left c.args.fill.now new first was is error c.loop-count.invariant.later why)

pub write_rest-requires : goal.write_rest-requires
write_rest-requires g c =
    let F = parts_of (members_view c.args.shared.now.fields.now) in
    let first = left_of g.S.Source.state c.args.lines.now in
    let was = left_of g.S.Source.state c.loop-count.lines in
    let is = left_of g.S.Source.state c.take_next.new.lines in
    let on = c.loop-count.invariant.on in
    let all : HasAll g.D.Disk.state F first.left c.args.fill.now c.take_next.new.fill =
    none_next g.D.Disk.state F first.left c.args.fill.now c.loop-count.fill c.take_next.new.fill was is on
    (subst (λ b. TakesNextLine g.D.Disk.state F on.entries was is c.loop-count.fill c.take_next.new.fill (Ok b)) c.if-not-branch.true
    (c.in_ok-take_next.ensures.taken on.entries on.taken)) in
    record { is_open = all.is_open }

pub returns-in_err-write_rest-clause-ended : goal.returns-in_err-write_rest-clause-ended
returns-in_err-write_rest-clause-ended g c =
    let F = parts_of (members_view c.args.shared.now.fields.now) in
    let first = left_of g.S.Source.state c.args.lines.now in
    let was = left_of g.S.Source.state c.loop-count.lines in
    let is = left_of g.S.Source.state c.take_next.new.lines in
    let on = c.loop-count.invariant.on in
    let all : HasAll g.D.Disk.state F first.left c.args.fill.now c.take_next.new.fill =
    none_next g.D.Disk.state F first.left c.args.fill.now c.loop-count.fill c.take_next.new.fill was is on
    (subst (λ b. TakesNextLine g.D.Disk.state F on.entries was is c.loop-count.fill c.take_next.new.fill (Ok b)) c.if-not-branch.true
    (c.in_ok-take_next.ensures.taken on.entries on.taken)) in
    let why = c.in_err-write_rest.ensures all.entries all.taken in
    let p = err_from_is_err_and c.from_residual-in_err-write_rest.result c.from_residual-in_err-write_rest.ensures.1 in
    subst (λ (r : Result Unit ContextError). Ended g.D.Disk.state F first.left c.args.fill.now first is c.write_rest.new.fill r)
    (sym (p.1 ∙ ap (λ (e : ContextError). Err e) p.2))
    (ended_rest g.D.Disk.state F first.left c.args.fill.now c.take_next.new.fill c.write_rest.new.fill first is
    c.in_err-write_rest.field-0.0 all why)

pub publish_written-requires-clause-staged : goal.publish_written-requires-clause-staged
publish_written-requires-clause-staged g c =
    let F = parts_of (members_view c.args.shared.now.fields.now) in
    let first = left_of g.S.Source.state c.args.lines.now in
    let was = left_of g.S.Source.state c.loop-count.lines in
    let is = left_of g.S.Source.state c.take_next.new.lines in
    let on = c.loop-count.invariant.on in
    let all : HasAll g.D.Disk.state F first.left c.args.fill.now c.take_next.new.fill =
    none_next g.D.Disk.state F first.left c.args.fill.now c.loop-count.fill c.take_next.new.fill was is on
    (subst (λ b. TakesNextLine g.D.Disk.state F on.entries was is c.loop-count.fill c.take_next.new.fill (Ok b)) c.if-not-branch.true
    (c.in_ok-take_next.ensures.taken on.entries on.taken)) in
    (c.in_ok-write_rest.ensures all.entries all.taken).2.staged ∙ (all.same.staged ∙ c.requires.staged)

pub publish_written-requires-clause-emptied : goal.publish_written-requires-clause-emptied
publish_written-requires-clause-emptied g c =
    let F = parts_of (members_view c.args.shared.now.fields.now) in
    let first = left_of g.S.Source.state c.args.lines.now in
    let was = left_of g.S.Source.state c.loop-count.lines in
    let is = left_of g.S.Source.state c.take_next.new.lines in
    let on = c.loop-count.invariant.on in
    let all : HasAll g.D.Disk.state F first.left c.args.fill.now c.take_next.new.fill =
    none_next g.D.Disk.state F first.left c.args.fill.now c.loop-count.fill c.take_next.new.fill was is on
    (subst (λ b. TakesNextLine g.D.Disk.state F on.entries was is c.loop-count.fill c.take_next.new.fill (Ok b)) c.if-not-branch.true
    (c.in_ok-take_next.ensures.taken on.entries on.taken)) in
    (c.in_ok-write_rest.ensures all.entries all.taken).1

pub returns-then-not-branch-clause-ended : goal.returns-then-not-branch-clause-ended
returns-then-not-branch-clause-ended g c =
    let F = parts_of (members_view c.args.shared.now.fields.now) in
    let first = left_of g.S.Source.state c.args.lines.now in
    let was = left_of g.S.Source.state c.loop-count.lines in
    let is = left_of g.S.Source.state c.take_next.new.lines in
    let on = c.loop-count.invariant.on in
    let all : HasAll g.D.Disk.state F first.left c.args.fill.now c.take_next.new.fill =
    none_next g.D.Disk.state F first.left c.args.fill.now c.loop-count.fill c.take_next.new.fill was is on
    (subst (λ b. TakesNextLine g.D.Disk.state F on.entries was is c.loop-count.fill c.take_next.new.fill (Ok b)) c.if-not-branch.true
    (c.in_ok-take_next.ensures.taken on.entries on.taken)) in
    let wrote = c.in_ok-write_rest.ensures all.entries all.taken in
    ended_all g.D.Disk.state F first.left c.args.fill.now c.take_next.new.fill c.write_rest.new.fill c.publish_written.new.fill first is
    c.publish_written.result all wrote.2 (c.publish_written.ensures all.entries wrote.0)
