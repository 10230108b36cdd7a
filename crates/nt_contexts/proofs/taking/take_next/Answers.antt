use Rattle.std.proofs.Common.{◌∙◌, ap, sym, subst, inl, inr, Bool, Option, Result, Ok, Err}
use Rattle.std.proofs.lemmas.Result.{err_from_is_err_and}
use Rattle.nt_types.specs.ShapeData.{parts_of}
use Rattle.nt_types.specs.Views.{members_view}
use Rattle.nt_event.specs.Lines.{LinesState, IsNextLine, StaysAtEnd, GivesLine}
use Rattle.nt_event.specs.declared.lines.Line.{Line}
use Rattle.nt_contexts.specs.Filling.{IsFor, IsOpen, HasTaken}
use Rattle.nt_contexts.specs.Reading.{left_of}
use Rattle.nt_contexts.specs.Taking.{TakesEntry, TakesTextLine, TakesReady, TakesNextLine}
use Rattle.nt_contexts.specs.declared.error.ContextError.{ContextError}
use Rattle.nt_contexts.proofs.taking.take_next.Goals as goal

pub returns-then-branch-clause-taken : goal.returns-then-branch-clause-taken
returns-then-branch-clause-taken g c entries taken =
    let F = parts_of (members_view c.args.shared.now.fields.now) in
    let was = left_of g.S.Source.state c.args.lines.now in
    let is = left_of g.S.Source.state c.take_ready.new.lines in
    subst (λ b. TakesReady g.D.Disk.state F entries was is c.args.fill.now c.take_ready.new.fill (Ok b))
    c.if-branch.true (c.in_ok-take_ready.ensures.taken entries taken)

pub take_line-requires-clause-fields : goal.take_line-requires-clause-fields
take_line-requires-clause-fields g c =
    let none = c.take_ready.ensures.nothing (c.in_ok-take_ready.was ∙ ap (λ (b : Bool). Ok b) c.if-branch.false) in
    subst (λ f. IsFor (members_view c.args.shared.now.fields.now) f) (sym none.1) c.requires.fields

pub take_line-requires-clause-is_open : goal.take_line-requires-clause-is_open
take_line-requires-clause-is_open g c =
    let none = c.take_ready.ensures.nothing (c.in_ok-take_ready.was ∙ ap (λ (b : Bool). Ok b) c.if-branch.false) in
    subst (λ f. IsOpen f) (sym none.1) c.requires.is_open

pub returns-in_err-take_line-in-Ok-Some-clause-taken : goal.returns-in_err-take_line-in-Ok-Some-clause-taken
returns-in_err-take_line-in-Ok-Some-clause-taken g c entries taken =
    let F = parts_of (members_view c.args.shared.now.fields.now) in
    let was = left_of g.S.Source.state c.args.lines.now in
    let mid = left_of g.S.Source.state c.take_ready.new.lines in
    let is = left_of g.S.Source.state c.next.new.self in
    let new = c.take_line.new.fill in
    let line = c.in-Ok-Some.line in
    let none = c.take_ready.ensures.nothing (c.in_ok-take_ready.was ∙ ap (λ (b : Bool). Ok b) c.if-branch.false) in
    let given : IsNextLine mid is line =
    subst (λ (o : Option Line). GivesLine mid is (Ok o)) c.in-Ok-Some.field-0-is c.in-Ok-Some.ensures.line in
    let error = c.in_err-take_line-in-Ok-Some.field-0.0 in
    let why = c.in_err-take_line-in-Ok-Some.ensures entries (subst (λ f. HasTaken g.D.Disk.state entries f) (sym none.1) taken) in
    let p = err_from_is_err_and c.from_residual-in_err-take_line-in-Ok-Some.result
    c.from_residual-in_err-take_line-in-Ok-Some.ensures.1 in
    subst (λ (r : Result Bool ContextError). TakesNextLine g.D.Disk.state F entries was is c.args.fill.now new r)
    (sym (p.1 ∙ ap (λ (e : ContextError). Err e) p.2))
    (inl (
      line,
      subst (λ (l : LinesState). IsNextLine l is line) none.0 given,
      subst (λ f. TakesTextLine g.D.Disk.state F entries line f new (Err error)) none.1 why,
    ))

pub returns-in_ok-take_line-in-Ok-Some-clause-taken : goal.returns-in_ok-take_line-in-Ok-Some-clause-taken
returns-in_ok-take_line-in-Ok-Some-clause-taken g c entries taken =
    let F = parts_of (members_view c.args.shared.now.fields.now) in
    let mid = left_of g.S.Source.state c.take_ready.new.lines in
    let is = left_of g.S.Source.state c.next.new.self in
    let new = c.take_line.new.fill in
    let line = c.in-Ok-Some.line in
    let none = c.take_ready.ensures.nothing (c.in_ok-take_ready.was ∙ ap (λ (b : Bool). Ok b) c.if-branch.false) in
    let given : IsNextLine mid is line =
    subst (λ (o : Option Line). GivesLine mid is (Ok o)) c.in-Ok-Some.field-0-is c.in-Ok-Some.ensures.line in
    let next = subst (λ (l : LinesState). IsNextLine l is line) none.0 given in
    let took = c.in_ok-take_line-in-Ok-Some.ensures entries (subst (λ f. HasTaken g.D.Disk.state entries f) (sym none.1) taken) in (
      line,
      subst (λ (l : LinesState). IsNextLine (left_of g.S.Source.state c.args.lines.now) l line) (sym c.reuse.ensures) next,
      subst (λ f. TakesEntry g.D.Disk.state F entries line f new) none.1 took,
    )

pub returns-in-Ok-None-clause-taken : goal.returns-in-Ok-None-clause-taken
returns-in-Ok-None-clause-taken g c entries taken =
    let mid = left_of g.S.Source.state c.take_ready.new.lines in
    let is = left_of g.S.Source.state c.next.new.self in
    let none = c.take_ready.ensures.nothing (c.in_ok-take_ready.was ∙ ap (λ (b : Bool). Ok b) c.if-branch.false) in
    let end : StaysAtEnd mid is = subst (λ (o : Option Line). GivesLine mid is (Ok o)) c.in-Ok-None.field-0-is c.in-Ok-None.ensures.line in
    (subst (λ (l : LinesState). StaysAtEnd l is) none.0 end, none.1)

pub returns-in-Err-clause-taken : goal.returns-in-Err-clause-taken
returns-in-Err-clause-taken g c entries taken =
    let is = left_of g.S.Source.state c.next.new.self in
    let none = c.take_ready.ensures.nothing (c.in_ok-take_ready.was ∙ ap (λ (b : Bool). Ok b) c.if-branch.false) in
    inr (
      c.in-Err.error,
      c.from.ensures,
      subst (λ (l : LinesState). GivesLine l is (Err c.in-Err.error)) none.0 c.in-Err.ensures.line,
      none.1,
    )
