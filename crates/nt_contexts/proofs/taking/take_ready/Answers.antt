use Rattle.std.proofs.Common.{◌≡◌, ◌∙◌, ◌+◌, false, length, refl, sym, ap, subst, MatchBool, Bool, Result, Ok, Err}
use Rattle.std.proofs.lemmas.Result.{err_from_is_err_and}
use Rattle.nt_types.specs.Lines.{is_blank_line}
use Rattle.nt_types.specs.ShapeData.{parts_of}
use Rattle.nt_types.specs.Views.{members_view}
use Rattle.nt_event.specs.Lines.{ready_line}
use Rattle.nt_event.specs.declared.lines.Line.{Line}
use Rattle.nt_fill.specs.Context.{GathersLine}
use Rattle.nt_contexts.specs.Reading.{left_of}
use Rattle.nt_contexts.specs.Taking.{TakesReady}
use Rattle.nt_contexts.specs.declared.error.ContextError.{ContextError}
use Rattle.nt_contexts.proofs.TakenLines.{took_spelled}
use Rattle.nt_contexts.proofs.taking.take_ready.Goals as goal

pub returns-then-not-fill_utf8-clause-nothing : goal.returns-then-not-fill_utf8-clause-nothing
returns-then-not-fill_utf8-clause-nothing g c = λ is. (
  refl,
  subst (λ b. MatchBool b (GathersLine c.in-Some.line.now c.args.fill.now c.fill_utf8.new.self)
      (c.fill_utf8.new.self ≡ c.args.fill.now)) c.if-not-fill_utf8.true c.fill_utf8.ensures,
)

pub returns-in_err-write_full-clause-nothing : goal.returns-in_err-write_full-clause-nothing
returns-in_err-write_full-clause-nothing g c = λ is.
    let p = err_from_is_err_and c.from_residual.result c.from_residual.ensures.1 in
    absurd (cc (p.1, is))

pub returns-in_err-write_full-clause-taken : goal.returns-in_err-write_full-clause-taken
returns-in_err-write_full-clause-taken g c entries taken =
    let fields = members_view c.args.shared.now.fields.now in
    let bytes = c.in-Some.line.now in
    let line : Line = record { number = c.args.lines.now.number + 1; bytes = ready_line c.args.lines.now (length bytes) } in
    let old = c.args.fill.now in
    let mid = c.fill_utf8.new.self in
    let gathers : GathersLine bytes old mid =
    subst (λ b. MatchBool b (GathersLine bytes old mid) (mid ≡ old)) c.if-not-fill_utf8.false c.fill_utf8.ensures in
    let full : is_blank_line bytes ≡ false = cc in
    let p = err_from_is_err_and c.from_residual.result c.from_residual.ensures.1 in
    subst (λ (r : Result Bool ContextError). TakesReady g.D.Disk.state (parts_of fields) entries (left_of g.S.Source.state c.args.lines.now)
    (left_of g.S.Source.state c.pass.new.self) old c.write_full.new.fill r) (sym (p.1 ∙ ap (λ (e : ContextError). Err e) p.2)) (
      line,
      c.pass.ensures.line,
      took_spelled g.D.Disk.state fields entries line bytes old mid c.write_full.new.fill
          (Err c.in_err-write_full.field-0.0) c.requires.fields gathers c.in-Some.ensures.line full c.spelled_trees_are_read.ensures taken
          c.in_err-write_full.ensures,
    )

pub returns-clause-taken : goal.returns-clause-taken
returns-clause-taken g c entries taken =
    let fields = members_view c.args.shared.now.fields.now in
    let bytes = c.in-Some.line.now in
    let line : Line = record { number = c.args.lines.now.number + 1; bytes = ready_line c.args.lines.now (length bytes) } in
    let old = c.args.fill.now in
    let mid = c.fill_utf8.new.self in
    let gathers : GathersLine bytes old mid =
    subst (λ b. MatchBool b (GathersLine bytes old mid) (mid ≡ old)) c.if-not-fill_utf8.false c.fill_utf8.ensures in
    let full : is_blank_line bytes ≡ false = cc in (
      line,
      c.pass.ensures.line,
      took_spelled g.D.Disk.state fields entries line bytes old mid c.write_full.new.fill
          (Ok c.in_ok-write_full.field-0) c.requires.fields gathers c.in-Some.ensures.line full c.spelled_trees_are_read.ensures taken
          c.in_ok-write_full.ensures,
    )
