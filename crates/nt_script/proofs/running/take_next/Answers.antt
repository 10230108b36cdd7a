use Rattle.std.proofs.Common.{◌≡◌, ◌∙◌, true, false, ap, sym, subst, arith, Option, Ok}
use Rattle.nt_types.specs.Views.{members_view}
use Rattle.nt_event.specs.declared.lines.Line.{Line}
use Rattle.nt_event.specs.Lines.{LinesState, IsNextLine, GivesLine}
use Rattle.nt_contexts.specs.Reading.{left_of}
use Rattle.nt_script.specs.declared.error.ScriptError.{ScriptError}
use Rattle.nt_script.specs.Script.{adds_field}
use Rattle.nt_script.specs.Running.{EndsEarlyFor, ReadsScriptLine}
use Rattle.nt_script.proofs.Ends.{event_ends, field_ends, not_given}
use Rattle.nt_script.proofs.Passed.{stands_within}
use Rattle.nt_script.proofs.Goes.{event_went, field_went, all_given}
use Rattle.nt_script.proofs.running.take_next.Goals as goal

pub returns-in-Err-clause-line : goal.returns-in-Err-clause-line
returns-in-Err-clause-line g c F text first p rows on =
    let was = left_of g.S.Source.state c.args.lines.now in
    let is = left_of g.S.Source.state c.next.new.self in
    subst (λ (e : ScriptError). EndsEarlyFor g.D.Disk.state F text first p was is c.args.writer.now e) (sym c.from.ensures)
    (not_given g.D.Disk.state F text first p rows (members_view c.args.fields.now) c.args.writer.now was is c.in-Err.error on
    (stands_within g.D.Disk.state c.args.writer.now (c.keeps.ensures.writer.writing c.requires.is_open.alive) c.keeps.ensures.book)
    c.in-Err.ensures.line)

pub returns-in_default-clause-line : goal.returns-in_default-clause-line
returns-in_default-clause-line g c F text first p rows on =
    let was = left_of g.S.Source.state c.args.lines.now in
    let is = left_of g.S.Source.state c.next.new.self in
    all_given g.D.Disk.state F text first p (members_view c.args.fields.now) c.args.writer.now was is on
    (subst (λ (o : Option Line). GivesLine was is (Ok o)) c.in_default.is c.in-Ok.ensures.line)

pub returns-in-Ok-add_field-clause-line : goal.returns-in-Ok-add_field-clause-line
returns-in-Ok-add_field-clause-line g c F text first p rows on =
    let was = left_of g.S.Source.state c.args.lines.now in
    let is = left_of g.S.Source.state c.next.new.self in
    let next : IsNextLine was is c.in-Some.line = subst (λ (o : Option Line). GivesLine was is (Ok o)) c.in-Some.is c.in-Ok.ensures.line in
    let kind : adds_field c.in-Some.line.bytes ≡ true =
    ap adds_field (sym c.as_slice.ensures) ∙ (sym c.adds_field.ensures ∙ c.if-adds_field.true) in
    let went = field_went g.D.Disk.state F text first p (members_view c.args.fields.now) (members_view c.add_field.new.fields)
    c.args.writer.now c.add_field.new.writer was is
    c.in-Some.line on next kind (c.in-Ok-add_field.ensures.done first on.segments on.entries on.grown on.taken) in
    let taken : ReadsScriptLine g.D.Disk.state F text first p (members_view c.add_field.new.fields) was is c.add_field.new.writer
    (Ok true) =
    (went, next.counted ∙ next.number.0, omega (arith, next.counted, next.number.1)) in
    subst (λ (now : LinesState). ReadsScriptLine g.D.Disk.state F text first p (members_view c.add_field.new.fields) was now
    c.add_field.new.writer (Ok true))
    (sym c.reuse.ensures) taken

pub returns-in-Err-add_field-clause-line : goal.returns-in-Err-add_field-clause-line
returns-in-Err-add_field-clause-line g c F text first p rows on =
    let was = left_of g.S.Source.state c.args.lines.now in
    let is = left_of g.S.Source.state c.next.new.self in
    let next : IsNextLine was is c.in-Some.line = subst (λ (o : Option Line). GivesLine was is (Ok o)) c.in-Some.is c.in-Ok.ensures.line in
    let kind : adds_field c.in-Some.line.bytes ≡ true =
    ap adds_field (sym c.as_slice.ensures) ∙ (sym c.adds_field.ensures ∙ c.if-adds_field.true) in
    field_ends g.D.Disk.state F text first p rows (members_view c.args.fields.now) (members_view c.add_field.new.fields)
    c.args.writer.now c.add_field.new.writer was is
    c.in-Some.line c.in-Err-add_field.error on next kind (c.in-Err-add_field.ensures.done first on.segments on.entries on.grown on.taken)

pub returns-in-Ok-take_event-clause-line : goal.returns-in-Ok-take_event-clause-line
returns-in-Ok-take_event-clause-line g c F text first p rows on =
    let was = left_of g.S.Source.state c.args.lines.now in
    let is = left_of g.S.Source.state c.next.new.self in
    let next : IsNextLine was is c.in-Some.line = subst (λ (o : Option Line). GivesLine was is (Ok o)) c.in-Some.is c.in-Ok.ensures.line in
    let kind : adds_field c.in-Some.line.bytes ≡ false =
    ap adds_field (sym c.as_slice.ensures) ∙ (sym c.adds_field.ensures ∙ c.if-adds_field.false) in
    let went = event_went g.D.Disk.state F text first p (members_view c.args.fields.now) c.args.writer.now c.take_event.new.writer was is
    c.in-Some.line on next kind (c.in-Ok-take_event.ensures.done on.segments on.entries on.taken) in
    let taken : ReadsScriptLine g.D.Disk.state F text first p (members_view c.args.fields.now) was is c.take_event.new.writer (Ok true) =
    (went, next.counted ∙ next.number.0, omega (arith, next.counted, next.number.1)) in
    subst (λ (now : LinesState). ReadsScriptLine g.D.Disk.state F text first p (members_view c.args.fields.now) was now
    c.take_event.new.writer (Ok true))
    (sym c.reuse-in-Ok-take_event.ensures) taken

pub returns-in-Err-take_event-clause-line : goal.returns-in-Err-take_event-clause-line
returns-in-Err-take_event-clause-line g c F text first p rows on =
    let was = left_of g.S.Source.state c.args.lines.now in
    let is = left_of g.S.Source.state c.next.new.self in
    let next : IsNextLine was is c.in-Some.line = subst (λ (o : Option Line). GivesLine was is (Ok o)) c.in-Some.is c.in-Ok.ensures.line in
    let kind : adds_field c.in-Some.line.bytes ≡ false =
    ap adds_field (sym c.as_slice.ensures) ∙ (sym c.adds_field.ensures ∙ c.if-adds_field.false) in
    event_ends g.D.Disk.state F text first p rows (members_view c.args.fields.now) c.args.writer.now c.take_event.new.writer was is
    c.in-Some.line c.in-Err-take_event.error on
    (stands_within g.D.Disk.state c.args.writer.now (c.keeps.ensures.writer.writing c.requires.is_open.alive) c.keeps.ensures.book)
    next kind (c.in-Err-take_event.ensures.done on.segments on.entries on.taken)
