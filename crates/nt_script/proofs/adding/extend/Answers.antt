use Rattle.std.proofs.Common.{◌≡◌, ◌∙◌, true, ap}
use Rattle.nt_types.specs.Rules.{IsField}
use Rattle.nt_types.specs.Views.{member_view, members_view}
use Rattle.nt_book.specs.Books.{book_clusters, entry_count}
use Rattle.nt_seq.proofs.Widened.{entries-short}
use Rattle.nt_script.proofs.Fields.{field_gained}
use Rattle.nt_script.proofs.Tables.{not_refused}
use Rattle.nt_script.proofs.adding.extend.Goals as goal

pub returns-clause-done : goal.returns-clause-done
returns-clause-done g c first segments es out =
    let m = member_view c.args.member in
    let F = members_view c.args.fields.now in
    let old = c.args.writer.now in
    let new = c.extend.new.self in
    let gains = c.in-Ok.ensures.1 in
    let alive : new.alive ≡ true = ap (λ w. w.alive) gains.now ∙ c.requires.clear.alive in
    let before = c.keeps.ensures.writer.writing c.requires.clear.alive in
    let after = c.keeps-2.ensures.writer.writing alive in
    let member = c.requires.spelled.1 in
    let field : IsField m = record { named = member.line_is.is_name; typed = member.rules; shallow = member.shallow } in
    let grows = c.late_fields_are_planned.ensures old.table m old.params.plain (entry_count (book_clusters old.book)) new.table
    before.described field after.few (entries-short old.book c.keeps.ensures.book) gains.added in
    field_gained g.D.Disk.state first F m segments es c.requires.spelled.0 old new member out
    (not_refused F old.table out.grown.just m c.in-Ok.ensures.0) c.requires.clear.alive
    (λ clusters has. (c.written_clusters_are_counted.ensures _ _ _ _ _ clusters has).1) grows gains
    (members_view c.push_field.new.fields) c.in_ok-push_field.ensures
