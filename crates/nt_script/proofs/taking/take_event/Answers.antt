use Rattle.std.proofs.Common.{◌≡◌, ◌∙◌, false, true, ◌∷◌, [], ◌++◌, sym, subst, MatchBool, Ok}
use Rattle.nt_types.specs.Lines.{is_blank_line}
use Rattle.nt_types.specs.ShapeData.{parts_of}
use Rattle.nt_types.specs.Views.{members_view}
use Rattle.nt_types.specs.TreeData.{TreesData, trees_of}
use Rattle.nt_types.specs.TreeViews.{trees_view}
use Rattle.nt_event.specs.Entry.{entry_of}
use Rattle.nt_dealing.proofs.ReadFits.{entry_fits}
use Rattle.nt_trees.specs.Fits.{fits_entry}
use Rattle.nt_seq.specs.Writer.{GathersEntry, GathersEntryOf}
use Rattle.nt_script.specs.Events.{IsEntryLine}
use Rattle.nt_script.proofs.Taken.{entry_taken, event_taken}
use Rattle.nt_script.proofs.taking.take_event.Goals as goal

pub fill-requires-clause-fits : goal.fill-requires-clause-fits
fill-requires-clause-fits g c =
    let fields = members_view c.args.fields.now in
    let entry : TreesData = trees_of (trees_view c.in_ok-trees.trees) in
    let same : c.fill_line.new.self ≡ c.args.writer.now =
    subst (λ b. MatchBool b (GathersEntryOf c.as_slice-2.result.now c.args.writer.now c.fill_line.new.self)
    (c.fill_line.new.self ≡ c.args.writer.now)) c.if-fill_line.false c.fill_line.ensures in
    subst (λ s. fits_entry s.table entry ≡ true) (sym same)
    (c.requires.just.fits entry ∙ entry_fits (parts_of fields) c.args.line.now.bytes entry c.in_ok-trees.ensures.ok)

pub returns-then-fill_line-clause-done : goal.returns-then-fill_line-clause-done
returns-then-fill_line-clause-done g c segments es taken =
    let fields = members_view c.args.fields.now in
    let F = parts_of fields in
    let gathers : GathersEntryOf c.as_slice-2.result.now c.args.writer.now c.fill_line.new.self =
    subst (λ b. MatchBool b (GathersEntryOf c.as_slice-2.result.now c.args.writer.now c.fill_line.new.self)
    (c.fill_line.new.self ≡ c.args.writer.now)) c.if-fill_line.true c.fill_line.ensures in
    let entry = trees_of gathers.found in
    let fits = sym (c.requires.just.fits entry) ∙ gathers.fits in
    let read : entry_of F c.args.line.now.bytes ≡ Ok entry = subst (λ b. entry_of F b ≡ Ok entry) c.as_slice-2.ensures
    (c.spelled_trees_are_read.ensures fields gathers.found c.as_slice-2.result.now c.requires.just.rules gathers.spells fits) in
    let full : is_blank_line c.args.line.now.bytes ≡ false = cc in
    let is : IsEntryLine fields c.args.line.now entry = record { full = full; is = read } in
    event_taken g.D.Disk.state fields segments es c.args.line.now entry c.args.writer.now c.fill_line.new.self c.write_whole.new.writer
    c.write_whole.result c.requires.is_open.alive is gathers.gathers
    (c.write_whole.ensures.done segments (es ++ entry ∷ [])
    (entry_taken g.D.Disk.state segments es entry c.args.writer.now c.fill_line.new.self taken gathers.gathers))

pub returns-clause-done : goal.returns-clause-done
returns-clause-done g c segments es taken =
    let fields = members_view c.args.fields.now in
    let entry : TreesData = trees_of (trees_view c.in_ok-trees.trees) in
    let full : is_blank_line c.args.line.now.bytes ≡ false = cc in
    let is : IsEntryLine fields c.args.line.now entry = record { full = full; is = c.in_ok-trees.ensures.ok } in
    let same : c.fill_line.new.self ≡ c.args.writer.now =
    subst (λ b. MatchBool b (GathersEntryOf c.as_slice-2.result.now c.args.writer.now c.fill_line.new.self)
    (c.fill_line.new.self ≡ c.args.writer.now)) c.if-fill_line.false c.fill_line.ensures in
    let gathers = subst (λ s. GathersEntry entry s c.fill.new.self) same c.in_ok-fill.ensures.ok in
    event_taken g.D.Disk.state fields segments es c.args.line.now entry c.args.writer.now c.fill.new.self c.write_whole-2.new.writer
    c.write_whole-2.result c.requires.is_open.alive is gathers
    (c.write_whole-2.ensures.done segments (es ++ entry ∷ [])
    (entry_taken g.D.Disk.state segments es entry c.args.writer.now c.fill.new.self taken gathers))
