use Rattle.std.proofs.Common.{◌≡◌, ◌∙◌, false, true, ◌∷◌, [], ◌++◌, sym, subst, MatchBool}
use Rattle.nt_types.specs.Lines.{is_blank_line}
use Rattle.nt_types.specs.ShapeData.{parts_of}
use Rattle.nt_types.specs.Views.{members_view}
use Rattle.nt_types.specs.TreeData.{TreesData, trees_of}
use Rattle.nt_types.specs.TreeViews.{trees_view}
use Rattle.nt_grammar.proofs.Described.{described-open}
use Rattle.nt_dealing.proofs.ReadFits.{entry_fits}
use Rattle.nt_dealing.proofs.TableFits.{table_fits}
use Rattle.nt_trees.specs.Fits.{fits_entry}
use Rattle.nt_fill.specs.Context.{Gathers, GathersLine}
use Rattle.nt_contexts.proofs.TakenLines.{took_entry, took_line, took_spelled}
use Rattle.nt_contexts.proofs.taking.take_line.Goals as goal

pub fill-requires-clause-fits : goal.fill-requires-clause-fits
fill-requires-clause-fits g c =
    let fields = members_view c.args.shared.now.fields.now in
    let table = c.args.fill.now.table in
    let entry : TreesData = trees_of (trees_view c.in_ok-trees.trees) in
    let is = c.requires.fields in
    let same : c.gather_untried.new.fill ≡ c.args.fill.now =
    subst (λ b. MatchBool b (GathersLine c.as_slice-2.result.now c.args.fill.now c.gather_untried.new.fill)
    (c.gather_untried.new.fill ≡ c.args.fill.now)) c.if-gather_untried.false c.gather_untried.ensures in
    subst (λ s. fits_entry s.table entry ≡ true) (sym same)
    (table_fits fields is.plain table entry is.rows (described-open fields is.plain table is.rules is.rows)
    ∙ entry_fits (parts_of fields) c.args.line.now.bytes entry c.in_ok-trees.ensures.ok)

pub returns-then-gather_untried : goal.returns-then-gather_untried
returns-then-gather_untried g c entries taken =
    let bytes = c.as_slice-2.result.now in
    let old = c.args.fill.now in
    let mid = c.gather_untried.new.fill in
    let gathers : GathersLine bytes old mid =
    subst (λ b. MatchBool b (GathersLine bytes old mid) (mid ≡ old)) c.if-gather_untried.true c.gather_untried.ensures in
    let full : is_blank_line c.args.line.now.bytes ≡ false = cc in
    took_spelled g.D.Disk.state (members_view c.args.shared.now.fields.now) entries c.args.line.now bytes old mid c.write_full.new.fill
    c.write_full.result c.requires.fields gathers c.as_slice-2.ensures
    (subst (λ b. is_blank_line b ≡ false) (sym c.as_slice-2.ensures) full) c.spelled_trees_are_read.ensures taken c.write_full.ensures

pub returns : goal.returns
returns g c entries taken =
    let F = parts_of (members_view c.args.shared.now.fields.now) in
    let entry : TreesData = trees_of (trees_view c.in_ok-trees.trees) in
    let full : is_blank_line c.args.line.now.bytes ≡ false = cc in
    let same : c.gather_untried.new.fill ≡ c.args.fill.now =
    subst (λ b. MatchBool b (GathersLine c.as_slice-2.result.now c.args.fill.now c.gather_untried.new.fill)
    (c.gather_untried.new.fill ≡ c.args.fill.now)) c.if-gather_untried.false c.gather_untried.ensures in
    let gathers = subst (λ s. Gathers entry s c.fill.new.self) same c.in_ok-fill.ensures.ok in
    took_line g.D.Disk.state F entries c.args.line.now entry c.args.fill.now c.fill.new.self c.write_full-2.new.fill
    c.write_full-2.result full c.in_ok-trees.ensures.ok gathers (c.write_full-2.ensures (entries ++ entry ∷ [])
    (took_entry g.D.Disk.state entries entry c.args.fill.now c.fill.new.self taken gathers))
