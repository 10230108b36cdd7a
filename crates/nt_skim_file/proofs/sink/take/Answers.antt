use Rattle.std.proofs.Common.{◌≡◌, true, subst, sym}
use Rattle.nt_types.specs.TreeData.{trees_of}
use Rattle.nt_types.specs.TreeViews.{trees_view}
use Rattle.nt_grammar.specs.Table.{Table}
use Rattle.nt_trees.specs.Fits.{fits_entry}
use Rattle.nt_skim_file.proofs.Takings.{takes_done, stays_done, stays_wanting}
use Rattle.nt_skim_file.proofs.sink.take.Goals as goal

pub fill-requires-clause-fits : goal.fill-requires-clause-fits
fill-requires-clause-fits g c =
    subst (λ (t : Table). fits_entry t (trees_of (trees_view c.args.trees.now)) ≡ true) (sym c.in-Ok.ensures.stays.table) c.requires.fits

pub returns-in-Ok-fill-clause-takes : goal.returns-in-Ok-fill-clause-takes
returns-in-Ok-fill-clause-takes g c es taken =
    takes_done g.D.Disk.state (trees_of (trees_view c.args.trees.now)) c.args.writer.now c.make_room.new.writer c.fill.new.self
    c.in-Ok-fill.ensures.ok es (c.in-Ok.ensures.room es taken)

pub returns-in-Ok-fill-clause-stays : goal.returns-in-Ok-fill-clause-stays
returns-in-Ok-fill-clause-stays g c =
    stays_done g.D.Disk.state (trees_of (trees_view c.args.trees.now)) c.args.writer.now c.make_room.new.writer c.fill.new.self
    c.in-Ok.ensures.stays c.in-Ok.ensures.less c.in-Ok-fill.ensures.ok

pub returns-in-Err-fill-clause-stays : goal.returns-in-Err-fill-clause-stays
returns-in-Err-fill-clause-stays g c =
    stays_wanting g.D.Disk.state (trees_of (trees_view c.args.trees.now)) c.args.writer.now c.make_room.new.writer c.fill.new.self
    c.in-Ok.ensures.stays c.in-Err-fill.ensures.err
