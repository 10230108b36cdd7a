use Rattle.std.proofs.Common.{◌∙◌}
use Rattle.nt_trees.specs.Views.{plans_in}
use Rattle.nt_shred.proofs.Sets.{frame-kept}
use Rattle.nt_shred.proofs.Entries.{entry-ready}
use Rattle.nt_moving.specs.Moved.{chosen_at}
use Rattle.nt_moving.proofs.entry.move_by.Goals as goal

pub returns-in_err-reserve-clause-frame : goal.returns-in_err-reserve-clause-frame
returns-in_err-reserve-clause-frame g c = frame-kept c.args.out.now c.reserve.new.out c.reserve.ensures.columns

pub move_places-requires-clause-ready : goal.move_places-requires-clause-ready
move_places-requires-clause-ready g c κs within =
    let ts = chosen_at (plans_in c.args.from.now) (g.C.Columns.elements c.args.columns.now) c.args.places.now c.args.i in
    entry-ready (plans_in c.args.to.now) ts c.args.out.now c.reserve.new.out c.in_ok-more.more c.requires.entry.entry
    c.reserve.ensures.columns c.in_ok-more.ensures c.in_ok-reserve.ensures.ok

pub returns-clause-frame : goal.returns-clause-frame
returns-clause-frame g c = c.move_places.ensures.frame ∙ frame-kept c.args.out.now c.reserve.new.out c.reserve.ensures.columns
