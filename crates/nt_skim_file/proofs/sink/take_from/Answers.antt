use Rattle.std.proofs.Common.{◌≡◌, true, subst, sym}
use Rattle.std.specs.Prelude.{slice_index_or}
use Rattle.nt_types.specs.TreeData.{TreesData, no_trees}
use Rattle.nt_grammar.specs.Table.{Table}
use Rattle.nt_trees.specs.Fits.{fits_entry}
use Rattle.nt_join.specs.Chosen.{chosen}
use Rattle.nt_reader.specs.Columns.{given_entries}
use Rattle.nt_skim_file.proofs.Takings.{takes_done, stays_done, stays_wanting}
use Rattle.nt_skim_file.proofs.sink.take_from.Goals as goal

pub gather-requires-clause-room : goal.gather-requires-clause-room
gather-requires-clause-room g c = record { alive = c.in-Ok.ensures.stays.alive; room = c.in-Ok.ensures.less }

pub gather-requires-clause-fits : goal.gather-requires-clause-fits
gather-requires-clause-fits g c =
    let entry = chosen c.args.places.now (slice_index_or (given_entries c.args.cluster.now) c.args.i no_trees) in
    subst (λ (t : Table). fits_entry t entry ≡ true) (sym c.in-Ok.ensures.stays.table) c.requires.fits

pub returns-in-Ok-gather-clause-takes : goal.returns-in-Ok-gather-clause-takes
returns-in-Ok-gather-clause-takes g c es taken =
    let entry = chosen c.args.places.now (slice_index_or (given_entries c.args.cluster.now) c.args.i no_trees) in
    takes_done g.D.Disk.state entry c.args.writer.now c.make_room.new.writer c.gather.new.writer
    c.in-Ok-gather.ensures.ok es (c.in-Ok.ensures.room es taken)

pub returns-in-Ok-gather-clause-stays : goal.returns-in-Ok-gather-clause-stays
returns-in-Ok-gather-clause-stays g c =
    let entry = chosen c.args.places.now (slice_index_or (given_entries c.args.cluster.now) c.args.i no_trees) in
    stays_done g.D.Disk.state entry c.args.writer.now c.make_room.new.writer c.gather.new.writer
    c.in-Ok.ensures.stays c.in-Ok.ensures.less c.in-Ok-gather.ensures.ok

pub returns-in-Err-gather-clause-stays : goal.returns-in-Err-gather-clause-stays
returns-in-Err-gather-clause-stays g c =
    let entry = chosen c.args.places.now (slice_index_or (given_entries c.args.cluster.now) c.args.i no_trees) in
    stays_wanting g.D.Disk.state entry c.args.writer.now c.make_room.new.writer c.gather.new.writer
    c.in-Ok.ensures.stays c.in-Err-gather.ensures.err
