use Rattle.std.proofs.Common.{◌≡◌, ◌+◌, ◌<◌, sym, refl, subst, true, length, arith}
use Rattle.nt_plans.specs.Plan.{plans_of}
use Rattle.nt_plans.specs.PlanViews.{plans_view}
use Rattle.nt_moving.specs.Moved.{chosen_at}
use Rattle.nt_column.specs.Column.{columns_of}
use Rattle.nt_trees.specs.Fits.{fits_entry}
use Rattle.nt_fill.proofs.Entries.{entries_count}
use Rattle.nt_seq.specs.Writer.{gathered_by}
use Rattle.nt_seq.proofs.Filled.{IsAdded, writing-filled, entries-added, gives-added}
use Rattle.nt_seq.proofs.writer.SeqWriter.fill_from.Goals as goal

pub overflow_add-self : goal.overflow_add-self
overflow_add-self g c =
    let room = subst (λ s. length (gathered_by s) < s.params.cluster) (sym c.self.view_is) c.requires.room.room in
    let count = entries_count c.self.inside.schema (columns_of c.self.inside.columns) c.self.inside.entries in
    let most = c.self.inside.params.cluster_range.1 in
    record { fits = omega (arith, room, count, most) }

pub invariant_of-self-2 : goal.invariant_of-self-2
invariant_of-self-2 g c =
    let t = c.self.inside.schema in
    let n = c.self.inside.entries in
    let ts = chosen_at (plans_of (plans_view c.args.plans.now)) (g.C.Columns.elements c.args.from.now) c.args.places.now c.args.i in
    let old = c.self.inside.columns in
    let new = c.move_chosen.new.out in
    let room = subst (λ s. length (gathered_by s) < s.params.cluster) (sym c.self.view_is) c.requires.room.room in
    let count = entries_count t (columns_of old) n in
    let was = c.self.invariant.0.writing (subst (λ s. s.alive ≡ true) (sym c.self.view_is) c.requires.room.alive) in
    let is : IsAdded t ts old new = record {
      set = c.in_ok-move_chosen.ensures.set;
      in_range = c.in_range.ensures;
      typed = c.columns_have_types.ensures t;
      fits = subst (λ s. fits_entry s.table ts ≡ true) (sym c.self.view_is) c.requires.fits;
      added = c.in_ok-move_chosen.ensures.added;
      last = c.in_ok-move_chosen.ensures.last;
    } in (
      record {
        unclosed = c.self.invariant.0.unclosed;
        writing = λ _. writing-filled g.D.Disk.state _ (columns_of new) (n + 1) was (gives-added t ts old new n is was.gives)
            (omega (arith, room, count));
      },
      c.forget.ensures _,
    )

pub returns-clause-ok : goal.returns-clause-ok
returns-clause-ok g c =
    let t = c.self.inside.schema in
    let n = c.self.inside.entries in
    let ts = chosen_at (plans_of (plans_view c.args.plans.now)) (g.C.Columns.elements c.args.from.now) c.args.places.now c.args.i in
    let old = c.self.inside.columns in
    let new = c.move_chosen.new.out in
    let was = c.self.invariant.0.writing (subst (λ s. s.alive ≡ true) (sym c.self.view_is) c.requires.room.alive) in
    let is : IsAdded t ts old new = record {
      set = c.in_ok-move_chosen.ensures.set;
      in_range = c.in_range.ensures;
      typed = c.columns_have_types.ensures t;
      fits = subst (λ s. fits_entry s.table ts ≡ true) (sym c.self.view_is) c.requires.fits;
      added = c.in_ok-move_chosen.ensures.added;
      last = c.in_ok-move_chosen.ensures.last;
    } in
    rw (← c.self.view_is) (record { entries = entries-added t ts old new n is was.gives; now = refl })
