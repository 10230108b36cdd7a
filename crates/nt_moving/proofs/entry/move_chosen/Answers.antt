use Rattle.std.proofs.Common.{sym, subst, ap, ◌∙◌}
use Rattle.nt_plans.specs.Plan.{plans_of}
use Rattle.nt_plans.specs.PlanViews.{plans_view}
use Rattle.nt_plans.specs.Place.{open_plans}
use Rattle.nt_trees.specs.Put.{put_trees}
use Rattle.nt_trees.specs.Views.{cols_of, plans_in}
use Rattle.nt_join.specs.Readable.{ReadableEach}
use Rattle.nt_shred.specs.Steps.{IsEntry}
use Rattle.nt_shred.proofs.Entries.{entry-last}
use Rattle.nt_shred.proofs.SchemaSets.{entry-of, set-kept}
use Rattle.nt_moving.specs.Moved.{chosen_at}
use Rattle.nt_moving.proofs.entry.move_chosen.Goals as goal

pub move_by-requires-clause-entry : goal.move_by-requires-clause-entry
move_by-requires-clause-entry g c κs within =
    let cols = g.C.Columns.elements c.args.from.now in
    let to_is = ap plans_of c.as_slice-2.ensures ∙ c.plans.ensures in
    let from_is = ap plans_of c.as_slice.ensures in
    let ts = chosen_at (plans_of (plans_view c.args.plans.now)) cols c.args.places.now c.args.i in
    let entry = entry-of c.args.schema.now ts c.args.out.now (c.columns_differ.ensures c.args.schema.now)
    (c.columns_have_types.ensures c.args.schema.now) c.requires.entry in
    record {
      readable = subst (λ p. ReadableEach p cols c.args.i) (sym from_is) c.requires.readable;
      entry = subst (λ p. IsEntry p (chosen_at (plans_in c.as_slice.result.now) cols c.args.places.now c.args.i) c.args.out.now)
          (sym to_is) (subst (λ p. IsEntry (open_plans c.args.schema.now) (chosen_at p cols c.args.places.now c.args.i) c.args.out.now)
          (sym from_is) entry);
    }

pub returns-clause-last : goal.returns-clause-last
returns-clause-last g c =
    let cols = g.C.Columns.elements c.args.from.now in
    let to_is = ap plans_of c.as_slice-2.ensures ∙ c.plans.ensures in
    let from_is = ap plans_of c.as_slice.ensures in
    let ts = chosen_at (plans_of (plans_view c.args.plans.now)) cols c.args.places.now c.args.i in
    let entry = entry-of c.args.schema.now ts c.args.out.now (c.columns_differ.ensures c.args.schema.now)
    (c.columns_have_types.ensures c.args.schema.now) c.requires.entry in
    let added = c.in_ok-move_by.ensures.added
    ∙ (λ j. put_trees (to_is j) (chosen_at (from_is j) cols c.args.places.now c.args.i) (cols_of c.args.out.now)) in
    entry-last (open_plans c.args.schema.now) ts c.args.out.now c.move_by.new.out entry added

pub returns-clause-set : goal.returns-clause-set
returns-clause-set g c =
    set-kept c.args.schema.now.columns c.args.out.now c.move_by.new.out c.move_by.ensures.frame c.requires.entry.set
