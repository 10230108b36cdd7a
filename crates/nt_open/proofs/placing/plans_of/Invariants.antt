use Rattle.std.proofs.Common.{◌≡◌, ◌<◌, ℕ, length, map, drop}
use Rattle.std.specs.Prelude.{option_map}
use Rattle.std.specs.Option.{option_or}
use Rattle.nt_types.specs.Views.{shape_view}
use Rattle.nt_plans.specs.PlanViews.{plan_view}
use Rattle.nt_plans.specs.Place.{place_from}
use Rattle.nt_open.specs.Uses.{use_at, use_from}
use Rattle.nt_open.proofs.InOrder.{joined}
use Rattle.nt_open.proofs.placing.plans_of.Given as goal

abbrev pub invariant-loop-id : goal.invariant-loop-id
invariant-loop-id l = record {
  plans : joined (map plan_view l.list.items)
      (place_from l.rows.fields.now l.rows.columns.now l.id (map (option_map shape_view) (drop l.id l.shapes)))
      ≡ place_from l.rows.fields.now l.rows.columns.now 0 (map (option_map shape_view) l.shapes);
  count : length l.uses.items ≡ length l.rows.columns.now;
  uses : (k : ℕ) → k < length l.rows.columns.now
      → option_or (use_at l.uses.items k)
      (use_from l.rows.fields.now l.rows.columns.now l.id (map (option_map shape_view) (drop l.id l.shapes)) k)
      ≡ use_from l.rows.fields.now l.rows.columns.now 0 (map (option_map shape_view) l.shapes) k;
}
