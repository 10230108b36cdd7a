-- What is kept of the rows of a schema.
use Rattle.std.specs.Prelude.{◌≡◌, List, length, map, option_map}
use Rattle.nt_types.specs.Views.{shape_view}
use Rattle.nt_grammar.specs.declared.rows.FieldRow.{FieldRow}
use Rattle.nt_grammar.specs.declared.rows.ColumnRow.{ColumnRow}
use Rattle.nt_grammar.specs.Open.{open_shapes}
use Rattle.nt_plans.specs.Plan.{plans_of}
use Rattle.nt_plans.specs.PlanViews.{plans_view}
use Rattle.nt_plans.specs.Place.{place_from}
use Rattle.nt_open.specs.Grouped.{HaveInside, HaveColumnIds}
use Rattle.nt_open.specs.Uses.{HaveUses}
use Rattle.nt_open.specs.declared.opened.OpenFields.{OpenFields}

-- the shapes and plans of open fields, what each column is of, and the ids of what lies in each field
pub record IsOpened (fs : List FieldRow) (cs : List ColumnRow) (kept : OpenFields) : Type 0 where
  pub shapes : map (option_map shape_view) kept.shapes.items ≡ open_shapes fs cs 0 fs
  pub plans : plans_of (plans_view kept.plans) ≡ place_from fs cs 0 (open_shapes fs cs 0 fs)
  pub uses : HaveUses fs cs (open_shapes fs cs 0 fs) kept.uses.items
  pub inside : HaveInside fs kept.inside.items
  pub columns : HaveColumnIds (length fs) cs kept.columns.items
