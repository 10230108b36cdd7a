-- Which trees a plan takes: those that fit its shape.
use Rattle.std.specs.Prelude.{ℕ, zero, suc, Bool, false, ◌||◌, List, [], ◌∷◌, Option, Some, None}
use Rattle.nt_types.specs.ShapeData.{ShapeData, ShapesData, no_kinds, kind}
use Rattle.nt_types.specs.TreeData.{TreeData, TreesData, is_nothing}
use Rattle.nt_types.specs.Fits.{is_int, all_trees, fits_flag, fits_number, fits_text, fits_items, fits_parts, fits_pick, fits_next}
use Rattle.nt_types.specs.Fits.{are_no_trees, fit_kinds}
use Rattle.nt_grammar.specs.Table.{Table}
use Rattle.nt_grammar.specs.Open.{open_shapes}
use Rattle.nt_plans.specs.Plan.{PlanData, PlansData, bool, number, text, list, maybe, record_of, choice, no_plans, plan}

-- whether a plan takes a tree
abbrev mutual
  pub fits_plan : PlanData → TreeData → Bool
  fits_plan (bool k) t = fits_flag t
  fits_plan (number k bits signed) t = fits_number (is_int bits signed) t
  fits_plan (text e c) t = fits_text t
  fits_plan (list e p) t = fits_items (all_trees (fits_plan p)) t
  fits_plan (maybe e p) t = is_nothing t || fits_plan p t
  fits_plan (record_of ps) t = fits_parts (fit_plans ps) t
  fits_plan (choice s ps) t = fits_pick (fits_alternative ps) t

  -- whether they are one tree for each plan, which takes it
  pub fit_plans : PlansData → TreesData → Bool
  fit_plans no_plans ts = are_no_trees ts
  fit_plans (plan p ps) ts = fits_next (fits_plan p) (fit_plans ps) ts

  -- whether the alternative of this tag, from 1, takes a tree
  pub fits_alternative : PlansData → ℕ → TreeData → Bool
  fits_alternative no_plans tag t = false
  fits_alternative (plan p ps) zero t = false
  fits_alternative (plan p ps) (suc zero) t = fits_plan p t
  fits_alternative (plan p ps) (suc (suc n)) t = fits_alternative ps (suc n) t

-- the shapes of the fields that are open, in order
abbrev pub some_shapes : List (Option ShapeData) → ShapesData
some_shapes [] = no_kinds
some_shapes (None ∷ shapes) = some_shapes shapes
some_shapes (Some k ∷ shapes) = kind k (some_shapes shapes)

-- whether these are one tree for each open field at the top level, which they fit
abbrev pub fits_entry : Table → TreesData → Bool
fits_entry t ts = fit_kinds (some_shapes (open_shapes t.fields t.columns 0 t.fields)) ts
