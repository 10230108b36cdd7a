-- What each column is of, as the code keeps it.
use Rattle.std.specs.Prelude.{ℕ, zero, suc, ◌+◌, ◌≡◌, ◌<◌, Bool, true, false, List, [], ◌∷◌, length, option_map, Option, Some, None, ◌==◌}
use Rattle.std.specs.Prelude.{if◌then◌else◌}
use Rattle.std.specs.Option.{option_or}
use Rattle.nt_types.specs.ShapeData.{ShapeData}
use Rattle.nt_grammar.specs.declared.rows.FieldRow.{FieldRow}
use Rattle.nt_grammar.specs.declared.rows.ColumnRow.{ColumnRow}
use Rattle.nt_plans.specs.Plan.{PlanData, PlansData, bool, number, text, list, maybe, record_of, choice, no_plans, plan}
use Rattle.nt_plans.specs.Place.{place}
use Rattle.nt_open.specs.declared.uses.ColumnUse.{ColumnUse}

-- whether a column is principal, if it is this one
abbrev pub principal_at : Bool → ℕ → ℕ → Option Bool
principal_at up k j = if j == k then Some up else None

-- whether a column of a plan is principal, of a plan whose field is principal or not; below lists, optionals and choices none is
abbrev mutual
  pub principal_in : Bool → PlanData → ℕ → Option Bool
  principal_in up (bool k) j = principal_at up k j
  principal_in up (number k bits signed) j = principal_at up k j
  principal_in up (text ends bytes) j = option_or (principal_at up ends j) (principal_at false bytes j)
  principal_in up (list ends p) j = option_or (principal_at up ends j) (principal_in false p j)
  principal_in up (maybe ends p) j = option_or (principal_at up ends j) (principal_in false p j)
  principal_in up (record_of ps) j = principal_in_any up ps j
  principal_in up (choice tags ps) j = option_or (principal_at up tags j) (principal_in_any false ps j)

  -- of these plans
  pub principal_in_any : Bool → PlansData → ℕ → Option Bool
  principal_in_any up no_plans j = None
  principal_in_any up (plan p ps) j = option_or (principal_in up p j) (principal_in_any up ps j)

-- the field at the top level that a column is of, and whether it is principal
abbrev pub Use : Type 0
Use = ℕ × Bool

-- a column of the field at the top level
abbrev pub use_in : ℕ → Option Bool → Option Use
use_in top None = None
use_in top (Some up) = Some (top, up)

-- what a column is of, of the fields that have a shape, which go on from this id
abbrev pub use_from : List FieldRow → List ColumnRow → ℕ → List (Option ShapeData) → ℕ → Option Use
use_from fs cs id [] k = None
use_from fs cs id (None ∷ shapes) k = use_from fs cs (id + 1) shapes k
use_from fs cs id (Some s ∷ shapes) k = option_or (use_in id (principal_in true (place fs cs s id) k)) (use_from fs cs (id + 1) shapes k)

-- what is kept of a column
abbrev pub use_view : ColumnUse → Use
use_view u = (u.top, u.principal)

-- what is kept of the column at a place
abbrev pub use_at : List (Option ColumnUse) → ℕ → Option Use
use_at [] k = None
use_at (u ∷ us) zero = option_map use_view u
use_at (u ∷ us) (suc k) = use_at us k

-- whether a column is principal, by what is kept of it
abbrev pub principal_of : Option Use → Bool
principal_of None = false
principal_of (Some u) = u.1

-- the field at the top level that is kept of a column
abbrev pub top_field_of : Use → ℕ
top_field_of u = u.0

-- where nothing is kept of a column yet, this is
pub record Marks (f : ℕ → Option Use) (old new : List (Option ColumnUse)) : Type 0 where
  pub count : length new ≡ length old
  pub each : (k : ℕ) → k < length old → use_at new k ≡ option_or (use_at old k) (f k)

-- of each column what it is of is kept
pub record HaveUses (fs : List FieldRow) (cs : List ColumnRow) (shapes : List (Option ShapeData))
    (uses : List (Option ColumnUse)) : Type 0 where
  pub count : length uses ≡ length cs
  pub each : (k : ℕ) → k < length cs → use_at uses k ≡ use_from fs cs 0 shapes k
