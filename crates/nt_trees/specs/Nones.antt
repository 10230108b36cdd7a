-- What is written for choices without a value: tag 0 has index 0. A reader takes any index there.
-- RNTuple Binary Format Specification 1.0.0.0, section Column Description.
use Rattle.std.specs.Prelude.{ℕ, ◌≡◌, ◌<◌, List, length}
use Rattle.nt_column.specs.Elements.{Element}
use Rattle.nt_plans.specs.Plan.{PlanData, PlansData, bool, number, text, list, maybe, record_of, choice, no_plans, plan}
use Rattle.nt_trees.specs.Columns.{Cols, number_at, tag_at}

-- an element of tag 0 has number 0
abbrev pub NonesAreZero : List Element → Type 0
NonesAreZero es = (i : ℕ) → i < length es → tag_at es i ≡ 0 → number_at es i ≡ 0

-- the Switch columns of a plan have index 0 under tag 0
abbrev mutual
  pub HasZeroNones : PlanData → Cols → Type 0
  HasZeroNones (bool k) cols = Unit {0}
  HasZeroNones (number k bits signed) cols = Unit {0}
  HasZeroNones (text e c) cols = Unit {0}
  HasZeroNones (list e p) cols = HasZeroNones p cols
  HasZeroNones (maybe e p) cols = HasZeroNones p cols
  HasZeroNones (record_of ps) cols = HaveZeroNones ps cols
  HasZeroNones (choice s ps) cols = NonesAreZero (cols s) × HaveZeroNones ps cols

  -- those of several plans
  pub HaveZeroNones : PlansData → Cols → Type 0
  HaveZeroNones no_plans cols = Unit {0}
  HaveZeroNones (plan p ps) cols = HasZeroNones p cols × HaveZeroNones ps cols
