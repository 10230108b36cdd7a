-- The value of a field in entries that were written without it (RNTuple Binary Format Specification 1.0.0.0, section Column Description:
-- the elements of a deferred column before its first one are zero).
use Rattle.std.specs.Prelude.{false, [], pos}
use Rattle.nt_types.specs.ShapeData.{ShapeData, ShapesData, MembersData, no_kinds, kind, no_parts, part}
use Rattle.nt_types.specs.ShapeData as kinds
use Rattle.nt_types.specs.TreeData.{TreeData, TreesData, flag, num, text, items, parts, nothing, no_trees, tree}
use Rattle.nt_plans.specs.Plan.{PlanData, PlansData, no_plans, plan}
use Rattle.nt_plans.specs.Plan as plans

-- false, 0, an empty text or list, nothing, a zero for each part, or no alternative
abbrev mutual
  pub zero_tree : ShapeData → TreeData
  zero_tree kinds.bool = flag false
  zero_tree kinds.char = num (pos 0)
  zero_tree kinds.byte = num (pos 0)
  zero_tree (kinds.int bits signed) = num (pos 0)
  zero_tree kinds.text = text []
  zero_tree (kinds.list k) = items no_trees
  zero_tree (kinds.maybe k) = nothing
  zero_tree (kinds.fields ps) = parts (zero_parts ps)
  zero_tree (kinds.tuple ks) = parts (zero_kinds ks)
  zero_tree (kinds.choice ks) = nothing

  pub zero_parts : MembersData → TreesData
  zero_parts no_parts = no_trees
  zero_parts (part n k ps) = tree (zero_tree k) (zero_parts ps)

  pub zero_kinds : ShapesData → TreesData
  zero_kinds no_kinds = no_trees
  zero_kinds (kind k ks) = tree (zero_tree k) (zero_kinds ks)

-- the same by the plan of a field
abbrev mutual
  pub zero_of : PlanData → TreeData
  zero_of (plans.bool k) = flag false
  zero_of (plans.number k bits signed) = num (pos 0)
  zero_of (plans.text e c) = text []
  zero_of (plans.list e p) = items no_trees
  zero_of (plans.maybe e p) = nothing
  zero_of (plans.record_of ps) = parts (zeros_of ps)
  zero_of (plans.choice s ps) = nothing

  pub zeros_of : PlansData → TreesData
  zeros_of no_plans = no_trees
  zeros_of (plan p ps) = tree (zero_of p) (zeros_of ps)
