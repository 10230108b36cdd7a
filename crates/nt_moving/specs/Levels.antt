-- What an element says, one level of its tree: a number, or where what lies inside stands.
use Rattle.std.specs.Prelude.{◌-◌, ◌≤◌, length}
use Rattle.nt_types.specs.TreeData.{TreeData, flag, num, items, parts, pick, nothing}
use Rattle.nt_types.specs.TreeData as trees
use Rattle.nt_plans.specs.PlanViews.{plan_view}
use Rattle.nt_trees.specs.Columns.{Cols}
use Rattle.nt_trees.specs.Integers.{integer_of}
use Rattle.nt_trees.specs.TreeAt.{text_from, trees_from, tree_at, each_at}
use Rattle.nt_trees.specs.Views.{plans_in}
use Rattle.nt_join.specs.Readable.{Readable, ReadableTo, ReadableEach}
use Rattle.nt_moving.specs.declared.level.Level.{Level}
use Rattle.nt_moving.specs.declared.level.Level.TheVariants.{Nothing, Flag, Number, Text, List, Record, Choice}

-- its tree
abbrev pub level_tree : Level → Cols → TreeData
level_tree Nothing cols = nothing
level_tree (Flag b) cols = flag b
level_tree (Number n) cols = num (integer_of n.bits n.signed n.element)
level_tree (Text s) cols = trees.text (text_from (cols s.column) s.from (s.to - s.from))
level_tree (List s) cols = items (trees_from (tree_at (plan_view s.of.now) cols) s.from (s.to - s.from))
level_tree (Record p) cols = parts (each_at (plans_in p.of.now) cols p.i)
level_tree (Choice p) cols = pick p.tag (tree_at (plan_view p.of.now) cols p.i)

-- what lies inside can be read
abbrev pub CanBeRead : Level → Cols → Type 0
CanBeRead Nothing cols = Unit {0}
CanBeRead (Flag b) cols = Unit {0}
CanBeRead (Number n) cols = Unit {0}
CanBeRead (Text s) cols = (s.from ≤ s.to) × (s.to ≤ length (cols s.column))
CanBeRead (List s) cols = (s.from ≤ s.to) × ReadableTo (plan_view s.of.now) cols s.to
CanBeRead (Record p) cols = ReadableEach (plans_in p.of.now) cols p.i
CanBeRead (Choice p) cols = Readable (plan_view p.of.now) cols p.i
