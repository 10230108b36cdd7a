-- What trees stand for.
use Rattle.std.specs.Prelude.{List}
use Rattle.nt_types.specs.TreeData.{TreeData, flag, num, text, items, parts, pick, nothing, trees_of}
use Rattle.nt_types.specs.declared.tree.Tree.{Tree, fold-Tree}
use Rattle.nt_types.specs.declared.tree.Tree.TheOpen.{Tree-F, Trees-F}
use Rattle.nt_types.specs.declared.tree.Trees.{Trees, fold-Trees}

-- one level, with what lies inside already seen
abbrev pub tree_step : Tree-F TreeData (List TreeData) → TreeData
tree_step (Tree-F.Flag b) = flag b
tree_step (Tree-F.Num n) = num n
tree_step (Tree-F.Text s) = text s
tree_step (Tree-F.Items ts) = items (trees_of ts)
tree_step (Tree-F.Parts ts) = parts (trees_of ts)
tree_step (Tree-F.Pick tag t) = pick tag t.value
tree_step Tree-F.Nothing = nothing

abbrev pub trees_step : Trees-F TreeData (List TreeData) → List TreeData
trees_step t = t.list.items

-- the value that a tree stands for
abbrev pub tree_view : Tree → TreeData
tree_view = fold-Tree TreeData (List TreeData) tree_step trees_step

-- the values of several trees
abbrev pub trees_view : Trees → List TreeData
trees_view = fold-Trees TreeData (List TreeData) tree_step trees_step
