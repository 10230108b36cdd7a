-- Which trees have a shape.
use Rattle.std.specs.Prelude.{ℕ, zero, suc, ◌^◌, ◌-◌, ◌&&◌, ◌||◌, nat_lt, ℤ, pos, negsuc, Bool, true, false}
use Rattle.nt_types.specs.ShapeData.{ShapeData, ShapesData, MembersData, no_kinds, kind, no_parts, part}
use Rattle.nt_types.specs.ShapeData as kinds
use Rattle.nt_types.specs.TreeData.{TreeData, TreesData, flag, num, text, items, parts, pick, nothing, no_trees, tree, is_nothing}

-- whether an integer is in the range of a width
abbrev pub is_int : ℕ → Bool → ℤ → Bool
is_int bits false (pos n) = nat_lt n (2 ^ bits)
is_int bits false (negsuc n) = false
is_int bits true (pos n) = nat_lt n (2 ^ (bits - 1))
is_int bits true (negsuc n) = nat_lt n (2 ^ (bits - 1))

-- whether each of the trees passes
abbrev pub all_trees : (TreeData → Bool) → TreesData → Bool
all_trees f no_trees = true
all_trees f (tree t ts) = f t && all_trees f ts

-- whether it is a truth value
abbrev pub fits_flag : TreeData → Bool
fits_flag (flag b) = true
fits_flag _ = false

-- whether it is such a number
abbrev pub fits_number : (ℤ → Bool) → TreeData → Bool
fits_number f (num z) = f z
fits_number f _ = false

-- whether it is a text
abbrev pub fits_text : TreeData → Bool
fits_text (text s) = true
fits_text _ = false

-- whether it has such items
abbrev pub fits_items : (TreesData → Bool) → TreeData → Bool
fits_items f (items ts) = f ts
fits_items f _ = false

-- whether it has such parts
abbrev pub fits_parts : (TreesData → Bool) → TreeData → Bool
fits_parts f (parts ts) = f ts
fits_parts f _ = false

-- whether it is nothing, or such a choice
abbrev pub fits_pick : (ℕ → TreeData → Bool) → TreeData → Bool
fits_pick f nothing = true
fits_pick f (pick tag t) = f tag t
fits_pick f _ = false

-- whether there is a first tree that passes, and so do those behind it
abbrev pub fits_next : (TreeData → Bool) → (TreesData → Bool) → TreesData → Bool
fits_next f g no_trees = false
fits_next f g (tree t ts) = f t && g ts

-- whether there is no tree
abbrev pub are_no_trees : TreesData → Bool
are_no_trees no_trees = true
are_no_trees (tree t ts) = false

-- whether a tree has a shape; an optional takes nothing beside what it may contain; of several kinds, one tree for each; of
-- alternatives, the one of the tag, from 1
abbrev mutual
  pub fits : ShapeData → TreeData → Bool
  fits kinds.bool t = fits_flag t
  fits kinds.char t = fits_number (is_int 8 false) t
  fits kinds.byte t = fits_number (is_int 8 false) t
  fits (kinds.int bits signed) t = fits_number (is_int bits signed) t
  fits kinds.text t = fits_text t
  fits (kinds.list k) t = fits_items (all_trees (fits k)) t
  fits (kinds.maybe k) t = is_nothing t || fits k t
  fits (kinds.fields ps) t = fits_parts (fit_parts ps) t
  fits (kinds.tuple ks) t = fits_parts (fit_kinds ks) t
  fits (kinds.choice ks) t = fits_pick (fits_one ks) t

  pub fit_parts : MembersData → TreesData → Bool
  fit_parts no_parts ts = are_no_trees ts
  fit_parts (part n k ps) ts = fits_next (fits k) (fit_parts ps) ts

  pub fit_kinds : ShapesData → TreesData → Bool
  fit_kinds no_kinds ts = are_no_trees ts
  fit_kinds (kind k ks) ts = fits_next (fits k) (fit_kinds ks) ts

  pub fits_one : ShapesData → ℕ → TreeData → Bool
  fits_one no_kinds tag t = false
  fits_one (kind k ks) zero t = false
  fits_one (kind k ks) (suc zero) t = fits k t
  fits_one (kind k ks) (suc (suc n)) t = fits_one ks (suc n) t
