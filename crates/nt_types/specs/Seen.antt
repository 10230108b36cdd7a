-- A set of names as the list of what it holds.
use Rattle.std.specs.Prelude.{ℕ, List, ◌≡◌}
use Rattle.std.specs.Ordering.{nat_cmp}
use Rattle.std.specs.declared.cmp.Ordering.{Ordering}
use Rattle.std.specs.Borrow.{Bor}
use Rattle.std.specs.Cmp.Lexicographic.{slice_cmp}
use Rattle.std.specs.BTreeSet.{BTreeSet, contains}
use Rattle.nt_types.specs.Names.{has_name}

-- the order of borrowed byte strings
abbrev pub slices_cmp : Bor (List ℕ) → Bor (List ℕ) → Ordering
slices_cmp a b = slice_cmp nat_cmp a.now b.now

-- the set holds these names
abbrev pub KnowsNames : BTreeSet (Bor (List ℕ)) → List (List ℕ) → Type 0
KnowsNames set names = (q : Bor (List ℕ)) → contains slices_cmp set q ≡ has_name names q.now
