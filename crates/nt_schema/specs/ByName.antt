-- Fields at the top level by name.
use Rattle.std.specs.Prelude.{ℕ, ◌≡◌, ◌+◌, List, [], ◌∷◌, Option, Some, None, Vec, ◌==◌, ◌&&◌, if◌then◌else◌}
use Rattle.std.specs.Str.{bytes_eq}
use Rattle.std.specs.declared.alloc.Global.{Global}
use Rattle.std.specs.declared.random_state.RandomState.{RandomState}
use Rattle.indexmap.specs.IndexMap.{IndexMap, get_by}
use Rattle.nt_grammar.specs.declared.rows.FieldRow.{FieldRow}

-- the first field at the top level of this name, of rows whose ids go on from this one; a field at the top level is its own parent
abbrev pub find_from : ℕ → List FieldRow → List ℕ → Option ℕ
find_from id [] name = None
find_from id (r ∷ rs) name = if (r.parent == id) && bytes_eq name r.name then Some id else find_from (id + 1) rs name

-- ids by name, in the order of the fields
abbrev pub Names : Type 0
Names = IndexMap (Vec ℕ Global) ℕ RandomState

-- what is kept of a name
abbrev pub found : Names → List ℕ → Option ℕ
found names name = get_by (λ k. bytes_eq name k.items) names

-- where no names are kept, none is found
abbrev pub found_in : Option Names → List ℕ → Option ℕ
found_in None name = None
found_in (Some names) name = found names name

-- the first field of each name is kept
abbrev pub HasNames : Option Names → List FieldRow → Type 0
HasNames names rows = (name : List ℕ) → found_in names name ≡ find_from 0 rows name
