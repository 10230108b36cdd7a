-- The rules of the fields of an event.
use Rattle.std.specs.Prelude.{true, false, ◌≡◌, ◌<◌, ◌≤◌, List, length}
use Rattle.nt_types.specs.ShapeData.{MemberData, parts_of}
use Rattle.nt_types.specs.Names.{names_differ}
use Rattle.nt_types.specs.Limits.{max_depth, max_fields}
use Rattle.nt_types.specs.Words.{is_name}
use Rattle.nt_types.specs.Spelling.{IsType, AreMoreParts, depth, deepest_part}
use Rattle.nt_types.specs.Schema.{parts_count}

-- there is a field, no name stands twice, names and types keep their rules at every depth, no type nests too deep, and there are
-- not too many
pub record AreFields (ps : List MemberData) : Type 0 where
  pub some : 0 < length ps
  pub differ : names_differ ps ≡ true
  pub rules : AreMoreParts (parts_of ps)
  pub shallow : deepest_part (parts_of ps) ≤ max_depth
  pub few : parts_count (parts_of ps) ≤ max_fields

-- one field: its name and its type keep their rules at every depth, and the type doesn't nest too deep
pub record IsField (p : MemberData) : Type 0 where
  pub named : is_name p.name ≡ true
  pub typed : IsType false p.of
  pub shallow : depth p.of ≤ max_depth
