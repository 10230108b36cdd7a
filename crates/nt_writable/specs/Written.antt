-- The shape that a field is written with.
use Rattle.std.specs.Prelude.{ℕ, ◌+◌, Bool, true, ◌&&◌, if◌then◌else◌}
use Rattle.std.specs.Str.{bytes_eq}
use Rattle.nt_types.specs.ShapeData.{ShapeData, ShapesData, MembersData, bool, char, byte, int, text, list, maybe, fields}
use Rattle.nt_types.specs.ShapeData.{tuple, choice, no_kinds, kind, no_parts, part}
use Rattle.nt_grammar.specs.Rows.{place_name}

-- members are named by their places, from this one on
abbrev pub named_by_places : ℕ → MembersData → Bool
named_by_places i no_parts = true
named_by_places i (part n k ps) = bytes_eq n (place_name i) && named_by_places (i + 1) ps

-- a record whose members are named by their places is a tuple, since tuples are read as such records
abbrev mutual
  pub as_written : ShapeData → ShapeData
  as_written bool = bool
  as_written char = char
  as_written byte = byte
  as_written (int bits signed) = int bits signed
  as_written text = text
  as_written (list k) = list (as_written k)
  as_written (maybe k) = maybe (as_written k)
  as_written (fields ps) = if named_by_places 0 ps then tuple (kinds_of_members ps) else fields (parts_as_written ps)
  as_written (tuple ks) = tuple (kinds_as_written ks)
  as_written (choice ks) = choice (kinds_as_written ks)

  -- several shapes, each by itself
  pub kinds_as_written : ShapesData → ShapesData
  kinds_as_written no_kinds = no_kinds
  kinds_as_written (kind k ks) = kind (as_written k) (kinds_as_written ks)

  -- members, each by itself
  pub parts_as_written : MembersData → MembersData
  parts_as_written no_parts = no_parts
  parts_as_written (part n k ps) = part n (as_written k) (parts_as_written ps)

  -- the shapes of members, without their names
  pub kinds_of_members : MembersData → ShapesData
  kinds_of_members no_parts = no_kinds
  kinds_of_members (part n k ps) = kind (as_written k) (kinds_of_members ps)
