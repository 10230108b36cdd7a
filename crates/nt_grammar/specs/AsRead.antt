-- What described fields are read as.
use Rattle.std.specs.Prelude.{ℕ, ◌+◌}
use Rattle.nt_types.specs.ShapeData.{ShapeData, ShapesData, MembersData, bool, char, byte, int, text, list, maybe, fields, tuple, choice}
use Rattle.nt_types.specs.ShapeData.{no_kinds, kind, no_parts, part}
use Rattle.nt_grammar.specs.Rows.{place_name}

-- a tuple is read as a record, whose members are named by their places
abbrev mutual
  pub as_read : ShapeData → ShapeData
  as_read bool = bool
  as_read char = char
  as_read byte = byte
  as_read (int bits signed) = int bits signed
  as_read text = text
  as_read (list k) = list (as_read k)
  as_read (maybe k) = maybe (as_read k)
  as_read (fields ps) = fields (parts_as_read ps)
  as_read (tuple ks) = fields (places_as_read 0 ks)
  as_read (choice ks) = choice (kinds_as_read ks)

  -- the members of a record, each by itself
  pub parts_as_read : MembersData → MembersData
  parts_as_read no_parts = no_parts
  parts_as_read (part n k ps) = part n (as_read k) (parts_as_read ps)

  -- members that are named by their places, from this one on
  pub places_as_read : ℕ → ShapesData → MembersData
  places_as_read i no_kinds = no_parts
  places_as_read i (kind k ks) = part (place_name i) (as_read k) (places_as_read (i + 1) ks)

  -- the alternatives of a choice, each by itself
  pub kinds_as_read : ShapesData → ShapesData
  kinds_as_read no_kinds = no_kinds
  kinds_as_read (kind k ks) = kind (as_read k) (kinds_as_read ks)
