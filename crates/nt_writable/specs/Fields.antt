-- The rules of a field, as tests.
use Rattle.std.specs.Prelude.{Bool, true, false, ◌&&◌, not, nat_le, length}
use Rattle.nt_types.specs.ShapeData.{ShapeData, ShapesData, MembersData, MemberData, bool, char, byte, int, text, list, maybe, fields}
use Rattle.nt_types.specs.ShapeData.{tuple, choice, no_kinds, kind, no_parts, part, kinds_list, parts_list, takes_nothing}
use Rattle.nt_types.specs.Words.{is_name}
use Rattle.nt_types.specs.Names.{names_differ}
use Rattle.nt_types.specs.Limits.{max_alternatives, max_depth}
use Rattle.nt_types.specs.Spelling.{is_width, depth}

-- there is a kind, or a member
abbrev pub some_kinds : ShapesData → Bool
some_kinds no_kinds = false
some_kinds (kind k ks) = true

abbrev pub some_members : MembersData → Bool
some_members no_parts = false
some_members (part n k ps) = true

-- the rules of types, of those that lie in a choice or an optional and of others
abbrev mutual
  pub is_type : Bool → ShapeData → Bool
  is_type within bool = true
  is_type within char = true
  is_type within byte = true
  is_type within (int bits signed) = is_width bits
  is_type within text = true
  is_type within (list k) = is_type within k
  is_type within (maybe k) = not (takes_nothing k) && is_type true k
  is_type within (fields ps) = not within && (names_differ (parts_list ps) && (all_members ps && some_members ps))
  is_type within (tuple ks) = all_types within ks && some_kinds ks
  is_type within (choice ks) = nat_le (length (kinds_list ks)) max_alternatives && (all_types true ks && some_kinds ks)

  -- each of several
  pub all_types : Bool → ShapesData → Bool
  all_types within no_kinds = true
  all_types within (kind k ks) = is_type within k && all_types within ks

  -- each of several members, with its name
  pub all_members : MembersData → Bool
  all_members no_parts = true
  all_members (part n k ps) = is_name n && (is_type false k && all_members ps)

-- one at least, and each keeps the rules
abbrev pub are_types : Bool → ShapesData → Bool
are_types within ks = all_types within ks && some_kinds ks

-- one member at least, and each keeps the rules
abbrev pub are_members : MembersData → Bool
are_members ps = all_members ps && some_members ps

-- a field: its name and its type keep their rules, and the type doesn't nest too deep
abbrev pub is_field : MemberData → Bool
is_field p = is_name p.name && (nat_le (depth p.of) max_depth && is_type false p.of)
