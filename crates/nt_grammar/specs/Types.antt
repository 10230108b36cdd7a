-- The fields that shapes of values are stored in: roles and type names
-- (RNTuple Binary Format Specification 1.0.0.0, sections Field Description and Mapping of C++ Types to Fields and Columns).
use Rattle.std.specs.Prelude.{ℕ, Bool, true, false, List, [], ◌++◌, ◌==◌, ◌||◌, codes, if◌then◌else◌}
use Rattle.nt_grammar.specs.Codes.{leaf_role, collection_role, record_role, variant_role}
use Rattle.nt_types.specs.ShapeData.{ShapeData, ShapesData, bool, char, byte, int, text, list, maybe, fields, tuple, choice, no_kinds, kind}

-- whether values of the shape hold a record with named members, at any depth
abbrev mutual
  pub holds_record : ShapeData → Bool
  holds_record bool = false
  holds_record char = false
  holds_record byte = false
  holds_record (int bits signed) = false
  holds_record text = false
  holds_record (list k) = holds_record k
  holds_record (maybe k) = holds_record k
  holds_record (fields ps) = true
  holds_record (tuple ks) = any_holds_record ks
  holds_record (choice ks) = any_holds_record ks

  -- whether one of them does
  pub any_holds_record : ShapesData → Bool
  any_holds_record no_kinds = false
  any_holds_record (kind k ks) = holds_record k || any_holds_record ks

-- the C++ type of an integer
abbrev pub int_name : ℕ → Bool → List ℕ
int_name bits signed =
    (if signed then codes "std::int" else codes "std::uint") ++
    (if bits == 8 then codes "8_t" else if bits == 16 then codes "16_t" else if bits == 32 then codes "32_t" else codes "64_t")

-- a C++ template with its arguments
unfoldable pub template : List ℕ → List ℕ → List ℕ
template head arguments = head ++ (arguments ++ codes ">")

-- the C++ type of values that hold no record; a type that isn't the first has a comma before it
abbrev mutual
  pub cpp_name : ShapeData → List ℕ
  cpp_name bool = codes "bool"
  cpp_name char = codes "char"
  cpp_name byte = codes "std::byte"
  cpp_name (int bits signed) = int_name bits signed
  cpp_name text = codes "std::string"
  cpp_name (list k) = template (codes "std::vector<") (cpp_name k)
  cpp_name (maybe k) = template (codes "std::optional<") (cpp_name k)
  cpp_name (fields ps) = []
  cpp_name (tuple ks) = template (codes "std::tuple<") (cpp_names true ks)
  cpp_name (choice ks) = template (codes "std::variant<") (cpp_names true ks)

  -- the types, with commas between them
  pub cpp_names : Bool → ShapesData → List ℕ
  cpp_names first no_kinds = []
  cpp_names first (kind k ks) = (if first then [] else codes ",") ++ (cpp_name k ++ cpp_names false ks)

-- the type name of a field: a record has no C++ type of its own, and nor has what holds one
abbrev pub type_name : ShapeData → List ℕ
type_name k = if holds_record k then [] else cpp_name k

-- the structural role of a field
abbrev pub role_of : ShapeData → ℕ
role_of bool = leaf_role
role_of char = leaf_role
role_of byte = leaf_role
role_of (int bits signed) = leaf_role
role_of text = leaf_role
role_of (list k) = collection_role
role_of (maybe k) = collection_role
role_of (fields ps) = record_role
role_of (tuple ks) = record_role
role_of (choice ks) = variant_role
