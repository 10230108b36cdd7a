-- How long type names are.
use Rattle.std.proofs.Common.{ℕ, Bool, true, false, ◌≡◌, ◌≤◌, ◌+◌, ◌*◌, List, ◌++◌, length, codes, ◌==◌, if◌then◌else◌, arith}
use Rattle.std.proofs.lemmas.List.{length-append}
use Rattle.nt_types.specs.ShapeData.{ShapeData, ShapesData, bool, char, byte, int, text, list, maybe, fields, tuple, choice, no_kinds, kind}
use Rattle.nt_types.specs.Schema.{field_count, kinds_count}
use Rattle.nt_grammar.specs.Types.{cpp_name, cpp_names, int_name, template}

int_name-length : (bits : ℕ) (signed : Bool) → length (int_name bits signed) ≤ 14
int_name-length bits signed = widths signed (bits == 8) (bits == 16) (bits == 32)
  where
    widths : (s a b c : Bool) → length ((if s then codes "std::int" else codes "std::uint") ++
        (if a then codes "8_t" else if b then codes "16_t" else if c then codes "32_t" else codes "64_t")) ≤ 14
    widths true true b c = omega arith
    widths true false true c = omega arith
    widths true false false true = omega arith
    widths true false false false = omega arith
    widths false true b c = omega arith
    widths false false true c = omega arith
    widths false false false true = omega arith
    widths false false false false = omega arith

template-length : (head a : List ℕ) → length (template head a) ≡ length head + (length a + 1)
unfolding template
template-length head a = grind (arith, length-append head (a ++ codes ">"), length-append a (codes ">"))

-- a type name has at most 15 bytes for each field, with a comma before it
mutual
  pub cpp_name-length : (k : ShapeData) → length (cpp_name k) + 1 ≤ 15 * field_count k
  cpp_name-length bool = omega arith
  cpp_name-length char = omega arith
  cpp_name-length byte = omega arith
  cpp_name-length (int bits signed) = omega (arith, int_name-length bits signed)
  cpp_name-length text = omega arith
  cpp_name-length (list k) = omega (arith, cpp_name-length k, template-length (codes "std::vector<") (cpp_name k))
  cpp_name-length (maybe k) = omega (arith, cpp_name-length k, template-length (codes "std::optional<") (cpp_name k))
  cpp_name-length (fields ps) = omega arith
  cpp_name-length (tuple ks) = omega (arith, cpp_names-length true ks, template-length (codes "std::tuple<") (cpp_names true ks))
  cpp_name-length (choice ks) = omega (arith, cpp_names-length true ks, template-length (codes "std::variant<") (cpp_names true ks))

  pub cpp_names-length : (first : Bool) (ks : ShapesData) → length (cpp_names first ks) ≤ 15 * kinds_count ks
  cpp_names-length first no_kinds = omega arith
  cpp_names-length true (kind k ks) = omega
      (arith, cpp_name-length k, cpp_names-length false ks, length-append (cpp_name k) (cpp_names false ks))
  cpp_names-length false (kind k ks) = omega
      (arith, cpp_name-length k, cpp_names-length false ks, length-append (cpp_name k) (cpp_names false ks))
