-- The names of fields at the top level, by the rows that describe them.
use Rattle.std.proofs.Common.{◌≡◌, ℕ, suc, ◌+◌, ◌==◌, Bool, true, false, List, [], ◌∷◌, ◌++◌, length, map, Some}
use Rattle.std.proofs.Common.{refl, ap, ◌∙◌, arith}
use Rattle.std.specs.Prelude.{◌&&◌, ◌||◌, is_some, if◌then◌else◌}
use Rattle.std.specs.Str.{bytes_eq}
use Rattle.std.proofs.lemmas.Bool.Decides.{nat_tests}
use Rattle.std.proofs.lemmas.Slice.Eq.{bytes_eq-Decides}
use Rattle.std.proofs.lemmas.List.{length-map, map-append}
use Rattle.nt_types.specs.ShapeData.{MemberData}
use Rattle.nt_types.specs.Names.{has_name}
use Rattle.nt_grammar.specs.declared.rows.FieldRow.{FieldRow}
use Rattle.nt_grammar.specs.Rows.{NodeData, AreNodesFrom, all_inside, at_top, field_row}
use Rattle.nt_schema.specs.ByName.{find_from}
use Rattle.nt_dealing.proofs.TableFits.{AreInside, inside-all, below-other}

abbrev pub names : List MemberData → List (List ℕ)
names ps = map (λ (p : MemberData). p.name) ps

bytes_eq-swap : (a b : List ℕ) → bytes_eq a b ≡ bytes_eq b a
bytes_eq-swap a b = grind (arith, bytes_eq-Decides a b, bytes_eq-Decides b a)

or_none : (b : Bool) → (b || false) ≡ b
or_none true = refl
or_none false = refl

same_id : (n : ℕ) → (n == n) ≡ true
same_id n = grind (arith, nat_tests)

-- what is found among two lists of rows
pub found-append : (id : ℕ) (a b : List FieldRow) (name : List ℕ)
    → is_some (find_from id (a ++ b) name) ≡ (is_some (find_from id a name) || is_some (find_from (id + length a) b name))
found-append id [] b name =
    let here : id ≡ id + 0 = omega arith in ap (λ (n : ℕ). is_some (find_from n b name)) here
found-append id (r ∷ a) b name =
    let next : id + 1 + length a ≡ id + suc (length a) = omega arith in
    at ((r.parent == id) && bytes_eq name r.name) (found-append (id + 1) a b name
    ∙ ap (λ (n : ℕ). is_some (find_from (id + 1) a name) || is_some (find_from n b name)) next)
  where
    at : (c : Bool)
        → is_some (find_from (id + 1) (a ++ b) name)
        ≡ (is_some (find_from (id + 1) a name) || is_some (find_from (id + suc (length a)) b name))
        → is_some (if c then Some id else find_from (id + 1) (a ++ b) name)
        ≡ (is_some (if c then Some id else find_from (id + 1) a name) || is_some (find_from (id + suc (length a)) b name))
    at true rest = refl
    at false rest = rest

-- fields at the top level are found by their names
found-top : (id : ℕ) (ps : List MemberData) (name : List ℕ)
    → is_some (find_from id (map field_row (at_top id ps)) name) ≡ has_name (names ps) name
found-top id [] name = refl
found-top id (p ∷ ps) name =
    ap (λ (b : Bool). is_some (if b && bytes_eq name p.name then Some id else find_from (id + 1) (map field_row (at_top (id + 1) ps)) name))
    (same_id id)
    ∙ (at (bytes_eq name p.name) (found-top (id + 1) ps name)
    ∙ ap (λ (b : Bool). b || has_name (names ps) name) (bytes_eq-swap name p.name))
  where
    at : (c : Bool) → is_some (find_from (id + 1) (map field_row (at_top (id + 1) ps)) name) ≡ has_name (names ps) name
        → is_some (if c then Some id else find_from (id + 1) (map field_row (at_top (id + 1) ps)) name)
        ≡ (c || has_name (names ps) name)
    at true rest = refl
    at false rest = rest

-- no field inside another is
found-inside : (id : ℕ) (ns : List NodeData) (name : List ℕ) → AreInside id ns → is_some (find_from id (map field_row ns) name) ≡ false
found-inside id [] name h = refl
found-inside id (n ∷ ns) name h =
    ap (λ (b : Bool). is_some (if b && bytes_eq name n.name then Some id else find_from (id + 1) (map field_row ns) name))
    (below-other n.parent id h.0)
    ∙ found-inside (id + 1) ns name h.1

-- of all fields from an id on just those at the top level are found
pub found-listed : (id : ℕ) (ps : List MemberData) (nodes : List NodeData) (name : List ℕ) → AreNodesFrom id ps nodes
    → is_some (find_from id (map field_row nodes) name) ≡ has_name (names ps) name
found-listed id ps nodes name order =
    let inner = all_inside id nodes in
    let below : AreInside (id + length (at_top id ps)) inner = inside-all id (at_top id ps) nodes order in
    let count : length (map field_row (at_top id ps)) ≡ length (at_top id ps) = length-map (at_top id ps) field_row in
    ap (λ (l : List NodeData). is_some (find_from id (map field_row l) name)) order
    ∙ (ap (λ (l : List FieldRow). is_some (find_from id l name)) (map-append field_row (at_top id ps) inner)
    ∙ (found-append id (map field_row (at_top id ps)) (map field_row inner) name
    ∙ (ap (λ (n : ℕ). is_some (find_from id (map field_row (at_top id ps)) name) || is_some (find_from (id + n) (map field_row inner) name))
    count
    ∙ (ap (λ (b : Bool). is_some (find_from id (map field_row (at_top id ps)) name) || b)
    (found-inside (id + length (at_top id ps)) inner name below)
    ∙ (or_none (is_some (find_from id (map field_row (at_top id ps)) name)) ∙ found-top id ps name)))))
