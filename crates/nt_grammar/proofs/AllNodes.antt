-- What holds of all fields that are listed.
use Rattle.std.proofs.Common.{ℕ, Bool, true, false, ◌≡◌, ◌<◌, ◌≤◌, ◌+◌, ◌^◌, List, [], ◌∷◌, ◌++◌, length, map, refl, sym, subst}
use Rattle.std.proofs.Common.{if◌then◌else◌, arith}
use Rattle.std.proofs.lemmas.Bool.Decides.{nat_tests}
use Rattle.std.proofs.lemmas.Fmt.{length-decimal-le}
use Rattle.std.specs.List.{list_all}
use Rattle.std.specs.Fmt.{decimal}
use Rattle.nt_types.specs.ShapeData.{ShapeData, ShapesData, MembersData, MemberData, bool, char, byte, int, text, list, maybe, fields}
use Rattle.nt_types.specs.ShapeData.{tuple, choice, no_kinds, kind, no_parts, part, parts_of}
use Rattle.nt_types.specs.Words.{is_name}
use Rattle.nt_types.specs.Spelling.{IsType, AreKinds, AreMoreKinds, AreParts, AreMoreParts}
use Rattle.nt_types.specs.Schema.{field_count, parts_count, kinds_count}
use Rattle.nt_types.specs.Rules.{AreFields}
use Rattle.nt_grammar.specs.Types.{holds_record, cpp_name, type_name}
use Rattle.nt_grammar.specs.Rows.{NodeData, AreNodesFrom, AreNodes, place_name, inside, members_in, places_in, all_inside, at_top}
use Rattle.nt_grammar.specs.Rows.{field_row, Rows}
use Rattle.nt_grammar.specs.Table.{Table, is_short}
use Rattle.nt_grammar.proofs.Listing.{uncons, regrouped, all_inside-self, weight-inside}
use Rattle.nt_grammar.proofs.Lengths.{cpp_name-length}

-- each of these has the property
abbrev pub AllNodes : (NodeData → Type 0) → List NodeData → Type 0
AllNodes P [] = Unit {0}
AllNodes P (n ∷ ns) = P n × AllNodes P ns

pub AllNodes-append : (P : NodeData → Type 0) (a b : List NodeData) → AllNodes P a → AllNodes P b → AllNodes P (a ++ b)
AllNodes-append P [] b x y = y
AllNodes-append P (n ∷ a) b x y = (x.0, AllNodes-append P a b x.1 y)

-- what holds of these, and then of the fields inside each, holds of those that are listed behind them
pub AllNodes-inside : (P : NodeData → Type 0) → ((id : ℕ) (n : NodeData) → P n → AllNodes P (inside id n.of))
    → (id : ℕ) (front ms : List NodeData) → ms ≡ front ++ all_inside id ms → AllNodes P front → AllNodes P ms
AllNodes-inside P closed id [] ms e a = subst (AllNodes P) (sym (all_inside-self id ms e)) tt
AllNodes-inside P closed id (q ∷ front) [] e a = tt
AllNodes-inside P closed id (q ∷ front) (m ∷ ms) e a =
    let d : (m ≡ q) × (ms ≡ front ++ (inside id m.of ++ all_inside (id + 1) ms)) = uncons m q ms _ e in (
      subst P (sym d.0) a.0,
      AllNodes-inside P closed (id + 1) (front ++ inside id q.of) ms (regrouped id front q m ms d.0 d.1)
          (AllNodes-append P front (inside id q.of) a.1 (closed id q a.0)),
    )

-- a field whose name and type keep their rules
pub record IsField (n : NodeData) : Type 0 where
  pub named : length n.name ≤ 255
  pub within : Bool
  pub typed : IsType within n.of
  pub few : field_count n.of ≤ 4096

name-length : (n : List ℕ) → is_name n ≡ true → length n ≤ 255
name-length [] h = cc
name-length (b ∷ bs) h = grind (arith, nat_tests)

place_name-length : (i : ℕ) → i < 4096 → length (place_name i) ≤ 255
place_name-length i h = let digits : length (decimal i) ≤ 4 = length-decimal-le 4 i (omega arith) (omega arith) (omega arith) in omega arith

-- each field counts itself
pub field_count-some : (k : ShapeData) → 0 < field_count k
field_count-some k = omega (arith, weight-inside 0 k)

members-fields : (id : ℕ) (ps : MembersData) → AreMoreParts ps → parts_count ps ≤ 4096 → AllNodes IsField (members_in id ps)
members-fields id no_parts t h = tt
members-fields id (part n k ps) t h =
    (record { named = name-length n t.0; within = false; typed = t.1; few = omega arith }, members-fields id ps t.2 (omega arith))

parts-fields : (within : Bool) (id i : ℕ) (ks : ShapesData) → AreMoreKinds within ks → i + kinds_count ks ≤ 4096
    → AllNodes IsField (places_in id i ks)
parts-fields within id i no_kinds t h = tt
parts-fields within id i (kind k ks) t h =
    let some : 0 < field_count k = field_count-some k in (
      record { named = place_name-length i (omega arith); within = within; typed = t.0; few = omega arith },
      parts-fields within id
          (i + 1) ks t.1 (omega arith),
    )

more_parts : (ps : MembersData) → AreParts ps → AreMoreParts ps
more_parts no_parts t = absurd t
more_parts (part n k ps) t = t

pub more_kinds : (within : Bool) (ks : ShapesData) → AreKinds within ks → AreMoreKinds within ks
more_kinds within no_kinds t = absurd t
more_kinds within (kind k ks) t = t

inside-fields : (within : Bool) (id : ℕ) (k : ShapeData) → IsType within k → field_count k ≤ 4096 → AllNodes IsField (inside id k)
inside-fields within id bool t h = tt
inside-fields within id char t h = tt
inside-fields within id byte t h = tt
inside-fields within id (int bits signed) t h = tt
inside-fields within id text t h = tt
inside-fields within id (list k) t h = (
  record
      { named = place_name-length 0 (omega arith); within = within; typed = t; few = omega arith },
  tt,
)
inside-fields within id (maybe k) t h = (
  record
      { named = place_name-length 0 (omega arith); within = true; typed = t.1; few = omega arith },
  tt,
)
inside-fields within id (fields ps) t h = members-fields id ps (more_parts ps t.2) (omega arith)
inside-fields within id (tuple ks) t h = parts-fields within id 0 ks (more_kinds within ks t) (omega arith)
inside-fields within id (choice ks) t h = parts-fields true id 0 ks (more_kinds true ks t.1) (omega arith)

top-fields : (id : ℕ) (ps : List MemberData) → AreMoreParts (parts_of ps) → parts_count (parts_of ps) ≤ 4096
    → AllNodes IsField (at_top id ps)
top-fields id [] t h = tt
top-fields id (p ∷ ps) t h =
    (record { named = name-length p.name t.0; within = false; typed = t.1; few = omega arith }, top-fields (id + 1) ps t.2 (omega arith))

-- all fields from an id on keep the rules, where those at the top level do
pub all-fields-from : (id : ℕ) (ps : List MemberData) (nodes : List NodeData) → AreMoreParts (parts_of ps)
    → parts_count (parts_of ps) ≤ 4096 → AreNodesFrom id ps nodes → AllNodes IsField nodes
all-fields-from id ps nodes t h e =
    AllNodes-inside IsField (λ j n f. inside-fields f.within j n.of f.typed f.few) id (at_top id ps) nodes e (top-fields id ps t h)

pub all-fields : (ps : List MemberData) (nodes : List NodeData) → AreFields ps → AreNodes ps nodes → AllNodes IsField nodes
all-fields ps nodes a e = all-fields-from 0 ps nodes a.rules a.few e

type_name-length : (k : ShapeData) → field_count k ≤ 4096 → length (type_name k) < 2 ^ 32
type_name-length k h = cases (holds_record k)
  where
    cases : (b : Bool) → length (if b then [] else cpp_name k) < 2 ^ 32
    cases true = omega arith
    cases false = omega (arith, cpp_name-length k)

pub field-short : (n : NodeData) → IsField n → is_short (field_row n) ≡ true
field-short n f =
    let named : length n.name ≤ 255 = f.named in
    let typed : length (type_name n.of) < 2 ^ 32 = type_name-length n.of f.few in
    grind (arith, nat_tests)

pub rows-short : (nodes : List NodeData) → AllNodes IsField nodes → list_all is_short (map field_row nodes) ≡ true
rows-short [] a = refl
rows-short (n ∷ ns) a = rw (field-short n a.0, rows-short ns a.1) refl

-- the names of fields that keep the rules are short
pub described_short : (ps : List MemberData) (plain : Bool) (t : Table) → AreFields ps → Rows ps plain t → list_all is_short t.fields ≡ true
described_short ps plain t a r = rw r.field_rows (rows-short r.nodes (all-fields ps r.nodes a r.order))
