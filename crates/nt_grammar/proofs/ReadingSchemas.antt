-- The rows of fields that are described are in range.
use Rattle.std.proofs.Common.{◌≡◌, ℕ, suc, ◌+◌, ◌<◌, ◌≤◌, ◌^◌, Bool, true, List, [], ◌∷◌, ◌++◌, length, take, drop, map, refl, sym, ap}
use Rattle.std.proofs.Common.{subst, ◌∙◌, arith}
use Rattle.std.specs.List.{AllByRecursion}
use Rattle.std.proofs.lemmas.Bool.Decides.{nat_tests}
use Rattle.std.proofs.lemmas.List.{take_all, length-map}
use Rattle.nt_types.specs.ShapeData.{ShapeData, ShapesData, MembersData, MemberData, bool, char, byte, int, text, list, maybe, fields}
use Rattle.nt_types.specs.ShapeData.{tuple, choice, no_kinds, kind, no_parts, part, parts_of}
use Rattle.nt_types.specs.Schema.{parts_count}
use Rattle.nt_types.specs.Rules.{AreFields}
use Rattle.nt_types.specs.ColumnTable.{code_of, bits_of}
use Rattle.nt_types.specs.declared.column_type.ColumnType.{ColumnType}
use Rattle.nt_types.specs.declared.column_type.ColumnType.TheVariants.{Bit}
use Rattle.nt_grammar.specs.declared.rows.FieldRow.{FieldRow}
use Rattle.nt_grammar.specs.declared.rows.ColumnRow.{ColumnRow}
use Rattle.nt_grammar.specs.Table.{Table, is_short}
use Rattle.nt_grammar.specs.Types.{role_of}
use Rattle.nt_grammar.specs.Columns.{column_types}
use Rattle.nt_grammar.specs.Rows.{NodeData, AreNodesFrom, inside, members_in, places_in, all_inside, at_top, field_row}
use Rattle.nt_grammar.specs.Rows.{column_row, column_rows, Rows}
use Rattle.nt_grammar.specs.Listing.{weight}
use Rattle.nt_grammar.specs.ReadingBack.{AreFieldRows, IsColumnRow, IsDescribed}
use Rattle.nt_grammar.proofs.Listing.{weight-append, weight-at_top, weight-all_inside, all_inside-self, uncons, regrouped}
use Rattle.nt_grammar.proofs.AllNodes.{AllNodes, IsField, all-fields, field-short}
use Rattle.nt_grammar.proofs.ReadingDescribed.{each-append, drop_all}

-- no field, at these ids and on, lies in one behind it
pub ArePlaced : ℕ → List NodeData → Type 0
ArePlaced id [] = Unit {0}
ArePlaced id (n ∷ ns) = (n.parent ≤ id) × ArePlaced (id + 1) ns

placed-append : (id : ℕ) (a b : List NodeData) → ArePlaced id a → ((j : ℕ) → id ≤ j → ArePlaced j b) → ArePlaced id (a ++ b)
unfolding ArePlaced
placed-append id [] b p q = q id (omega arith)
placed-append id (n ∷ a) b p q = (p.0, placed-append (id + 1) a b p.1 (λ j le. q j (omega arith)))

placed-members : (id j : ℕ) (ps : MembersData) → id ≤ j → ArePlaced j (members_in id ps)
unfolding ArePlaced
placed-members id j no_parts le = tt
placed-members id j (part n k ps) le = (le, placed-members id (j + 1) ps (omega arith))

placed-parts : (id i j : ℕ) (ks : ShapesData) → id ≤ j → ArePlaced j (places_in id i ks)
unfolding ArePlaced
placed-parts id i j no_kinds le = tt
placed-parts id i j (kind k ks) le = (le, placed-parts id (i + 1) (j + 1) ks (omega arith))

placed-inside : (id j : ℕ) (k : ShapeData) → id ≤ j → ArePlaced j (inside id k)
unfolding ArePlaced
placed-inside id j bool le = tt
placed-inside id j char le = tt
placed-inside id j byte le = tt
placed-inside id j (int bits signed) le = tt
placed-inside id j text le = tt
placed-inside id j (list k) le = (le, tt)
placed-inside id j (maybe k) le = (le, tt)
placed-inside id j (fields ps) le = placed-members id j ps le
placed-inside id j (tuple ks) le = placed-parts id 0 j ks le
placed-inside id j (choice ks) le = placed-parts id 0 j ks le

pub placed-top : (id : ℕ) (ps : List MemberData) → ArePlaced id (at_top id ps)
unfolding ArePlaced
placed-top id [] = tt
placed-top id (p ∷ ps) = (omega arith, placed-top (id + 1) ps)

pub placed-listed : (id : ℕ) (front ms : List NodeData) → ms ≡ front ++ all_inside id ms → ArePlaced id front → ArePlaced id ms
unfolding ArePlaced
placed-listed id [] ms e a = subst (ArePlaced id) (sym (all_inside-self id ms e)) tt
placed-listed id (q ∷ front) [] e a = tt
placed-listed id (q ∷ front) (m ∷ ms) e a =
    let d : (m ≡ q) × (ms ≡ front ++ (inside id m.of ++ all_inside (id + 1) ms)) = uncons m q ms _ e in
    let here : m.parent ≤ id = subst (λ (n : NodeData). n.parent ≤ id) (sym d.0) a.0 in (
      here,
      placed-listed (id + 1) (front ++ inside id q.of) ms (regrouped id front q m ms d.0 d.1)
          (placed-append (id + 1) front (inside id q.of) a.1 (λ j le. placed-inside id j q.of (omega arith))),
    )

-- there are as many fields as the parts count
pub count-listed : (id : ℕ) (ps : List MemberData) (nodes : List NodeData) → AreNodesFrom id ps nodes
    → length nodes ≡ parts_count (parts_of ps)
count-listed id ps nodes e =
    let all : weight nodes ≡ weight (at_top id ps ++ all_inside id nodes) = ap weight e in
    omega (arith, all, weight-append (at_top id ps) (all_inside id nodes), weight-at_top id ps, weight-all_inside id nodes)

role-fits : (k : ShapeData) → role_of k < 2 ^ 16
role-fits bool = omega arith
role-fits k = omega arith

short-names : (r : FieldRow) → is_short r ≡ true → (length r.name < 2 ^ 32) × (length r.type_name < 2 ^ 32)
short-names r h = (grind (arith, nat_tests, h), grind (arith, nat_tests, h))

pub rows-in_range : (id : ℕ) (nodes : List NodeData) → id + length nodes ≤ 4096 → ArePlaced id nodes → AllNodes IsField nodes
    → AreFieldRows id (map field_row nodes)
unfolding ArePlaced
rows-in_range id [] few placed are = tt
rows-in_range id (n ∷ ns) few placed are =
    let names = short-names (field_row n) (field-short n are.0) in
    let parent : n.parent < 2 ^ 32 = omega (arith, placed.0) in
    let next : id + 1 ≡ suc id = omega arith in (
      record { parent = placed.0; word = parent; role = role-fits n.of; flags = omega arith; name = names.0; type_name = names.1 },
      subst (λ (k : ℕ). AreFieldRows k (map field_row ns)) next (rows-in_range (id + 1) ns (omega arith) placed.1 are.1),
    )

pub code-fits : (t : ColumnType) → code_of t < 2 ^ 16
code-fits Bit = omega arith
code-fits t = omega arith

pub bits-fit : (t : ColumnType) → bits_of t < 2 ^ 16
bits-fit Bit = omega arith
bits-fit t = omega arith

pub types-in_range : (n id : ℕ) (ts : List ColumnType) → id < n → n ≤ 4096 → AllByRecursion (IsColumnRow n) (map (column_row id) ts)
types-in_range n id [] lt few = tt
types-in_range n id (t ∷ ts) lt few = (
  record {
    code = code-fits t;
    bits = bits-fit t;
    field = lt;
    word = omega arith;
    flags = omega arith;
    representation = omega arith;
    first = omega arith;
    none = λ no. refl;
  },
  types-in_range n id ts lt few,
)

columns-in_range : (plain : Bool) (n id : ℕ) (nodes : List NodeData) → id + length nodes ≤ n → n ≤ 4096
    → AllByRecursion (IsColumnRow n) (column_rows plain id nodes)
columns-in_range plain n id [] le few = tt
columns-in_range plain n id (m ∷ ms) le few =
    each-append n (map (column_row id) (column_types plain m.of)) (column_rows plain (id + 1) ms)
    (types-in_range n id (column_types plain m.of) (omega arith) few) (columns-in_range plain n (id + 1) ms (omega arith) few)

pub Rows-described : (ps : List MemberData) (plain : Bool) (t : Table) → AreFields ps → Rows ps plain t → IsDescribed t
Rows-described ps plain t a r =
    let count : length r.nodes ≡ parts_count (parts_of ps) = count-listed 0 ps r.nodes r.order in
    let few : length r.nodes ≤ 4096 = omega (arith, a.few) in
    let all : length t.fields ≡ length r.nodes = ap length r.field_rows ∙ length-map r.nodes field_row in
    let placed = placed-listed 0 (at_top 0 ps) r.nodes r.order (placed-top 0 ps) in
    let columns : AllByRecursion (IsColumnRow (length t.fields)) t.columns =
    subst (λ (cs : List ColumnRow). AllByRecursion (IsColumnRow (length t.fields)) cs) (sym r.columns_by_field)
    (columns-in_range plain (length t.fields) 0 r.nodes (omega arith) (omega arith)) in
    let taken : t.columns ≡ take t.header_columns t.columns =
    sym (take_all t.header_columns t.columns (omega (arith, r.columns_in_header))) in
    let left : [] ≡ drop t.header_columns t.columns = sym (ap (λ (k : ℕ). drop k t.columns) r.columns_in_header ∙ drop_all t.columns) in
    record {
      fields = subst (AreFieldRows 0) (sym r.field_rows) (rows-in_range 0 r.nodes (omega arith) placed (all-fields ps r.nodes a r.order));
      header = subst (λ (k : ℕ). AllByRecursion (IsColumnRow k) (take t.header_columns t.columns)) (sym r.fields_in_header)
          (subst (AllByRecursion (IsColumnRow (length t.fields))) taken columns);
      extension = subst (AllByRecursion (IsColumnRow (length t.fields))) left tt;
      header_fields = omega (arith, r.fields_in_header);
      header_columns = omega (arith, r.columns_in_header);
    }
