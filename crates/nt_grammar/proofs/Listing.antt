-- Fields that are listed, and those that are left.
use Rattle.std.proofs.Common.{ℕ, Bool, ◌≡◌, ◌≤◌, ◌+◌, List, [], ◌∷◌, ◌++◌, length, map, refl, sym, ◌∙◌, ap}
use Rattle.std.proofs.Common.{append_assoc, add-zero, arith}
use Rattle.std.proofs.lemmas.Grind.{common_steps}
use Rattle.nt_types.specs.ShapeData.{ShapeData, ShapesData, MembersData, MemberData, bool, char, byte, int, text, list, maybe, fields}
use Rattle.nt_types.specs.ShapeData.{tuple, choice, no_kinds, kind, no_parts, part, parts_of}
use Rattle.nt_types.specs.Schema.{field_count, parts_count, kinds_count}
use Rattle.nt_grammar.specs.Rows.{NodeData, AreNodes, inside, members_in, places_in, all_inside, at_top, field_row, column_rows, Rows}
use Rattle.nt_grammar.specs.Table.{Table, table_of}
use Rattle.nt_grammar.specs.declared.rows.FieldRow.{FieldRow}
use Rattle.nt_grammar.specs.declared.rows.ColumnRow.{ColumnRow}
use Rattle.nt_grammar.specs.Listing.{weight}

pub weight-append : (a b : List NodeData) → weight (a ++ b) ≡ weight a + weight b
weight-append [] b = omega arith
weight-append (n ∷ a) b = let ih : weight (a ++ b) ≡ weight a + weight b = weight-append a b in omega arith

weight-members_in : (id : ℕ) (ps : MembersData) → weight (members_in id ps) ≡ parts_count ps
weight-members_in id no_parts = refl
weight-members_in id (part n k ps) = ap (λ (w : ℕ). field_count k + w) (weight-members_in id ps)

weight-places_in : (id i : ℕ) (ks : ShapesData) → weight (places_in id i ks) ≡ kinds_count ks
weight-places_in id i no_kinds = refl
weight-places_in id i (kind k ks) = ap (λ (w : ℕ). field_count k + w) (weight-places_in id (i + 1) ks)

pub weight-inside : (id : ℕ) (k : ShapeData) → weight (inside id k) + 1 ≡ field_count k
weight-inside id bool = refl
weight-inside id char = refl
weight-inside id byte = refl
weight-inside id (int bits signed) = refl
weight-inside id text = refl
weight-inside id (list k) = omega arith
weight-inside id (maybe k) = omega arith
weight-inside id (fields ps) = ap (λ (w : ℕ). w + 1) (weight-members_in id ps)
weight-inside id (tuple ks) = ap (λ (w : ℕ). w + 1) (weight-places_in id 0 ks)
weight-inside id (choice ks) = ap (λ (w : ℕ). w + 1) (weight-places_in id 0 ks)

pub weight-at_top : (id : ℕ) (ps : List MemberData) → weight (at_top id ps) ≡ parts_count (parts_of ps)
weight-at_top id [] = refl
weight-at_top id (p ∷ ps) = ap (λ (w : ℕ). field_count p.of + w) (weight-at_top (id + 1) ps)

-- each field counts itself
pub length-weight : (ns : List NodeData) → length ns ≤ weight ns
length-weight [] = omega arith
length-weight (n ∷ ns) =
    let ih : length ns ≤ weight ns = length-weight ns in
    let own : weight (inside 0 n.of) + 1 ≡ field_count n.of = weight-inside 0 n.of in
    omega arith

pub all_inside-append : (id : ℕ) (a b : List NodeData) → all_inside id (a ++ b) ≡ all_inside id a ++ all_inside (id + length a) b
all_inside-append id [] b = ap (λ (i : ℕ). all_inside i b) (sym (add-zero id))
all_inside-append id (n ∷ a) b = grind (arith, common_steps, all_inside-append (id + 1) a b)

pub weight-all_inside : (id : ℕ) (ns : List NodeData) → weight (all_inside id ns) + length ns ≡ weight ns
weight-all_inside id [] = omega arith
weight-all_inside id (n ∷ ns) =
    let ih : weight (all_inside (id + 1) ns) + length ns ≡ weight ns = weight-all_inside (id + 1) ns in
    let own : weight (inside id n.of) + 1 ≡ field_count n.of = weight-inside id n.of in
    let both : weight (inside id n.of ++ all_inside (id + 1) ns) ≡ weight (inside id n.of) + weight (all_inside (id + 1) ns) =
    weight-append (inside id n.of) (all_inside (id + 1) ns) in
    omega arith

nothing : (ns : List NodeData) → length ns ≡ 0 → ns ≡ []
nothing [] e = refl
nothing (n ∷ ns) e = cc

-- no fields are inside themselves
pub all_inside-self : (id : ℕ) (ns : List NodeData) → ns ≡ all_inside id ns → ns ≡ []
all_inside-self id ns e =
    let same : weight ns ≡ weight (all_inside id ns) = ap weight e in
    let fewer : weight (all_inside id ns) + length ns ≡ weight ns = weight-all_inside id ns in
    nothing ns (omega arith)

pub uncons : (m n : NodeData) (ms ns : List NodeData) → m ∷ ms ≡ n ∷ ns → (m ≡ n) × (ms ≡ ns)
uncons m n ms ns e = (cc, cc)

-- the fields inside the first come behind the others that are listed
pub regrouped : (id : ℕ) (front : List NodeData) (q m : NodeData) (ms : List NodeData) → m ≡ q
    → ms ≡ front ++ (inside id m.of ++ all_inside (id + 1) ms)
    → ms ≡ (front ++ inside id q.of) ++ all_inside (id + 1) ms
regrouped id front q m ms h e =
    e ∙ (ap (λ (x : NodeData). front ++ (inside id x.of ++ all_inside (id + 1) ms)) h
    ∙ sym (append_assoc front (inside id q.of) (all_inside (id + 1) ms)))

-- from an id on, there is one list of the fields that are listed and those inside them
one_list : (id : ℕ) (front : List NodeData) (ms ns : List NodeData) → ms ≡ front ++ all_inside id ms → ns ≡ front ++ all_inside id ns
    → ms ≡ ns
one_list id [] ms ns e f = all_inside-self id ms e ∙ sym (all_inside-self id ns f)
one_list id (n ∷ front) [] ns e f = cc
one_list id (n ∷ front) (m ∷ ms) [] e f = cc
one_list id (q ∷ front) (m ∷ ms) (n ∷ ns) e f =
    let d : (m ≡ q) × (ms ≡ front ++ (inside id m.of ++ all_inside (id + 1) ms)) = uncons m q ms _ e in
    let g : (n ≡ q) × (ns ≡ front ++ (inside id n.of ++ all_inside (id + 1) ns)) = uncons n q ns _ f in
    let rest : ms ≡ ns = one_list (id + 1) (front ++ inside id q.of) ms ns (regrouped id front q m ms d.0 d.1)
    (regrouped id front q n ns g.0 g.1) in
    ap (λ (x : NodeData). x ∷ ms) (d.0 ∙ sym g.0) ∙ ap (λ (xs : List NodeData). n ∷ xs) rest

pub AreNodes-one : (ps : List MemberData) (ms ns : List NodeData) → AreNodes ps ms → AreNodes ps ns → ms ≡ ns
AreNodes-one ps ms ns e f = one_list 0 (at_top 0 ps) ms ns e f

pub same_tables : (s t : Table) → s.fields ≡ t.fields → s.columns ≡ t.columns → s.header_fields ≡ t.header_fields
    → s.header_columns ≡ t.header_columns → s ≡ t
same_tables s t p q h k =
    ap (λ (f : List FieldRow). table_of f s.columns s.header_fields s.header_columns) p
    ∙ (ap (λ (c : List ColumnRow). table_of t.fields c s.header_fields s.header_columns) q
    ∙ (ap (λ (n : ℕ). table_of t.fields t.columns n s.header_columns) h
    ∙ ap (λ (n : ℕ). table_of t.fields t.columns t.header_fields n) k))

-- fields have one table of rows
pub Rows-one : (ps : List MemberData) (plain : Bool) (s t : Table) → Rows ps plain s → Rows ps plain t → s ≡ t
Rows-one ps plain s t a b =
    let e : a.nodes ≡ b.nodes = AreNodes-one ps a.nodes b.nodes a.order b.order in
    let f : s.fields ≡ t.fields = a.field_rows ∙ (ap (map field_row) e ∙ sym b.field_rows) in
    let c : s.columns ≡ t.columns = a.columns_by_field ∙ (ap (column_rows plain 0) e ∙ sym b.columns_by_field) in
    same_tables s t f c
    (a.fields_in_header ∙ (ap length f ∙ sym b.fields_in_header)) (a.columns_in_header ∙ (ap length c ∙ sym b.columns_in_header))
