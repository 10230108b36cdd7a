-- Where the fields inside a described field stand.
use Rattle.std.proofs.Common.{ℕ, zero, suc, Bool, true, false, ◌≡◌, ◌<◌, ◌≤◌, ◌+◌, ◌-◌, List, [], ◌∷◌, ◌++◌, length, map, take, drop, Some}
use Rattle.std.proofs.Common.{slice_get, nat_le, ◌==◌, refl, sym, ap, ◌∙◌, subst, append_assoc, append-nil, zero-add, add-one, arith}
use Rattle.std.proofs.lemmas.Bool.Decides.{nat_tests}
use Rattle.std.proofs.lemmas.List.{length-map, length-take-le, length-drop, take-append-drop}
use Rattle.std.proofs.lemmas.Option.{slice_get_within, get_or_from_slice_get}
use Rattle.std.proofs.Math.Seq.{drop-cons}
use Rattle.std.specs.Prelude.{◌&&◌, not}
use Rattle.nt_types.specs.ShapeData.{ShapeData, ShapesData, MembersData, MemberData, bool, char, byte, int, text, list, maybe, fields}
use Rattle.nt_types.specs.ShapeData.{tuple, choice, no_kinds, kind, no_parts, part}
use Rattle.nt_grammar.specs.Rows.{NodeData, AreNodesFrom, inside, members_in, places_in, all_inside, at_top, field_row}
use Rattle.nt_grammar.specs.Listing.{weight}
use Rattle.nt_grammar.specs.Open.{ids_inside}
use Rattle.nt_grammar.specs.declared.rows.FieldRow.{FieldRow}
use Rattle.nt_grammar.proofs.Listing.{all_inside-append, weight-all_inside}
use Rattle.nt_grammar.proofs.AllNodes.{AllNodes, AllNodes-append}
use Rattle.nt_grammar.proofs.FieldsInside.{ids_inside-append}

-- the parents of fields

pub record Within (from to : ℕ) (n : NodeData) : Type 0 where
  pub above : from ≤ n.parent
  pub below : n.parent < to

weaken : (P Q : NodeData → Type 0) → ((n : NodeData) → P n → Q n) → (ns : List NodeData) → AllNodes P ns → AllNodes Q ns
weaken P Q f [] a = tt
weaken P Q f (n ∷ ns) a = (f n a.0, weaken P Q f ns a.1)

members-parents : (id : ℕ) (ps : MembersData) → AllNodes (Within id (id + 1)) (members_in id ps)
members-parents id no_parts = tt
members-parents id (part n k ps) = (record { above = omega arith; below = omega arith }, members-parents id ps)

parts-parents : (id i : ℕ) (ks : ShapesData) → AllNodes (Within id (id + 1)) (places_in id i ks)
parts-parents id i no_kinds = tt
parts-parents id i (kind k ks) = (record { above = omega arith; below = omega arith }, parts-parents id (i + 1) ks)

inside-parents : (id : ℕ) (k : ShapeData) → AllNodes (Within id (id + 1)) (inside id k)
inside-parents id bool = tt
inside-parents id char = tt
inside-parents id byte = tt
inside-parents id (int bits signed) = tt
inside-parents id text = tt
inside-parents id (list k) = (record { above = omega arith; below = omega arith }, tt)
inside-parents id (maybe k) = (record { above = omega arith; below = omega arith }, tt)
inside-parents id (fields ps) = members-parents id ps
inside-parents id (tuple ks) = parts-parents id 0 ks
inside-parents id (choice ks) = parts-parents id 0 ks

wider : (from to less more : ℕ) → less ≤ from → to ≤ more → (n : NodeData) → Within from to n → Within less more n
wider from to less more h k n w = record { above = omega (arith, w.above); below = omega (arith, w.below) }

pub all_inside-parents : (id : ℕ) (ns : List NodeData) → AllNodes (Within id (id + length ns)) (all_inside id ns)
all_inside-parents id [] = tt
all_inside-parents id (n ∷ ns) =
    AllNodes-append (Within id (id + suc (length ns))) (inside id n.of) (all_inside (id + 1) ns)
    (weaken (Within id (id + 1)) (Within id (id + suc (length ns)))
    (wider id (id + 1) id (id + suc (length ns)) (omega arith) (omega arith)) (inside id n.of) (inside-parents id n.of))
    (weaken (Within (id + 1) ((id + 1) + length ns)) (Within id (id + suc (length ns)))
    (wider (id + 1) ((id + 1) + length ns) id (id + suc (length ns)) (omega arith) (omega arith)) (all_inside (id + 1) ns)
    (all_inside-parents (id + 1) ns))

-- the ids of those that lie in a field

is_false : (b : Bool) → (b ≡ true → ⊥) → b ≡ false
is_false true h = absurd (h refl)
is_false false h = refl

-- no field whose parent is smaller or larger lies in this one
below-inside : (p from less : ℕ) (ns : List NodeData) → AllNodes (Within less p) ns → ids_inside p from (map field_row ns) ≡ []
below-inside p from less [] a = refl
below-inside p from less (n ∷ ns) a =
    let w : Within less p n = a.0 in
    let other : (n.parent == p) ≡ false = grind (arith, nat_tests, w.below) in
    rw other (below-inside p (from + 1) less ns a.1)

above-inside : (p from more : ℕ) (ns : List NodeData) → AllNodes (Within (p + 1) more) ns → ids_inside p from (map field_row ns) ≡ []
above-inside p from more [] a = refl
above-inside p from more (n ∷ ns) a =
    let w : Within (p + 1) more n = a.0 in
    let other : (n.parent == p) ≡ false = grind (arith, nat_tests, w.above) in
    rw other (above-inside p (from + 1) more ns a.1)

itself : (b : Bool) → (b && not b) ≡ false
itself true = refl
itself false = refl

-- a field at the top level lies in no field
top-inside : (p id : ℕ) (ps : List MemberData) → ids_inside p id (map field_row (at_top id ps)) ≡ []
top-inside p id [] = refl
top-inside p id (q ∷ ps) = rw (itself (id == p)) (top-inside p (id + 1) ps)

-- so many numbers from one on
abbrev pub count_up : ℕ → ℕ → List ℕ
count_up from zero = []
count_up from (suc n) = from ∷ count_up (from + 1) n

own-inside : (p from : ℕ) (ns : List NodeData) → p < from → AllNodes (Within p (p + 1)) ns
    → ids_inside p from (map field_row ns) ≡ count_up from (length ns)
own-inside p from [] h a = refl
own-inside p from (n ∷ ns) h a =
    let w : Within p (p + 1) n = a.0 in
    let own : (n.parent == p) ≡ true = grind (arith, nat_tests, w.above, w.below) in
    let later : (from == p) ≡ false = grind (arith, nat_tests) in
    rw (own, later) (ap (λ (z : List ℕ). from ∷ z) (own-inside p (from + 1) ns (omega arith) a.1))

-- the list of all fields, cut at those inside of one

drop-front : (a b : List NodeData) → drop (length a) (a ++ b) ≡ b
drop-front [] b = refl
drop-front (n ∷ a) b = drop-front a b

weight-drop : (k : ℕ) (ns : List NodeData) → weight (drop k ns) ≤ weight ns
weight-drop zero ns = omega arith
weight-drop (suc k) [] = omega arith
weight-drop (suc k) (n ∷ ns) = let ih : weight (drop k ns) ≤ weight ns = weight-drop k ns in omega arith

drop-nil : (i : ℕ) → drop {A = NodeData} i [] ≡ []
drop-nil zero = refl
drop-nil (suc i) = refl

drop-drop : (j k : ℕ) (ns : List NodeData) → drop k (drop j ns) ≡ drop (j + k) ns
drop-drop zero k ns = ap (λ (i : ℕ). drop i ns) (sym (zero-add k))
drop-drop (suc j) k [] = drop-nil k ∙ sym (drop-nil (suc j + k))
drop-drop (suc j) k (n ∷ ns) =
    let next : suc j + k ≡ suc (j + k) = omega arith in
    drop-drop j k ns ∙ ap (λ (i : ℕ). drop i (n ∷ ns)) (sym next)

-- the fields before those inside of one, where the first has this id
abbrev pub before : ℕ → List MemberData → List NodeData → ℕ → List NodeData
before from ps nodes i = at_top from ps ++ all_inside from (take i nodes)

all_inside-cut : (from : ℕ) (nodes : List NodeData) (i : ℕ) → i ≤ length nodes
    → all_inside from nodes ≡ all_inside from (take i nodes) ++ all_inside (from + i) (drop i nodes)
all_inside-cut from nodes i h =
    ap (all_inside from) (sym (take-append-drop i nodes))
    ∙ (all_inside-append from (take i nodes) (drop i nodes)
    ∙ ap (λ (j : ℕ). all_inside from (take i nodes) ++ all_inside (from + j) (drop i nodes)) (length-take-le i nodes h))

cut : (from : ℕ) (ps : List MemberData) (nodes : List NodeData) (i : ℕ) → AreNodesFrom from ps nodes → i ≤ length nodes
    → nodes ≡ before from ps nodes i ++ all_inside (from + i) (drop i nodes)
cut from ps nodes i e h = e ∙ (ap (λ (z : List NodeData). at_top from ps ++ z) (all_inside-cut from nodes i h)
    ∙ sym (append_assoc (at_top from ps) (all_inside from (take i nodes)) (all_inside (from + i) (drop i nodes))))

-- the fields inside of one stand behind it
not_before : (from : ℕ) (ps : List MemberData) (nodes : List NodeData) (i : ℕ) → AreNodesFrom from ps nodes → i < length nodes
    → length (before from ps nodes i) ≤ i → ⊥
not_before from ps nodes i e h k =
    let s : ℕ = length (before from ps nodes i) in
    let rest : drop s nodes ≡ all_inside (from + i) (drop i nodes) = ap (drop s) (cut from ps nodes i e (omega arith))
    ∙ drop-front (before from ps nodes i) (all_inside (from + i) (drop i nodes)) in
    let sum : s + (i - s) ≡ i = omega arith in
    let later : drop (i - s) (drop s nodes) ≡ drop i nodes = drop-drop s (i - s) nodes ∙ ap (λ (j : ℕ). drop j nodes) sum in
    let less : weight (drop (i - s) (drop s nodes)) ≤ weight (drop s nodes) = weight-drop (i - s) (drop s nodes) in
    let less' : weight (drop i nodes) ≤ weight (all_inside (from + i) (drop i nodes)) = rw (later, rest) at less in
    let own : weight (all_inside (from + i) (drop i nodes)) + length (drop i nodes) ≡ weight (drop i nodes) =
    weight-all_inside (from + i) (drop i nodes) in
    let some : length (drop i nodes) ≡ length nodes - i = length-drop i nodes in
    omega arith

pub start-behind : (from : ℕ) (ps : List MemberData) (nodes : List NodeData) (i : ℕ) → AreNodesFrom from ps nodes → i < length nodes
    → i < length (before from ps nodes i)
start-behind from ps nodes i e h = cases (nat_le (length (before from ps nodes i)) i) refl
  where
    cases : (b : Bool) → nat_le (length (before from ps nodes i)) i ≡ b → i < length (before from ps nodes i)
    cases true is = absurd (not_before from ps nodes i e h (grind (arith, nat_tests)))
    cases false is = grind (arith, nat_tests)

-- the next field, and those behind it
pub node-drop : (nodes : List NodeData) (i : ℕ) (n : NodeData) → slice_get nodes i ≡ Some n → drop i nodes ≡ n ∷ drop (i + 1) nodes
node-drop nodes i n is =
    let here : i < length nodes = slice_get_within nodes i n is in
    drop-cons nodes i n here ∙ (ap (λ (z : NodeData). z ∷ drop (suc i) nodes) (get_or_from_slice_get nodes i n n is)
    ∙ ap (λ (j : ℕ). n ∷ drop j nodes) (sym (add-one i)))

-- all fields: those before, those inside of one, and those behind
pub cut-inside : (from : ℕ) (ps : List MemberData) (nodes : List NodeData) (i : ℕ) (n : NodeData) → AreNodesFrom from ps nodes
    → slice_get nodes i ≡ Some n
    → nodes ≡ before from ps nodes i ++ (inside (from + i) n.of ++ all_inside ((from + i) + 1) (drop (i + 1) nodes))
cut-inside from ps nodes i n e is =
    let here : i < length nodes = slice_get_within nodes i n is in
    cut from ps nodes i e (omega arith)
    ∙ ap (λ (z : List NodeData). before from ps nodes i ++ all_inside (from + i) z) (node-drop nodes i n is)

map-rows : (a b : List NodeData) → map field_row (a ++ b) ≡ map field_row a ++ map field_row b
map-rows [] b = refl
map-rows (n ∷ a) b = ap (λ (z : List FieldRow). field_row n ∷ z) (map-rows a b)

two : (p from : ℕ) (a b : List NodeData) → ids_inside p from (map field_row (a ++ b))
    ≡ ids_inside p from (map field_row a) ++ ids_inside p (from + length a) (map field_row b)
two p from a b =
    ap (ids_inside p from) (map-rows a b) ∙ (ids_inside-append p from (map field_row a) (map field_row b)
    ∙ ap (λ (j : ℕ). ids_inside p from (map field_row a) ++ ids_inside p (from + j) (map field_row b)) (length-map a field_row))

before-inside : (from : ℕ) (ps : List MemberData) (nodes : List NodeData) (i : ℕ) → i ≤ length nodes
    → ids_inside (from + i) from (map field_row (before from ps nodes i)) ≡ []
before-inside from ps nodes i h =
    let parents : AllNodes (Within from (from + i)) (all_inside from (take i nodes)) =
    subst (λ (j : ℕ). AllNodes (Within from (from + j)) (all_inside from (take i nodes))) (length-take-le i nodes h)
    (all_inside-parents from (take i nodes)) in
    two (from + i) from (at_top from ps) (all_inside from (take i nodes))
    ∙ rw (
      top-inside (from + i) from ps,
      below-inside (from + i) (from + length (at_top from ps)) from (all_inside from (take i nodes)) parents,
    ) refl

-- the ids of the fields inside of one go up from where they begin
pub ids_inside-is : (from : ℕ) (ps : List MemberData) (nodes : List NodeData) (i : ℕ) (n : NodeData) → AreNodesFrom from ps nodes
    → slice_get nodes i ≡ Some n
    → ids_inside (from + i) from (map field_row nodes) ≡ count_up (from + length (before from ps nodes i)) (length (inside (from + i) n.of))
ids_inside-is from ps nodes i n e is =
    let here : i < length nodes = slice_get_within nodes i n is in
    let p : ℕ = from + i in
    let a : List NodeData = before from ps nodes i in
    let b : List NodeData = inside (from + i) n.of in
    let c : List NodeData = all_inside ((from + i) + 1) (drop (i + 1) nodes) in
    let first : ids_inside p from (map field_row a) ≡ [] = before-inside from ps nodes i (omega arith) in
    let own : ids_inside p (from + length a) (map field_row b) ≡ count_up (from + length a) (length b) =
    own-inside p (from + length a) b (omega (arith, start-behind from ps nodes i e here)) (inside-parents (from + i) n.of) in
    let last : ids_inside p ((from + length a) + length b) (map field_row c) ≡ [] =
    above-inside p ((from + length a) + length b) (((from + i) + 1) + length (drop (i + 1) nodes)) c
    (all_inside-parents ((from + i) + 1) (drop (i + 1) nodes)) in
    ap (λ (z : List NodeData). ids_inside p from (map field_row z)) (cut-inside from ps nodes i n e is)
    ∙ (two p from a (b ++ c) ∙ (ap (λ (z : List ℕ). z ++ ids_inside p (from + length a) (map field_row (b ++ c))) first
    ∙ (two p (from + length a) b c ∙ (ap (λ (z : List ℕ). z ++ ids_inside p ((from + length a) + length b) (map field_row c)) own
    ∙ (ap (λ (z : List ℕ). count_up (from + length a) (length b) ++ z) last
    ∙ append-nil (count_up (from + length a) (length b)))))))
