-- Marked fields that are listed, and those that are left.
use Rattle.std.proofs.Common.{ℕ, suc, Bool, true, ◌≡◌, ◌<◌, ◌≤◌, ◌+◌, ◌-◌, List, [], ◌∷◌, ◌++◌, length, take, drop, refl, sym, ◌∙◌, ap}
use Rattle.std.proofs.Common.{append_assoc, zero-add, add-zero, add-one, arith}
use Rattle.std.proofs.lemmas.List.{take-append-le, drop-append-le, length-take-le, append-nil, length-append, take_all, length-drop}
use Rattle.std.proofs.lemmas.List.{length-map, map-append}
use Rattle.std.proofs.Math.Seq.{drop-cons, take-suc}
use Rattle.std.proofs.Math.ListN.{get_or}
use Rattle.nt_types.specs.ShapeData.{MemberData, parts_of}
use Rattle.nt_types.specs.Schema.{field_count, parts_count}
use Rattle.nt_grammar.specs.Rows.{NodeData, AreNodesFrom, inside, all_inside, at_top}
use Rattle.nt_grammar.specs.Listing.{weight, AreListed}
use Rattle.nt_grammar.specs.Added.{MarkedData, with_mark, nodes_of, marks_inside, all_marks_inside, AreMarked}
use Rattle.nt_grammar.proofs.Listing.{weight-append, weight-inside, weight-at_top, length-weight, all_inside-self}

pub nodes_of-append : (a b : List MarkedData) → nodes_of (a ++ b) ≡ nodes_of a ++ nodes_of b
nodes_of-append a b = map-append (λ (m : MarkedData). m.node) a b

pub nodes_of-marked : (principal : Bool) (ns : List NodeData) → nodes_of (with_mark principal ns) ≡ ns
nodes_of-marked principal [] = refl
nodes_of-marked principal (n ∷ ns) = ap (λ (z : List NodeData). n ∷ z) (nodes_of-marked principal ns)

pub nodes_of-inside : (id : ℕ) (m : MarkedData) → nodes_of (marks_inside id m) ≡ inside id m.node.of
nodes_of-inside id m = nodes_of-marked _ (inside id m.node.of)

pub nodes_of-all_inside : (id : ℕ) (ms : List MarkedData) → nodes_of (all_marks_inside id ms) ≡ all_inside id (nodes_of ms)
nodes_of-all_inside id [] = refl
nodes_of-all_inside id (m ∷ ms) = nodes_of-append (marks_inside id m) (all_marks_inside (id + 1) ms)
    ∙ (ap (λ (z : List NodeData). z ++ nodes_of (all_marks_inside (id + 1) ms)) (nodes_of-inside id m)
    ∙ ap (λ (z : List NodeData). inside id m.node.of ++ z) (nodes_of-all_inside (id + 1) ms))

-- without their marks they are all fields
pub AreMarked-nodes : (id : ℕ) (ps : List MemberData) (ms : List MarkedData) → AreMarked id ps ms → AreNodesFrom id ps (nodes_of ms)
AreMarked-nodes id ps ms e = ap nodes_of e ∙ (nodes_of-append (with_mark true (at_top id ps)) (all_marks_inside id ms)
    ∙ (ap (λ (z : List NodeData). z ++ nodes_of (all_marks_inside id ms)) (nodes_of-marked true (at_top id ps))
    ∙ ap (λ (z : List NodeData). at_top id ps ++ z) (nodes_of-all_inside id ms)))

pub all_marks_inside-append : (id : ℕ) (a b : List MarkedData)
    → all_marks_inside id (a ++ b) ≡ all_marks_inside id a ++ all_marks_inside (id + length a) b
all_marks_inside-append id [] b = ap (λ (i : ℕ). all_marks_inside i b) (sym (add-zero id))
all_marks_inside-append id (m ∷ a) b =
    let next : (id + 1) + length a ≡ id + suc (length a) = omega arith in
    ap (λ (z : List MarkedData). marks_inside id m ++ z) (all_marks_inside-append (id + 1) a b
    ∙ ap (λ (i : ℕ). all_marks_inside (id + 1) a ++ all_marks_inside i b) next)
    ∙ sym (append_assoc (marks_inside id m) (all_marks_inside (id + 1) a) (all_marks_inside (id + suc (length a)) b))

all_marks_inside-one : (id : ℕ) (ms : List MarkedData) (next : ℕ) (m : MarkedData) → length ms ≡ next
    → all_marks_inside id (ms ++ m ∷ []) ≡ all_marks_inside id ms ++ marks_inside (id + next) m
all_marks_inside-one id ms next m e = all_marks_inside-append id ms (m ∷ []) ∙ rw (e, append-nil) refl

order-next : (id : ℕ) (top old new : List MarkedData) (before after : List MarkedData) (next : ℕ) (m : MarkedData)
    → length before ≡ next → after ≡ before ++ m ∷ [] → new ≡ old ++ marks_inside (id + next) m
    → old ≡ top ++ all_marks_inside id before → new ≡ top ++ all_marks_inside id after
order-next id top old new before after next m k a e o =
    e ∙ (ap (λ (z : List MarkedData). z ++ marks_inside (id + next) m) o
    ∙ (append_assoc top (all_marks_inside id before) (marks_inside (id + next) m)
    ∙ ap (λ (z : List MarkedData). top ++ z) (sym (ap (all_marks_inside id) a ∙ all_marks_inside-one id before next m k))))

-- the next field gets those inside it
pub AreListed-next : (id : ℕ) (ps : List MemberData) (old new : List MarkedData) (next : ℕ) (m : MarkedData) → next < length old
    → m ≡ get_or old next m → new ≡ old ++ marks_inside (id + next) m → AreListed id ps next old → AreListed id ps (next + 1) new
AreListed-next id ps old new next m h is e l = record {
  order = order-next id (with_mark true (at_top id ps)) old new (take next old) (take (next + 1) new) next m
      (length-take-le next old l.within) before e l.order;
  count = count;
  within = within;
}
  where
    here : next + 1 ≤ length old
    here = omega arith

    before : take (next + 1) new ≡ take next old ++ m ∷ []
    before = ap (take (next + 1)) e ∙ (take-append-le (next + 1) old (marks_inside (id + next) m) here
        ∙ (ap (λ (i : ℕ). take i old) (add-one next)
        ∙ (take-suc old next m h ∙ ap (λ (z : MarkedData). take next old ++ z ∷ []) (sym is))))

    behind : drop next old ≡ m ∷ drop (next + 1) old
    behind = drop-cons old next m h ∙ (ap (λ (z : MarkedData). z ∷ drop (suc next) old) (sym is)
        ∙ ap (λ (i : ℕ). m ∷ drop i old) (sym (add-one next)))

    left : weight (nodes_of (drop (next + 1) new)) ≡ weight (nodes_of (drop (next + 1) old)) + weight (inside (id + next) m.node.of)
    left = ap (λ (z : List MarkedData). weight (nodes_of (drop (next + 1) z))) e
        ∙ (ap (λ (z : List MarkedData). weight (nodes_of z)) (drop-append-le (next + 1) old (marks_inside (id + next) m) here)
        ∙ (ap weight (nodes_of-append (drop (next + 1) old) (marks_inside (id + next) m))
        ∙ (weight-append (nodes_of (drop (next + 1) old)) (nodes_of (marks_inside (id + next) m))
        ∙ ap (λ (z : List NodeData). weight (nodes_of (drop (next + 1) old)) + weight z) (nodes_of-inside (id + next) m))))

    first : weight (nodes_of (drop next old)) ≡ field_count m.node.of + weight (nodes_of (drop (next + 1) old))
    first = ap (λ (z : List MarkedData). weight (nodes_of z)) behind

    count : (next + 1) + weight (nodes_of (drop (next + 1) new)) ≡ parts_count (parts_of ps)
    count = let own : weight (inside (id + next) m.node.of) + 1 ≡ field_count m.node.of = weight-inside (id + next) m.node.of in
        omega (arith, own, left, first, l.count)

    within : next + 1 ≤ length new
    within = rw e (rw length-append (omega arith))

-- the fields at the top level alone
pub AreListed-first : (id : ℕ) (ps : List MemberData) (ms : List MarkedData) → ms ≡ with_mark true (at_top id ps) → AreListed id ps 0 ms
AreListed-first id ps ms e = record {
  order = e ∙ sym (append-nil (with_mark true (at_top id ps)));
  count = zero-add (weight (nodes_of ms)) ∙ (ap (λ (z : List MarkedData). weight (nodes_of z)) e
      ∙ (ap weight (nodes_of-marked true (at_top id ps)) ∙ weight-at_top id ps));
  within = omega arith;
}

-- where none is left, these are all fields
pub AreListed-all : (id : ℕ) (ps : List MemberData) (ms : List MarkedData) (next : ℕ) → length ms ≤ next → AreListed id ps next ms
    → AreMarked id ps ms
AreListed-all id ps ms next h l =
    l.order ∙ ap (λ (z : List MarkedData). with_mark true (at_top id ps) ++ all_marks_inside id z) (take_all next ms h)

-- there are no more than the parts count
pub AreListed-few : (id : ℕ) (ps : List MemberData) (ms : List MarkedData) (next : ℕ) → AreListed id ps next ms
    → next ≤ parts_count (parts_of ps)
AreListed-few id ps ms next l = omega (arith, l.count)

-- the next field is counted
pub AreListed-here : (id : ℕ) (ps : List MemberData) (ms : List MarkedData) (next : ℕ) → next < length ms → AreListed id ps next ms
    → next < parts_count (parts_of ps)
AreListed-here id ps ms next h l =
    let left : length (nodes_of (drop next ms)) ≤ weight (nodes_of (drop next ms)) = length-weight (nodes_of (drop next ms)) in
    let same : length (nodes_of (drop next ms)) ≡ length (drop next ms) = length-map (drop next ms) (λ (m : MarkedData). m.node) in
    let some : length (drop next ms) ≡ length ms - next = length-drop next ms in
    omega (arith, l.count)

-- from an id on, there is one list

nothing : (ms : List MarkedData) → nodes_of ms ≡ [] → ms ≡ []
nothing [] e = refl
nothing (m ∷ ms) e = cc

-- no fields are inside themselves
all_marks_inside-self : (id : ℕ) (ms : List MarkedData) → ms ≡ all_marks_inside id ms → ms ≡ []
all_marks_inside-self id ms e = nothing ms (all_inside-self id (nodes_of ms) (ap nodes_of e ∙ nodes_of-all_inside id ms))

uncons : (m n : MarkedData) (ms ns : List MarkedData) → m ∷ ms ≡ n ∷ ns → (m ≡ n) × (ms ≡ ns)
uncons m n ms ns e = (cc, cc)

regrouped : (id : ℕ) (front : List MarkedData) (q m : MarkedData) (ms : List MarkedData) → m ≡ q
    → ms ≡ front ++ (marks_inside id m ++ all_marks_inside (id + 1) ms)
    → ms ≡ (front ++ marks_inside id q) ++ all_marks_inside (id + 1) ms
regrouped id front q m ms h e =
    e ∙ (ap (λ (x : MarkedData). front ++ (marks_inside id x ++ all_marks_inside (id + 1) ms)) h
    ∙ sym (append_assoc front (marks_inside id q) (all_marks_inside (id + 1) ms)))

one_list : (id : ℕ) (front ms ns : List MarkedData) → ms ≡ front ++ all_marks_inside id ms → ns ≡ front ++ all_marks_inside id ns
    → ms ≡ ns
one_list id [] ms ns e f = all_marks_inside-self id ms e ∙ sym (all_marks_inside-self id ns f)
one_list id (n ∷ front) [] ns e f = cc
one_list id (n ∷ front) (m ∷ ms) [] e f = cc
one_list id (q ∷ front) (m ∷ ms) (n ∷ ns) e f =
    let d : (m ≡ q) × (ms ≡ front ++ (marks_inside id m ++ all_marks_inside (id + 1) ms)) = uncons m q ms _ e in
    let g : (n ≡ q) × (ns ≡ front ++ (marks_inside id n ++ all_marks_inside (id + 1) ns)) = uncons n q ns _ f in
    let rest : ms ≡ ns = one_list (id + 1) (front ++ marks_inside id q) ms ns (regrouped id front q m ms d.0 d.1)
    (regrouped id front q n ns g.0 g.1) in
    ap (λ (x : MarkedData). x ∷ ms) (d.0 ∙ sym g.0) ∙ ap (λ (xs : List MarkedData). n ∷ xs) rest

pub AreMarked-one : (id : ℕ) (ps : List MemberData) (ms ns : List MarkedData) → AreMarked id ps ms → AreMarked id ps ns → ms ≡ ns
AreMarked-one id ps ms ns e f = one_list id (with_mark true (at_top id ps)) ms ns e f
