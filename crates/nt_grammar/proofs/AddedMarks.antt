-- Which of the fields inside an added one are principal.
use Rattle.std.proofs.Common.{◌≡◌, ℕ, zero, suc, ◌+◌, ◌<◌, Bool, true, List, [], ◌∷◌, ◌++◌, length, take, drop, refl}
use Rattle.std.proofs.Common.{sym, ap, ap₂, subst, ◌∙◌, Some, slice_get, append_assoc, add-one, arith}
use Rattle.std.proofs.lemmas.List.{length-map, length-take-le, take-append-drop}
use Rattle.std.proofs.lemmas.Option.{slice_get-map, slice_get_within, get_or_from_slice_get}
use Rattle.std.proofs.Math.Seq.{drop-cons}
use Rattle.std.specs.Prelude.{option_map, ◌&&◌}
use Rattle.nt_types.specs.ShapeData.{MemberData}
use Rattle.nt_grammar.specs.Rows.{NodeData, inside, at_top, all_inside}
use Rattle.nt_grammar.specs.Added.{MarkedData, with_mark, nodes_of, is_record, marks_inside, all_marks_inside, AreMarked}
use Rattle.nt_grammar.proofs.Inside.{before}
use Rattle.nt_grammar.proofs.Marks.{nodes_of-append, nodes_of-marked, nodes_of-all_inside, all_marks_inside-append}
use Rattle.nt_grammar.proofs.Grown.{slice_get-old, slice_get-new}

-- the marks of the fields inside one

-- the marks before those of the fields inside one
abbrev marks_before : ℕ → List MemberData → List MarkedData → ℕ → List MarkedData
marks_before from ps ms i = with_mark true (at_top from ps) ++ all_marks_inside from (take i ms)

take-nodes : (ms : List MarkedData) (i : ℕ) → nodes_of (take i ms) ≡ take i (nodes_of ms)
take-nodes ms zero = refl
take-nodes [] (suc i) = refl
take-nodes (m ∷ ms) (suc i) = ap (λ (z : List NodeData). m.node ∷ z) (take-nodes ms i)

marks_before-length : (from : ℕ) (ps : List MemberData) (ms : List MarkedData) (i : ℕ)
    → length (marks_before from ps ms i) ≡ length (before from ps (nodes_of ms) i)
marks_before-length from ps ms i =
    sym (length-map (marks_before from ps ms i) (λ (m : MarkedData). m.node))
    ∙ ap length (nodes_of-append (with_mark true (at_top from ps)) (all_marks_inside from (take i ms))
    ∙ (ap (λ (z : List NodeData). z ++ nodes_of (all_marks_inside from (take i ms))) (nodes_of-marked true (at_top from ps))
    ∙ ap (λ (z : List NodeData). at_top from ps ++ z) (nodes_of-all_inside from (take i ms)
    ∙ ap (all_inside from) (take-nodes ms i))))

mark-drop : (ms : List MarkedData) (i : ℕ) (m : MarkedData) → slice_get ms i ≡ Some m → drop i ms ≡ m ∷ drop (i + 1) ms
mark-drop ms i m is =
    let here : i < length ms = slice_get_within ms i m is in
    drop-cons ms i m here ∙ (ap (λ (z : MarkedData). z ∷ drop (suc i) ms) (get_or_from_slice_get ms i m m is)
    ∙ ap (λ (j : ℕ). m ∷ drop j ms) (sym (add-one i)))

-- all marks: those before, those inside one, and those behind
marks-cut : (from : ℕ) (ps : List MemberData) (ms : List MarkedData) (i : ℕ) (m : MarkedData) → AreMarked from ps ms
    → slice_get ms i ≡ Some m
    → ms ≡ marks_before from ps ms i ++ (marks_inside (from + i) m ++ all_marks_inside ((from + i) + 1) (drop (i + 1) ms))
marks-cut from ps ms i m e is =
    let here : i < length ms = slice_get_within ms i m is in
    let len : length (take i ms) ≡ i = length-take-le i ms (omega arith) in
    let top : List MarkedData = with_mark true (at_top from ps) in
    let behind : List MarkedData = marks_inside (from + i) m ++ all_marks_inside ((from + i) + 1) (drop (i + 1) ms) in
    let split : all_marks_inside from ms ≡ all_marks_inside from (take i ms) ++ behind =
    ap (all_marks_inside from) (sym (take-append-drop i ms))
    ∙ (all_marks_inside-append from (take i ms) (drop i ms)
    ∙ (ap (λ (j : ℕ). all_marks_inside from (take i ms) ++ all_marks_inside (from + j) (drop i ms)) len
    ∙ ap (λ (z : List MarkedData). all_marks_inside from (take i ms) ++ all_marks_inside (from + i) z) (mark-drop ms i m is))) in
    e ∙ (ap (λ (z : List MarkedData). top ++ z) split ∙ sym (append_assoc top (all_marks_inside from (take i ms)) behind))

-- the mark of an index
abbrev pub IsMarked : List MarkedData → ℕ → Bool → Type 0
IsMarked ms i up = (m : MarkedData) × (slice_get ms i ≡ Some m) × (m.principal ≡ up)

some-same : (m n : MarkedData) → Some m ≡ Some n → m ≡ n
some-same m n e = cc

pub node-mark : (ms : List MarkedData) (i : ℕ) (m : MarkedData) (n : NodeData) → slice_get ms i ≡ Some m
    → slice_get (nodes_of ms) i ≡ Some n
    → m.node ≡ n
node-mark ms i m n is at =
    let one : Some m.node ≡ Some n = sym (slice_get-map (λ (x : MarkedData). x.node) ms i
    ∙ ap (option_map (λ (x : MarkedData). x.node)) is) ∙ at in cc

pub mark-inside : (from : ℕ) (ps : List MemberData) (ms : List MarkedData) (i : ℕ) (n : NodeData) (up : Bool) (k : ℕ) (c : NodeData)
    → AreMarked from ps ms → slice_get (nodes_of ms) i ≡ Some n → IsMarked ms i up → slice_get (inside (from + i) n.of) k ≡ Some c
    → IsMarked ms (length (before from ps (nodes_of ms) i) + k) (is_record n.of && up)
mark-inside from ps ms i n up k c e at is in_it =
    let m : MarkedData = is.0 in
    let node : m.node ≡ n = node-mark ms i m n is.1 at in
    let flag : Bool = is_record m.node.of && m.principal in
    let front : List MarkedData = marks_before from ps ms i in
    let own : List MarkedData = marks_inside (from + i) m in
    let rest : List MarkedData = all_marks_inside ((from + i) + 1) (drop (i + 1) ms) in
    let child : slice_get (inside (from + i) m.node.of) k ≡ Some c =
    ap (λ (x : NodeData). slice_get (inside (from + i) x.of) k) node ∙ in_it in
    let here : slice_get own k ≡ Some (record { node = c; principal = flag }) =
    slice_get-map (λ (x : NodeData). record { node = x; principal = flag }) (inside (from + i) m.node.of) k
    ∙ ap (option_map (λ (x : NodeData). record { node = x; principal = flag })) child in
    let within : k < length own = slice_get_within own k _ here in
    let all : slice_get ms (length front + k) ≡ Some (record { node = c; principal = flag }) =
    ap (λ (z : List MarkedData). slice_get z (length front + k)) (marks-cut from ps ms i m e is.1)
    ∙ (slice_get-new front (own ++ rest) k ∙ (slice_get-old own rest k within ∙ here)) in
    let place : length front ≡ length (before from ps (nodes_of ms) i) = marks_before-length from ps ms i in (
      record { node = c; principal = flag },
      subst (λ (j : ℕ). slice_get ms (j + k) ≡ Some (record { node = c; principal = flag })) place all,
      ap₂ (λ (x : NodeData) (b : Bool). is_record x.of && b) node is.2,
    )
