-- Lists of optional integers that are printed by runs.
use Rattle.std.proofs.Common.{◌≡◌, ℕ, zero, suc, ◌+◌, ◌-◌, ◌<◌, ◌≤◌, Bool, true, false, List, [], ◌∷◌, ◌++◌, length, map, take, drop}
use Rattle.std.proofs.Common.{get_or, refl, sym, ap, ◌∙◌, subst, arith, append_assoc}
use Rattle.std.specs.List.{slice_range}
use Rattle.std.proofs.lemmas.List.{drop-drop, length-drop, length-take-le}
use Rattle.serde_json.specs.Written.{compact_text, items_text}
use Rattle.nt_types.specs.TreeData.{TreeData, TreesData, num, nothing, no_trees, tree}
use Rattle.nt_event.specs.Json.{data_of, datas_of}
use Rattle.nt_column.specs.Elements.{numbers}
use Rattle.nt_column.proofs.Numbers.{length-numbers}
use Rattle.nt_plans.specs.Plan.{number}
use Rattle.nt_trees.specs.Columns.{Cols}
use Rattle.nt_trees.specs.Integers.{integer_of}
use Rattle.nt_trees.specs.TreeAt.{tree_at, trees_from, only}
use Rattle.nt_print.specs.Integers.{integer_trees, integers_text}
use Rattle.nt_print.specs.Marks.{mark_before, rest_text}
use Rattle.nt_print.specs.Optionals.{optional_trees, StepsOn, CountsOn, last_behind}
use Rattle.nt_print.proofs.Arrays.{IsBegun, kept-more}
use Rattle.nt_print.proofs.Places.{trees_from-numbers}

-- one more end that counts on
pub counts-more : (n begin : ℕ) (ends : List ℕ) → CountsOn begin n ends → n < length ends → get_or ends n 0 ≡ begin + n + 1
    → CountsOn begin (suc n) ends
counts-more zero begin [] h within is = absurd (omega (arith, within))
counts-more zero begin (end ∷ ends) h within is = (omega (arith, is), tt)
counts-more (suc n) begin [] h within is = absurd h
counts-more (suc n) begin (end ∷ ends) h within is =
    (h.0, counts-more n end ends h.1 (omega (arith, within)) (omega (arith, is, h.0)))

-- steps behind the first
pub steps-behind : (last x : ℕ) (es rest : List ℕ) → es ≡ x ∷ rest → StepsOn last es → (last ≤ x) × (x ≤ last + 1) × StepsOn x rest
steps-behind last x es rest is s = subst (StepsOn last) is s

-- so many trees in front of others
abbrev pub joined : TreesData → TreesData → TreesData
joined no_trees us = us
joined (tree t ts) us = tree t (joined ts us)

-- what is so behind ends that count on
pub record IsRun (f : ℕ → TreeData) (n begin : ℕ) (ends : List ℕ) : Type 0 where
  pub few : n ≤ length ends
  pub steps : StepsOn (begin + n) (drop n ends)
  pub last : last_behind begin ends ≡ last_behind (begin + n) (drop n ends)
  pub trees : optional_trees f begin ends ≡ joined (trees_from f begin n) (optional_trees f (begin + n) (drop n ends))

pub known-run : (f : ℕ → TreeData) (n begin : ℕ) (ends : List ℕ) → CountsOn begin n ends → StepsOn begin ends → IsRun f n begin ends
known-run f zero begin ends h s =
    let same : begin ≡ begin + 0 = omega arith in
    record {
      few = omega arith;
      steps = subst (λ (b : ℕ). StepsOn b ends) same s;
      last = ap (λ (b : ℕ). last_behind b ends) same;
      trees = ap (λ (b : ℕ). optional_trees f b ends) same;
    }
known-run f (suc n) begin [] h s = absurd h
known-run f (suc n) begin (end ∷ ends) h s =
    let r = known-run f n end ends h.1 s.2 in
    let one : end - begin ≡ 1 = omega (arith, h.0) in
    let next : end ≡ suc begin = omega (arith, h.0) in
    let place : end + n ≡ begin + suc n = omega (arith, h.0) in
    record {
      few = omega (arith, r.few);
      steps = subst (λ (b : ℕ). StepsOn b (drop n ends)) place r.steps;
      last = r.last ∙ ap (λ (b : ℕ). last_behind b (drop n ends)) place;
      trees = ap (λ (k : ℕ). tree (only (trees_from f begin k)) (optional_trees f end ends)) one
          ∙ ap (λ (ts : TreesData). tree (f begin) ts)
          (r.trees
          ∙ (ap (λ (j : ℕ). joined (trees_from f j n) (optional_trees f (end + n) (drop n ends))) next
          ∙ ap (λ (b : ℕ). joined (trees_from f (suc begin) n) (optional_trees f b (drop n ends))) place));
    }

pub last-least : (begin : ℕ) (ends : List ℕ) → StepsOn begin ends → begin ≤ last_behind begin ends
last-least begin [] s = omega arith
last-least begin (end ∷ ends) s = omega (arith, s.0, last-least end ends s.2)

last-most : (begin : ℕ) (ends : List ℕ) → StepsOn begin ends → last_behind begin ends ≤ begin + length ends
last-most begin [] s = omega arith
last-most begin (end ∷ ends) s = omega (arith, s.1, last-most end ends s.2)

-- as many steps up as ends: each counts on
pub all-count : (begin : ℕ) (ends : List ℕ) → StepsOn begin ends → last_behind begin ends ≡ begin + length ends
    → CountsOn begin (length ends) ends
all-count begin [] s is = tt
all-count begin (end ∷ ends) s is =
    let most = last-most end ends s.2 in
    let next : end ≡ begin + 1 = omega (arith, s.0, s.1, most, is) in
    (next, all-count end ends s.2 (omega (arith, is, next)))

-- then none is missing
pub all-there : (f : ℕ → TreeData) (begin : ℕ) (ends : List ℕ) → CountsOn begin (length ends) ends
    → optional_trees f begin ends ≡ trees_from f begin (length ends)
all-there f begin [] h = refl
all-there f begin (end ∷ ends) h =
    let one : end - begin ≡ 1 = omega (arith, h.0) in
    let next : end ≡ suc begin = omega (arith, h.0) in
    ap (λ (k : ℕ). tree (only (trees_from f begin k)) (optional_trees f end ends)) one
    ∙ ap (λ (ts : TreesData). tree (f begin) ts) (all-there f end ends h.1 ∙ ap (λ (j : ℕ). trees_from f j (length ends)) next)

-- the last end as it lies
pub last-at : (begin : ℕ) (ends : List ℕ) → 0 < length ends → get_or ends (length ends - 1) 0 ≡ last_behind begin ends
last-at begin [] some = absurd (omega (arith, some))
last-at begin (end ∷ []) some = refl
last-at begin (end ∷ next ∷ ends) some =
    let place : length (end ∷ next ∷ ends) - 1 ≡ suc (length (next ∷ ends) - 1) = omega arith in
    ap (λ (i : ℕ). get_or (end ∷ next ∷ ends) i 0) place ∙ last-at end (next ∷ ends) (omega arith)

-- one that is missing
pub none-there : (f : ℕ → TreeData) (begin x : ℕ) (ends rest : List ℕ) → ends ≡ x ∷ rest → x ≡ begin
    → optional_trees f begin ends ≡ tree nothing (optional_trees f begin rest)
none-there f begin x ends rest is same =
    let none : x - begin ≡ 0 = omega (arith, same) in
    ap (optional_trees f begin) is
    ∙ (ap (λ (k : ℕ). tree (only (trees_from f begin k)) (optional_trees f x rest)) none
    ∙ ap (λ (b : ℕ). tree nothing (optional_trees f b rest)) same)

-- ---- integers of a run

-- integers in front of other values
run-behind : (bits : ℕ) (signed : Bool) (ns : List ℕ) (rest : TreesData)
    → integers_text 44 (map (integer_of bits signed) ns) ++ items_text true (datas_of rest)
    ≡ items_text true (datas_of (joined (integer_trees bits signed ns) rest))
run-behind bits signed [] rest = refl
run-behind bits signed (n ∷ ns) rest =
    let t = 44 ∷ compact_text (data_of (num (integer_of bits signed n))) in
    append_assoc t (integers_text 44 (map (integer_of bits signed) ns)) (items_text true (datas_of rest))
    ∙ ap (λ (l : List ℕ). t ++ l) (run-behind bits signed ns rest)

run-more : (later : Bool) (bits : ℕ) (signed : Bool) (ns : List ℕ) (rest : TreesData) → 0 < length ns
    → integers_text (mark_before later) (map (integer_of bits signed) ns) ++ items_text true (datas_of rest)
    ≡ rest_text later (joined (integer_trees bits signed ns) rest)
run-more later bits signed [] rest some = absurd (omega (arith, some))
run-more true bits signed (n ∷ ns) rest some = run-behind bits signed (n ∷ ns) rest
run-more false bits signed (n ∷ ns) rest some =
    let t = 91 ∷ compact_text (data_of (num (integer_of bits signed n))) in
    append_assoc t (integers_text 44 (map (integer_of bits signed) ns)) (items_text true (datas_of rest))
    ∙ ap (λ (l : List ℕ). t ++ l) (run-behind bits signed ns rest)

-- after a run
IsBegun-run : (old new next : List ℕ) (later : Bool) (bits : ℕ) (signed : Bool) (ns : List ℕ) (left rest whole : TreesData)
    → left ≡ joined (integer_trees bits signed ns) rest → 0 < length ns → IsBegun old new later left whole
    → next ≡ new ++ integers_text (mark_before later) (map (integer_of bits signed) ns) → IsBegun old next true rest whole
IsBegun-run old new next later bits signed ns left rest whole is some b value =
    let piece = integers_text (mark_before later) (map (integer_of bits signed) ns) in
    let others = items_text true (datas_of rest) in
    record {
      text = ap (λ (l : List ℕ). l ++ others) value
          ∙ (append_assoc new piece others
          ∙ (ap (λ (l : List ℕ). new ++ l) (run-more later bits signed ns rest some)
          ∙ (ap (λ (ts : TreesData). new ++ rest_text later ts) (sym is) ∙ b.text)));
      kept = subst (λ (l : List ℕ). take (length old) l ≡ old) (sym value) (kept-more old new piece b.kept);
    }

-- so far: optionals from a place on are left
pub record IsPrinted (cols : Cols) (column bits : ℕ) (signed : Bool) (first : ℕ) (ends : List ℕ) (old new : List ℕ) (later : Bool)
    (begin at : ℕ) : Type 0 where
  pub steps : StepsOn begin (drop at ends)
  pub within : last_behind begin (drop at ends) ≤ length (cols column)
  pub begun : IsBegun old new later (optional_trees (tree_at (number column bits signed) cols) begin (drop at ends))
      (optional_trees (tree_at (number column bits signed) cols) first ends)

-- the integers of a run stand in the column
run-integers : (cols : Cols) (column bits : ℕ) (signed : Bool) (begin n : ℕ) → begin + n ≤ length (cols column)
    → trees_from (tree_at (number column bits signed) cols) begin n
    ≡ integer_trees bits signed (numbers (slice_range (cols column) begin (begin + n)))
run-integers cols column bits signed begin n within =
    let count : n ≡ begin + n - begin = omega arith in
    trees_from-numbers bits signed (cols column) n begin within
    ∙ ap (λ (k : ℕ). integer_trees bits signed (numbers (take k (drop begin (cols column))))) count

pub printed-within : (cols : Cols) (column bits : ℕ) (signed : Bool) (first : ℕ) (ends given old new : List ℕ) (later : Bool)
    (begin at n end : ℕ) → given ≡ drop at ends → CountsOn begin n given → end ≡ begin + n
    → IsPrinted cols column bits signed first ends old new later begin at → end ≤ length (cols column)
printed-within cols column bits signed first ends given old new later begin at n end same h last p =
    let r = known-run (tree_at (number column bits signed) cols) n begin (drop at ends) (subst (CountsOn begin n) same h) p.steps in
    omega (arith, last, r.last, p.within, last-least (begin + n) (drop n (drop at ends)) r.steps)

-- after a run
pub printed-run : (cols : Cols) (column bits : ℕ) (signed : Bool) (first : ℕ) (ends given old new next : List ℕ) (later : Bool)
    (begin at n end mark : ℕ) → given ≡ drop at ends → CountsOn begin n given → end ≡ begin + n → 0 < n
    → IsPrinted cols column bits signed first ends old new later begin at → mark ≡ mark_before later
    → next ≡ new ++ integers_text mark (map (integer_of bits signed) (numbers (slice_range (cols column) begin end)))
    → IsPrinted cols column bits signed first ends old next true end (at + n)
printed-run cols column bits signed first ends given old new next later begin at n end mark same h last some p marks value =
    let f = tree_at (number column bits signed) cols in
    let r = known-run f n begin (drop at ends) (subst (CountsOn begin n) same h) p.steps in
    let within = printed-within cols column bits signed first ends given old new later begin at n end same h last p in
    let ns = numbers (slice_range (cols column) begin end) in
    let there : drop n (drop at ends) ≡ drop (at + n) ends = drop-drop n at ends in
    let behind : begin + n ≡ end = omega (arith, last) in
    let count : length ns ≡ end - begin =
    length-numbers (slice_range (cols column) begin end)
    ∙ length-take-le (end - begin) (drop begin (cols column)) (omega (arith, within, length-drop begin (cols column))) in
    let integers : trees_from f begin n ≡ integer_trees bits signed ns =
    run-integers cols column bits signed begin n (omega (arith, within, last))
    ∙ ap (λ (j : ℕ). integer_trees bits signed (numbers (slice_range (cols column) begin j))) behind in
    let others : optional_trees f (begin + n) (drop n (drop at ends)) ≡ optional_trees f end (drop (at + n) ends) =
    ap (λ (b : ℕ). optional_trees f b (drop n (drop at ends))) behind ∙ ap (optional_trees f end) there in
    let is : optional_trees f begin (drop at ends) ≡ joined (integer_trees bits signed ns) (optional_trees f end (drop (at + n) ends)) =
    r.trees
    ∙ (ap (λ (ts : TreesData). joined ts (optional_trees f (begin + n) (drop n (drop at ends)))) integers
    ∙ ap (joined (integer_trees bits signed ns)) others) in
    let rest : last_behind end (drop (at + n) ends) ≡ last_behind (begin + n) (drop n (drop at ends)) =
    sym (ap (λ (b : ℕ). last_behind b (drop n (drop at ends))) behind ∙ ap (last_behind end) there) in
    record {
      steps = subst (StepsOn end) there (subst (λ (b : ℕ). StepsOn b (drop n (drop at ends))) behind r.steps);
      within = omega (arith, rest, r.last, p.within);
      begun = IsBegun-run old new next later bits signed ns _ _ _ is (omega (arith, count, some, last)) p.begun
          (value ∙ ap (λ (m : ℕ). new ++ integers_text m (map (integer_of bits signed) ns)) marks);
    }

-- where none is missing
pub all-integers : (cols : Cols) (column bits : ℕ) (signed : Bool) (begin : ℕ) (ends : List ℕ) (last : ℕ) → StepsOn begin ends
    → last ≡ last_behind begin ends → last - begin ≡ length ends → last ≤ length (cols column)
    → integer_trees bits signed (numbers (slice_range (cols column) begin last))
    ≡ optional_trees (tree_at (number column bits signed) cols) begin ends
all-integers cols column bits signed begin ends last steps is count within =
    let least = last-least begin ends steps in
    let end : begin + length ends ≡ last = omega (arith, is, count, least) in
    let all = all-count begin ends steps (omega (arith, is, end)) in
    sym (all-there (tree_at (number column bits signed) cols) begin ends all
    ∙ (run-integers cols column bits signed begin (length ends) (omega (arith, within, end))
    ∙ ap (λ (j : ℕ). integer_trees bits signed (numbers (slice_range (cols column) begin j))) end))
