-- Values of a line and lines, written one behind the other.
use Rattle.std.proofs.Common.{◌≡◌, inl, inr, ℕ, zero, suc, ◌+◌, ◌-◌, ◌<◌, ◌≤◌, Bool, true, List, [], ◌∷◌, ◌++◌, ltb, length, map, drop}
use Rattle.std.proofs.Common.{sym, ap, ◌∙◌, arith}
use Rattle.std.proofs.Common.{append_assoc, append-nil}
use Rattle.std.proofs.lemmas.Bool.{lt-ltb}
use Rattle.std.proofs.lemmas.List.{drop_all}
use Rattle.serde_json.specs.Written.{compact_text}
use Rattle.nt_types.specs.TreeData.{TreesData}
use Rattle.nt_event.specs.Json.{data_of, line_of}
use Rattle.nt_plans.specs.Plan.{plans_of}
use Rattle.nt_plans.specs.PlanViews.{plan_view}
use Rattle.nt_trees.specs.Columns.{Cols}
use Rattle.nt_trees.specs.TreeAt.{tree_at}
use Rattle.nt_join.specs.Readable.{ReadableEach}
use Rattle.nt_lines.specs.declared.lent.LentPlan.{LentPlan}
use Rattle.nt_lines.specs.Lines.{written_lines, entry_trees, rest_behind, IsMadeOrNone, IsNextMade}
use Rattle.nt_print.specs.Marks.{mark_before, end_of, rest_text}
use Rattle.nt_print.proofs.Arrays.{rest-more, rest-none}

-- the values behind some can be read
pub readable-behind : (count : ℕ) (ls : List LentPlan) (cols : Cols) (i : ℕ)
    → ReadableEach (plans_of (map (λ (l : LentPlan). plan_view l.plan.now) ls)) cols i
    → ReadableEach (plans_of (map (λ (l : LentPlan). plan_view l.plan.now) (drop count ls))) cols i
readable-behind zero ls cols i r = r
readable-behind (suc count) [] cols i r = r
readable-behind (suc count) (l ∷ ls) cols i r =
    readable-behind count ls cols i (record { size = r.size; sound = r.sound.1; within = r.within })

-- one value more, in front of what is left
pub rest-next : (count : ℕ) (ls : List LentPlan) (l : LentPlan) (cols : Cols) (i : ℕ) → drop count ls ≡ l ∷ drop (count + 1) ls
    → mark_before (ltb 0 count) ∷ compact_text (data_of (tree_at (plan_view l.plan.now) cols i)) ++ rest_behind (count + 1) ls cols i
    ≡ rest_behind count ls cols i
rest-next count ls l cols i next =
    let value = mark_before (ltb 0 count) ∷ compact_text (data_of (tree_at (plan_view l.plan.now) cols i)) in
    let others : TreesData = entry_trees (drop (count + 1) ls) cols i in
    let some : ltb 0 (count + 1) ≡ true = lt-ltb 0 (count + 1) (omega arith) in
    ap (λ (later : Bool). value ++ rest_text later others) some
    ∙ rest-more (ltb 0 count) (tree_at (plan_view l.plan.now) cols i) others
    ∙ ap (λ (xs : List LentPlan). rest_text (ltb 0 count) (entry_trees xs cols i)) (sym next)

-- a value that was made is the next one
pub made-next : (count : ℕ) (ls : List LentPlan) (l : LentPlan) (cols : Cols) (i : ℕ) (made : List ℕ)
    → count < length ls → drop count ls ≡ l ∷ drop (count + 1) ls
    → IsMadeOrNone made (mark_before (ltb 0 count) ∷ compact_text (data_of (tree_at (plan_view l.plan.now) cols i)))
    → IsNextMade count ls cols i made
made-next count ls l cols i made less next (inl none) = inl none
made-next count ls l cols i made less next (inr is) =
    inr (less, ap (λ (m : List ℕ). m ++ rest_behind (count + 1) ls cols i) is ∙ rest-next count ls l cols i next)

-- a value that was made, and what is left behind it
pub made-behind : (count : ℕ) (ls : List LentPlan) (cols : Cols) (i : ℕ) (old new made : List ℕ) → new ≡ old ++ made → (made ≡ [] → ⊥)
    → IsNextMade count ls cols i made
    → (count < length ls) × (new ++ (rest_behind (count + 1) ls cols i ++ 10 ∷ []) ≡ old ++ (rest_behind count ls cols i ++ 10 ∷ []))
made-behind count ls cols i old new made is some (inl none) = absurd (some none)
made-behind count ls cols i old new made is some (inr (less, next)) =
    let left = rest_behind (count + 1) ls cols i in (
      less,
      ap (λ (l : List ℕ). l ++ (left ++ 10 ∷ [])) is ∙ append_assoc old made (left ++ 10 ∷ [])
          ∙ ap (λ (l : List ℕ). old ++ l) (sym (append_assoc made left (10 ∷ [])) ∙ ap (λ (l : List ℕ). l ++ 10 ∷ []) next),
    )

-- a piece behind what was there, and what comes then
pub piece-behind : (old new piece left rest whole : List ℕ) → new ≡ old ++ piece → piece ++ left ≡ rest → old ++ rest ≡ whole
    → new ++ left ≡ whole
piece-behind old new piece left rest whole is next so_far =
    ap (λ (l : List ℕ). l ++ left) is ∙ append_assoc old piece left ∙ ap (λ (l : List ℕ). old ++ l) next ∙ so_far

-- behind the last value stands the end of the array
pub rest-end : (count : ℕ) (ls : List LentPlan) (cols : Cols) (i : ℕ) → length ls ≤ count
    → end_of (ltb 0 count) ≡ rest_behind count ls cols i
rest-end count ls cols i all =
    rest-none (ltb 0 count)
    ∙ ap (λ (xs : List LentPlan). rest_text (ltb 0 count) (entry_trees xs cols i)) (sym (drop_all count ls (omega (arith, all))))

-- what is left of a line behind what is begun of it, and its LF
pub line-whole : (front begun new rest line : List ℕ) → begun ++ rest ≡ front ++ line → new ≡ begun ++ (rest ++ 10 ∷ [])
    → new ≡ front ++ (line ++ 10 ∷ [])
line-whole front begun new rest line so_far is =
    is ∙ sym (append_assoc begun rest (10 ∷ [])) ∙ ap (λ (l : List ℕ). l ++ 10 ∷ []) so_far ∙ append_assoc front line (10 ∷ [])

-- one line more
lines-next : (f : ℕ → TreesData) (i n : ℕ) → written_lines f i (suc n) ≡ written_lines f i n ++ (line_of (f (i + n)) ++ 10 ∷ [])
lines-next f i zero =
    let same : i + 0 ≡ i = omega arith in
    append-nil (line_of (f i) ++ 10 ∷ []) ∙ ap (λ (k : ℕ). line_of (f k) ++ 10 ∷ []) (sym same)
lines-next f i (suc n) =
    let place : suc i + n ≡ i + suc n = omega arith in
    ap (λ (l : List ℕ). (line_of (f i) ++ 10 ∷ []) ++ l)
    (lines-next f (suc i) n ∙ ap (λ (k : ℕ). written_lines f (suc i) n ++ (line_of (f k) ++ 10 ∷ [])) place)
    ∙ sym (append_assoc (line_of (f i) ++ 10 ∷ []) (written_lines f (suc i) n) (line_of (f (i + suc n)) ++ 10 ∷ []))

pub lines-more : (f : ℕ → TreesData) (from i : ℕ) (front old new : List ℕ) → from ≤ i → old ≡ front ++ written_lines f from (i - from)
    → new ≡ old ++ (line_of (f i) ++ 10 ∷ []) → new ≡ front ++ written_lines f from (i + 1 - from)
lines-more f from i front old new low so_far is =
    let count : i + 1 - from ≡ suc (i - from) = omega arith in
    let place : from + (i - from) ≡ i = omega arith in
    let line = line_of (f i) ++ 10 ∷ [] in
    is ∙ ap (λ (l : List ℕ). l ++ line) so_far ∙ append_assoc front (written_lines f from (i - from)) line
    ∙ ap (λ (l : List ℕ). front ++ l) (ap (λ (k : ℕ). written_lines f from (i - from) ++ (line_of (f k) ++ 10 ∷ [])) (sym place)
    ∙ sym (lines-next f from (i - from)) ∙ ap (λ (n : ℕ). written_lines f from n) (sym count))

-- the first line
pub lines-first : (f : ℕ → TreesData) (from : ℕ) (front new : List ℕ) → new ≡ front ++ (line_of (f from) ++ 10 ∷ [])
    → new ≡ front ++ written_lines f from (from + 1 - from)
lines-first f from front new is =
    let none : 0 ≡ from - from = omega arith in
    lines-more f from from front front new (omega arith) (sym (append-nil front) ∙ ap (λ (n : ℕ). front ++ written_lines f from n) none) is
