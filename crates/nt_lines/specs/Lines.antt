-- The lines of many entries.
use Rattle.std.specs.Prelude.{ℕ, zero, suc, ◌≡◌, ◌⊎◌, ◌+◌, ◌<◌, ◌≤◌, ltb, List, [], ◌∷◌, ◌++◌, length, map, drop, All}
use Rattle.nt_types.specs.TreeData.{TreesData}
use Rattle.nt_event.specs.Json.{line_of}
use Rattle.nt_plans.specs.Plan.{PlanData, plans_of}
use Rattle.nt_plans.specs.PlanViews.{plan_view}
use Rattle.nt_trees.specs.Columns.{Cols}
use Rattle.nt_trees.specs.TreeAt.{each_at}
use Rattle.nt_join.specs.Readable.{Readable, ReadableEach}
use Rattle.nt_print.specs.Marks.{rest_text}
use Rattle.nt_lines.specs.declared.lent.Lent.{Lent}
use Rattle.nt_lines.specs.declared.lent.LentPlan.{LentPlan}
use Rattle.nt_lines.specs.Lent.{IsLentAs}

-- those of so many entries from a place on
abbrev pub written_lines : (ℕ → TreesData) → ℕ → ℕ → List ℕ
written_lines f i zero = []
written_lines f i (suc n) = (line_of (f i) ++ 10 ∷ []) ++ written_lines f (suc i) n

-- a value can be read, by its plan and by what its columns lend
pub record CanPlace (p : PlanData) (cols : Cols) (i : ℕ) (l : Lent) : Type 0 where
  pub readable : Readable p cols i
  pub lent : IsLentAs p cols l

-- so can each value of an entry
pub record CanPrint (cols : Cols) (ls : List LentPlan) (i : ℕ) : Type 0 where
  pub readable : ReadableEach (plans_of (map (λ (l : LentPlan). plan_view l.plan.now) ls)) cols i
  pub lent : All (λ (l : LentPlan). IsLentAs (plan_view l.plan.now) cols l.lent) ls

-- the trees of an entry, by plans in order
abbrev pub entry_trees : List LentPlan → Cols → ℕ → TreesData
entry_trees ls cols i = each_at (plans_of (map (λ (l : LentPlan). plan_view l.plan.now) ls)) cols i

-- the text of its line behind so many values, without the LF
abbrev pub rest_behind : ℕ → List LentPlan → Cols → ℕ → List ℕ
rest_behind count ls cols i = rest_text (ltb 0 count) (entry_trees (drop count ls) cols i)

-- nothing is made, or this text
abbrev pub IsMadeOrNone : List ℕ → List ℕ → Type 0
IsMadeOrNone made text = (made ≡ []) ⊎ (made ≡ text)

-- nothing is made, or the text of the value behind so many, with its mark
abbrev pub IsNextMade : ℕ → List LentPlan → Cols → ℕ → List ℕ → Type 0
IsNextMade count ls cols i made =
    (made ≡ []) ⊎ ((count < length ls) × (made ++ rest_behind (count + 1) ls cols i ≡ rest_behind count ls cols i))

-- so many values of an entry were written behind what was there
pub record AreWritten (ls : List LentPlan) (cols : Cols) (i count : ℕ) (before after : List ℕ) : Type 0 where
  pub few : count ≤ length ls
  pub text : after ++ rest_behind count ls cols i ≡ before ++ line_of (entry_trees ls cols i)

-- so many were, and the next one may be made
pub record IsBegunLine (ls : List LentPlan) (cols : Cols) (i count : ℕ) (before after made : List ℕ) : Type 0 where
  pub values : AreWritten ls cols i count before after
  pub next : IsNextMade count ls cols i made
