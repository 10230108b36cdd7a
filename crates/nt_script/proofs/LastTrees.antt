-- Which trees fit one field more.
use Rattle.std.proofs.Common.{◌≡◌, Bool, true, false, List, [], ◌∷◌, ◌++◌, refl, sym, ap, ap₂, ◌∙◌}
use Rattle.std.specs.Prelude.{◌&&◌}
use Rattle.nt_types.specs.ShapeData.{MemberData, parts_of}
use Rattle.nt_types.specs.TreeData.{TreeData, TreesData, no_trees, tree}
use Rattle.nt_types.specs.Fits.{fits_next, fits, fit_parts, are_no_trees}
use Rattle.nt_plans.specs.Plan.{PlanData, PlansData, no_plans, plan, and_plan}
use Rattle.nt_trees.specs.Fits.{fits_plan, fit_plans}

-- all trees but the last
abbrev but_last : TreeData → TreesData → TreesData
but_last t no_trees = no_trees
but_last t (tree u us) = tree t (but_last u us)

-- the last
abbrev last_of : TreeData → TreesData → TreeData
last_of t no_trees = t
last_of t (tree u us) = last_of u us

-- the last tree fits, and so do those before it
abbrev fits_last : (TreesData → Bool) → (TreeData → Bool) → TreesData → Bool
fits_last f g no_trees = false
fits_last f g (tree t ts) = f (but_last t ts) && g (last_of t ts)

and_none : (b : Bool) → (b && false) ≡ false
and_none true = refl
and_none false = refl

and_all : (b : Bool) → (b && true) ≡ b
and_all true = refl
and_all false = refl

and_assoc : (a b c : Bool) → (a && (b && c)) ≡ ((a && b) && c)
and_assoc true b c = refl
and_assoc false b c = refl

-- one test more at the end, where there is none before it
last_alone : (g : TreeData → Bool) (ts : TreesData) → fits_next g are_no_trees ts ≡ fits_last are_no_trees g ts
last_alone g no_trees = refl
last_alone g (tree t no_trees) = and_all (g t)
last_alone g (tree t (tree u us)) = and_none (g t)

-- and behind another
last_behind : (h g : TreeData → Bool) (f k : TreesData → Bool) → ((us : TreesData) → k us ≡ fits_last f g us) → (ts : TreesData)
    → fits_next h k ts ≡ fits_last (fits_next h f) g ts
last_behind h g f k same no_trees = refl
last_behind h g f k same (tree t no_trees) = ap (λ (b : Bool). h t && b) (same no_trees) ∙ and_none (h t)
last_behind h g f k same (tree t (tree u us)) =
    ap (λ (b : Bool). h t && b) (same (tree u us)) ∙ and_assoc (h t) (f (but_last u us)) (g (last_of u us))

plans-last : (ps : PlansData) (p : PlanData) (ts : TreesData) → fit_plans (and_plan ps p) ts ≡ fits_last (fit_plans ps) (fits_plan p) ts
plans-last no_plans p ts = last_alone (fits_plan p) ts
plans-last (plan q ps) p ts = last_behind (fits_plan q) (fits_plan p) (fit_plans ps) (fit_plans (and_plan ps p)) (plans-last ps p) ts

parts-last : (F : List MemberData) (m : MemberData) (ts : TreesData)
    → fit_parts (parts_of (F ++ m ∷ [])) ts ≡ fits_last (fit_parts (parts_of F)) (fits m.of) ts
parts-last [] m ts = last_alone (fits m.of) ts
parts-last (q ∷ F) m ts =
    last_behind (fits q.of) (fits m.of) (fit_parts (parts_of F)) (fit_parts (parts_of (F ++ m ∷ []))) (parts-last F m) ts

last-same : (f k : TreesData → Bool) (g h : TreeData → Bool) → ((ts : TreesData) → f ts ≡ k ts) → ((t : TreeData) → g t ≡ h t)
    → (ts : TreesData) → fits_last f g ts ≡ fits_last k h ts
last-same f k g h front last no_trees = refl
last-same f k g h front last (tree t ts) = ap₂ (λ a b. a && b) (front (but_last t ts)) (last (last_of t ts))

-- where plans take what fits fields, and one more takes what fits one field more, so do all
pub more_fits : (ps : PlansData) (p : PlanData) (F : List MemberData) (m : MemberData)
    → ((ts : TreesData) → fit_plans ps ts ≡ fit_parts (parts_of F) ts) → ((t : TreeData) → fits_plan p t ≡ fits m.of t)
    → (ts : TreesData) → fit_plans (and_plan ps p) ts ≡ fit_parts (parts_of (F ++ m ∷ [])) ts
more_fits ps p F m front last ts =
    plans-last ps p ts
    ∙ (last-same (fit_plans ps) (fit_parts (parts_of F)) (fits_plan p) (fits m.of) front last ts ∙ sym (parts-last F m ts))
