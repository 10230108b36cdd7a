-- Trees that are chosen by their places.
use Rattle.std.proofs.Common.{◌≡◌, ◌∙◌, ap, sym, refl, subst, ℕ, zero, suc, ◌+◌, ◌<◌, ◌≤◌, List, [], ◌∷◌, ◌++◌, map, take, length}
use Rattle.std.proofs.Common.{get_or, arith}
use Rattle.std.proofs.lemmas.List.{map-append, map_more}
use Rattle.nt_types.specs.TreeData.{nothing}
use Rattle.nt_plans.specs.Plan.{PlanData, plans_of}
use Rattle.nt_plans.specs.PlanViews.{plan_view, plans_view}
use Rattle.nt_plans.specs.declared.plan.Plan.{Plan}
use Rattle.nt_plans.specs.declared.plan.Plans.{Plans}
use Rattle.nt_trees.specs.Columns.{Cols}
use Rattle.nt_trees.specs.TreeAt.{tree_at, each_at}
use Rattle.nt_join.specs.Chosen.{tree_in}
use Rattle.nt_join.specs.Readable.{Readable, ReadableEach}
use Rattle.nt_join.proofs.Plans.{plans_view-list}

-- the plan at a place can be read where each can
pub place-readable : (l : List Plan) (k : ℕ) (x : Plan) (cols : Cols) (i : ℕ) → k < length l → x ≡ get_or l k x
    → ReadableEach (plans_of (map plan_view l)) cols i → Readable (plan_view x) cols i
place-readable [] k x cols i h is r = absurd (omega (arith, h))
place-readable (y ∷ l) zero x cols i h is r =
    subst (λ (p : Plan). Readable (plan_view p) cols i) (sym is) (record { size = r.size; sound = r.sound.0; within = r.within })
place-readable (y ∷ l) (suc k) x cols i h is r =
    place-readable l k x cols i (omega (arith, h)) is (record { size = r.size; sound = r.sound.1; within = r.within })

-- its tree is that at the place
pub place-tree : (l : List Plan) (k : ℕ) (x : Plan) (cols : Cols) (i : ℕ) → k < length l → x ≡ get_or l k x
    → tree_in (each_at (plans_of (map plan_view l)) cols i) k ≡ tree_at (plan_view x) cols i
place-tree [] k x cols i h is = absurd (omega (arith, h))
place-tree (y ∷ l) zero x cols i h is = ap (λ (p : Plan). tree_at (plan_view p) cols i) (sym is)
place-tree (y ∷ l) (suc k) x cols i h is = place-tree l k x cols i (omega (arith, h)) is

-- past the last there is none
pub place-past : (l : List Plan) (k : ℕ) (cols : Cols) (i : ℕ) → length l ≤ k
    → tree_in (each_at (plans_of (map plan_view l)) cols i) k ≡ nothing
place-past [] k cols i h = refl
place-past (y ∷ l) zero cols i h = absurd (omega (arith, h))
place-past (y ∷ l) (suc k) cols i h = place-past l k cols i (omega (arith, h))

-- the same of plans in memory
pub plans-readable : (ps : Plans) (k : ℕ) (x : Plan) (cols : Cols) (i : ℕ) → k < length ps.list.items → x ≡ get_or ps.list.items k x
    → ReadableEach (plans_of (plans_view ps)) cols i → Readable (plan_view x) cols i
plans-readable ps k x cols i h is r =
    place-readable ps.list.items k x cols i h is (subst (λ (l : List PlanData). ReadableEach (plans_of l) cols i) (plans_view-list ps) r)

pub plans-tree : (ps : Plans) (k : ℕ) (x : Plan) (cols : Cols) (i : ℕ) → k < length ps.list.items → x ≡ get_or ps.list.items k x
    → tree_in (each_at (plans_of (plans_view ps)) cols i) k ≡ tree_at (plan_view x) cols i
plans-tree ps k x cols i h is =
    ap (λ (l : List PlanData). tree_in (each_at (plans_of l) cols i) k) (plans_view-list ps) ∙ place-tree ps.list.items k x cols i h is

pub plans-past : (ps : Plans) (k : ℕ) (cols : Cols) (i : ℕ) → length ps.list.items ≤ k
    → tree_in (each_at (plans_of (plans_view ps)) cols i) k ≡ nothing
plans-past ps k cols i h =
    ap (λ (l : List PlanData). tree_in (each_at (plans_of l) cols i) k) (plans_view-list ps) ∙ place-past ps.list.items k cols i h

-- one more of what each of a list gives
pub list-grown : {A B C : Type 0} (view : A → B) (f : C → B) (xs : List C) (i : ℕ) (x : C) (done new : List A) (y : A)
    → map view done ≡ map f (take i xs) → i < length xs → x ≡ get_or xs i x → view y ≡ f x → new ≡ done ++ y ∷ []
    → map view new ≡ map f (take (i + 1) xs)
list-grown view f xs i x done new y so-far less at is pushed =
    ap (map view) pushed ∙ map-append view done (y ∷ []) ∙ ap (λ l. l ++ view y ∷ []) so-far
    ∙ ap (λ b. map f (take i xs) ++ b ∷ []) is ∙ ap (λ z. map f (take i xs) ++ f z ∷ []) at ∙ sym (map_more f xs i x less)

-- which element would stand past the last doesn't matter before
pub any-default : (xs : List ℕ) (i d e : ℕ) → i < length xs → get_or xs i d ≡ get_or xs i e
any-default [] i d e h = absurd (omega (arith, h))
any-default (x ∷ xs) zero d e h = refl
any-default (x ∷ xs) (suc i) d e h = any-default xs i d e (omega (arith, h))
