-- In sound columns nothing is wrong.
use Rattle.std.proofs.Common.{◌≡◌, ℕ, suc, ◌<◌, eqb, Bool, ◌||◌, ◌&&◌, true, false, List, length, take, Option, None, refl, arith, inl, inr}
use Rattle.std.proofs.lemmas.Bool.{eq-eqb, le-leb, cases_lt}
use Rattle.nt_plans.specs.Plan.{PlanData, PlansData, bool, number, text, list, maybe, record_of, choice, no_plans, plan}
use Rattle.nt_encode.specs.Elements.{Element}
use Rattle.nt_trees.specs.Columns.{Cols, number_at, tag_at, last_end, count_tag}
use Rattle.nt_trees.specs.Sound.{Rises, FewSteps, TagsUpTo, IndicesCount, how_many_plans, Sound, AllSound, EachSound}
use Rattle.nt_trees.specs.Faults.{Demand, free, rising, stepping, tagged, index_counts, is_met, first_failing, column_fault, lower}
use Rattle.nt_trees.specs.Faults.{fault_in, fault_in_any, fault_under, Spot}
use Rattle.nt_trees.proofs.NoFault.{first_failing-none}

column_is : (d : Demand) (cols : Cols) (k n : ℕ) → length (cols k) ≡ n
    → ((i : ℕ) → i < length (cols k) → is_met d (cols k) i ≡ true) → column_fault d cols k n ≡ None
column_is d cols k n long met =
    let same : eqb (length (cols k)) n ≡ true = eq-eqb _ _ long in
    let none : first_failing (is_met d (cols k)) (length (cols k)) ≡ None = first_failing-none (is_met d (cols k)) (length (cols k)) met in
    rw (same, none) refl

both_true : (a b : Bool) → a ≡ true → b ≡ true → (a && b) ≡ true
both_true a b h g = rw h g

free_is : (cols : Cols) (k n : ℕ) → length (cols k) ≡ n → column_fault free cols k n ≡ None
free_is cols k n long = column_is free cols k n long (λ i l. refl)

rises_is : (cols : Cols) (k n : ℕ) → length (cols k) ≡ n → Rises (cols k) → column_fault rising cols k n ≡ None
rises_is cols k n long rises = column_is rising cols k n long (λ i l. le-leb _ _ (rises i l))

steps_is : (cols : Cols) (k n : ℕ) → length (cols k) ≡ n → Rises (cols k) → FewSteps (cols k) → column_fault stepping cols k n ≡ None
steps_is cols k n long rises few = column_is stepping cols k n long (λ i l. both_true _ _ (le-leb _ _ (rises i l)) (le-leb _ _ (few i l)))

counts_at : (es : List Element) (i : ℕ) → (0 < tag_at es i → number_at es i ≡ count_tag (tag_at es i) (take i es))
    → index_counts es i ≡ true
counts_at es i counts =
    elim (cases_lt 0 (tag_at es i)) [
      | inl some ↦ (let same : eqb (number_at es i) (count_tag (tag_at es i) (take i es)) ≡ true =
          eq-eqb _ _ (counts some) in or_right (eqb (tag_at es i) 0) _ same)
      | inr none ↦ (let zero_is : eqb (tag_at es i) 0 ≡ true = eq-eqb _ _ (omega (arith, none)) in rw zero_is refl)
    ]
  where
    or_right : (a b : Bool) → b ≡ true → (a || b) ≡ true
    or_right true b h = refl
    or_right false b h = h

tags_is : (cols : Cols) (most k n : ℕ) → length (cols k) ≡ n → TagsUpTo most (cols k) → IndicesCount (cols k)
    → column_fault (tagged most) cols k n ≡ None
tags_is cols most k n long tags counts = column_is (tagged most) cols k n long
    (λ i l. both_true _ _ (le-leb _ _ (tags i l)) (counts_at (cols k) i (counts i l)))

none_of : (f g : Option Spot) → f ≡ None → g ≡ None → lower f g ≡ None
none_of f g h i = rw (h, i) refl

mutual
  pub fault_in-sound : (p : PlanData) (cols : Cols) (n : ℕ) → Sound p cols n → fault_in p cols n ≡ None
  fault_in-sound (bool k) cols n s = free_is cols k n s
  fault_in-sound (number k bits signed) cols n s = free_is cols k n s
  fault_in-sound (text ends bytes) cols n s = none_of _ _ (rises_is cols ends n s.0 s.1) (free_is cols bytes (last_end (cols ends)) s.2)
  fault_in-sound (list ends p) cols n s = none_of _ _ (rises_is cols ends n s.0 s.1) (fault_in-sound p cols (last_end (cols ends)) s.2)
  fault_in-sound (maybe ends p) cols n s =
      none_of _ _ (steps_is cols ends n s.0 s.1 s.2) (fault_in-sound p cols (last_end (cols ends)) s.3)
  fault_in-sound (record_of ps) cols n s = fault_in_any-sound ps cols n s
  fault_in-sound (choice tags ps) cols n s = none_of _ _ (tags_is cols (how_many_plans ps) tags n s.0 s.1 s.2)
      (fault_under-sound 0 ps (cols tags) cols s.3)

  pub fault_in_any-sound : (ps : PlansData) (cols : Cols) (n : ℕ) → AllSound ps cols n → fault_in_any ps cols n ≡ None
  fault_in_any-sound no_plans cols n s = refl
  fault_in_any-sound (plan p ps) cols n s = none_of _ _ (fault_in-sound p cols n s.0) (fault_in_any-sound ps cols n s.1)

  fault_under-sound : (before : ℕ) (ps : PlansData) (es : List Element) (cols : Cols) → EachSound before ps es cols
      → fault_under before ps es cols ≡ None
  fault_under-sound before no_plans es cols s = refl
  fault_under-sound before (plan p ps) es cols s = none_of _ _ (fault_in-sound p cols (count_tag (suc before) es) s.0)
      (fault_under-sound (suc before) ps es cols s.1)
