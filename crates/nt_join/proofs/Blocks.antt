-- Sweeps over a Switch, one for each block of tags.
use Rattle.std.proofs.Common.{◌≡◌, ℕ, suc, ◌<◌, ◌≤◌, ◌⊎◌, inl, inr, ◌==◌, nat_le, true, false, List, [], ◌∷◌, length, take, Option, refl}
use Rattle.std.proofs.Common.{ap, sym, ◌∙◌, subst, arith}
use Rattle.std.proofs.lemmas.Bool.{le-leb, eq-eqb, and_from, or_left, or_right, cases_eq, cases_lt}
use Rattle.nt_column.specs.Elements.{Element}
use Rattle.nt_plans.specs.Plan.{PlanData, plans_of}
use Rattle.nt_trees.specs.Columns.{Cols, number_at, tag_at, count_tag}
use Rattle.nt_trees.specs.Sound.{how_many_plans}
use Rattle.nt_trees.specs.Faults.{Spot, tagged, index_counts, is_met, lower, fault_in, fault_in_any, fault_under}
use Rattle.nt_trees.proofs.NoFault.{lower-lower}
use Rattle.nt_join.specs.Sweeps.{IsFirstUnmet, CountsBetween, IsFirstOfTags}

-- what the sweeps for the tags up to a number have found
pub record IsFirstUpTo (most high : ℕ) (es : List Element) (first : ℕ) : Type 0 where
  pub within : first ≤ length es
  pub tags : (j : ℕ) → j < first → 0 < high → tag_at es j ≤ most
  pub indices : (j : ℕ) → j < first → CountsBetween 0 high es j
  pub unmet : first < length es → is_met (tagged most) es first ≡ false

-- before the first sweep
pub IsFirstUpTo-none : (most : ℕ) (es : List Element) → IsFirstUpTo most 0 es (length es)
IsFirstUpTo-none most es = record {
  within = omega arith;
  tags = λ j b some. absurd (omega (arith, some));
  indices = λ j b above within. absurd (omega (arith, above, within));
  unmet = λ l. absurd (omega (arith, l));
}

-- after the next
pub IsFirstUpTo-next : (most low high first odd least : ℕ) (es : List Element)
    → IsFirstUpTo most low es first → IsFirstOfTags most low high es odd
    → (first ≤ odd → least ≡ first) → (odd ≤ first → least ≡ odd) → IsFirstUpTo most high es least
IsFirstUpTo-next most low high first odd least es before this kept moved = go (cases_lt odd first)
  where
    at_both : (j : ℕ) → j < first → j < odd → CountsBetween 0 high es j
    at_both j f o above within = split (cases_lt low (tag_at es j))
      where
        split : (low < tag_at es j) ⊎ (tag_at es j ≤ low) → number_at es j ≡ count_tag (tag_at es j) (take j es)
        split (inl l) = this.indices j o l within
        split (inr l) = before.indices j f above l

    go : (odd < first) ⊎ (first ≤ odd) → IsFirstUpTo most high es least
    go (inl l) =
        let same : least ≡ odd = moved (omega (arith, l)) in
        record {
          within = omega (arith, same, this.within);
          tags = λ j b some. this.tags j (omega (arith, b, same));
          indices = λ j b. at_both j (omega (arith, b, same, l)) (omega (arith, b, same));
          unmet = subst (λ k. k < length es → is_met (tagged most) es k ≡ false) (sym same) this.unmet;
        }
    go (inr l) =
        let same : least ≡ first = kept l in
        record {
          within = omega (arith, same, before.within);
          tags = λ j b some. this.tags j (omega (arith, b, same, l));
          indices = λ j b. at_both j (omega (arith, b, same)) (omega (arith, b, same, l));
          unmet = subst (λ k. k < length es → is_met (tagged most) es k ≡ false) (sym same) before.unmet;
        }

-- after the last
pub IsFirstUnmet-up_to : (most high : ℕ) (es : List Element) (first : ℕ) → most ≤ high → 0 < high → IsFirstUpTo most high es first
    → IsFirstUnmet (tagged most) es first
IsFirstUnmet-up_to most high es first all some u = record {
  within = u.within;
  before = λ i l. and_from (nat_le (tag_at es i) most) (index_counts es i)
      (le-leb (tag_at es i) most (u.tags i l some)) (index i l (cases_eq (tag_at es i) 0));
  unmet = u.unmet;
}
  where
    index : (i : ℕ) → i < first → (tag_at es i ≡ 0) ⊎ (tag_at es i ≡ 0 → ⊥) → index_counts es i ≡ true
    index i l (inl is) = or_left (tag_at es i == 0) _ (eq-eqb (tag_at es i) 0 is)
    index i l (inr apart) = or_right (tag_at es i == 0) _ (eq-eqb (number_at es i) _
        (u.indices i l (omega (arith, apart)) (omega (arith, u.tags i l some, all))))

-- ---- the faults of plans that are left

-- of the next of several fields
pub fault_in_any-next : (known own : Option Spot) (p : PlanData) (left rest : List PlanData) (cols : Cols) (n : ℕ) → left ≡ p ∷ rest
    → own ≡ fault_in p cols n
    → lower (lower known own) (fault_in_any (plans_of rest) cols n) ≡ lower known (fault_in_any (plans_of left) cols n)
fault_in_any-next known own p left rest cols n is same =
    lower-lower known own (fault_in_any (plans_of rest) cols n)
    ∙ ap (λ o. lower known (lower o (fault_in_any (plans_of rest) cols n))) same
    ∙ ap (λ l. lower known (fault_in_any (plans_of l) cols n)) (sym is)

-- of the next alternative
pub fault_under-next : (known own : Option Spot) (p : PlanData) (left rest : List PlanData) (es : List Element) (cols : Cols)
    (before next : ℕ)
    → left ≡ p ∷ rest → next ≡ suc before → own ≡ fault_in p cols (count_tag next es)
    → lower (lower known own) (fault_under next (plans_of rest) es cols) ≡ lower known (fault_under before (plans_of left) es cols)
fault_under-next known own p left rest es cols before next is follows same =
    lower-lower known own (fault_under next (plans_of rest) es cols)
    ∙ ap (λ o. lower known (lower o (fault_under next (plans_of rest) es cols))) same
    ∙ ap (λ k. lower known (lower (fault_in p cols (count_tag k es)) (fault_under k (plans_of rest) es cols))) follows
    ∙ ap (λ l. lower known (fault_under before (plans_of l) es cols)) (sym is)

pub how_many-plans_of : (ps : List PlanData) → how_many_plans (plans_of ps) ≡ length ps
how_many-plans_of [] = refl
how_many-plans_of (p ∷ ps) = ap suc (how_many-plans_of ps)
