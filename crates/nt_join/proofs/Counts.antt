-- Counts of tags, an element further.
use Rattle.std.proofs.Common.{◌≡◌, ℕ, zero, suc, ◌+◌, ◌-◌, ◌<◌, ◌≤◌, ◌⊎◌, inl, inr, ◌==◌, nat_le, if◌then◌else◌, true, false, List, [], ◌∷◌}
use Rattle.std.proofs.Common.{length, take, get_or, refl, ap, sym, ◌∙◌, subst, arith, below_more}
use Rattle.std.proofs.lemmas.Bool.{leb-true, eqb-true, and_parts, or_cases, false_from_ne_true, cases_lt}
use Rattle.nt_column.specs.Elements.{Element}
use Rattle.nt_trees.specs.Columns.{number_at, tag_at, count_tag}
use Rattle.nt_trees.specs.Faults.{tagged, index_counts, is_met}
use Rattle.nt_join.specs.Sweeps.{CountsBetween, HasCounts, CountsOne, IsNext, IsFirstOfTags}

count_tag-next : (t : ℕ) (es : List Element) (i : ℕ) → i < length es
    → count_tag t (take (suc i) es) ≡ count_tag t (take i es) + (if tag_at es i == t then 1 else 0)
count_tag-next t [] i l = absurd (omega arith)
count_tag-next t (e ∷ es) zero l = omega arith
count_tag-next t (e ∷ es) (suc i) l = omega (arith, count_tag-next t es i (omega arith))

pub count_tag-empty : (t : ℕ) (es : List Element) → count_tag t (take 0 es) ≡ 0
count_tag-empty t [] = refl
count_tag-empty t (e ∷ es) = refl

pub count_tag-whole : (t : ℕ) (es : List Element) → count_tag t (take (length es) es) ≡ count_tag t es
count_tag-whole t [] = refl
count_tag-whole t (e ∷ es) = ap (λ n. (if e.1 == t then 1 else 0) + n) (count_tag-whole t es)

-- the counts of the elements up to here, and of the next
pub HasCounts-next : (low i : ℕ) (es : List Element) (old new : List ℕ) → i < length es
    → HasCounts low (take i es) old → CountsOne low (tag_at es i) old new → HasCounts low (take (i + 1) es) new
HasCounts-next low i es old new l counts one t below =
    let before : t < length old = omega (arith, below, one.same) in
    let next : suc i ≡ i + 1 = omega arith in
    one.each t before
    ∙ ap (λ n. n + (if tag_at es i == low + suc t then 1 else 0)) (counts t before)
    ∙ sym (count_tag-next (low + suc t) es i l)
    ∙ ap (λ k. count_tag (low + suc t) (take k es)) next

-- the count of a tag that is counted
count-at : (low i tag : ℕ) (es : List Element) (counts : List ℕ) → HasCounts low (take i es) counts → low < tag → tag ≤ low + length counts
    → get_or counts (tag - low - 1) 0 ≡ count_tag tag (take i es)
count-at low i tag es counts h above within =
    let same : low + suc (tag - low - 1) ≡ tag = omega (arith, above) in
    h (tag - low - 1) (omega (arith, above, within)) ∙ ap (λ t. count_tag t (take i es)) same

-- an element that may follow has the count of its tag as index
pub CountsBetween-next : (most low i : ℕ) (es : List Element) (counts : List ℕ) → HasCounts low (take i es) counts
    → IsNext most low counts (tag_at es i) (number_at es i) → CountsBetween low (low + length counts) es i
CountsBetween-next most low i es counts h next above within =
    next.index_counts above within ∙ count-at low i (tag_at es i) es counts h above within

-- one that may not isn't as it must be
pub is_met-not_next : (most low i : ℕ) (es : List Element) (counts : List ℕ) → HasCounts low (take i es) counts
    → (IsNext most low counts (tag_at es i) (number_at es i) → ⊥) → is_met (tagged most) es i ≡ false
is_met-not_next most low i es counts h off = false_from_ne_true (is_met (tagged most) es i)
    (λ met. off (next (and_parts (nat_le (tag_at es i) most) (index_counts es i) met)))
  where
    index : ((tag_at es i == 0) ≡ true) ⊎ ((number_at es i == count_tag (tag_at es i) (take i es)) ≡ true)
        → low < tag_at es i → tag_at es i ≤ low + length counts → number_at es i ≡ get_or counts (tag_at es i - low - 1) 0
    index (inl is) above within = absurd (omega (arith, above, eqb-true (tag_at es i) 0 is))
    index (inr is) above within =
        eqb-true (number_at es i) (count_tag (tag_at es i) (take i es)) is ∙ sym (count-at low i (tag_at es i) es counts h above within)

    next : (nat_le (tag_at es i) most ≡ true) × (index_counts es i ≡ true) → IsNext most low counts (tag_at es i) (number_at es i)
    next both = record {
      tag_fits = leb-true (tag_at es i) most both.0;
      index_counts = index (or_cases (tag_at es i == 0) _ both.1);
    }

-- each count grows by one at most
pub few-next : (low tag i : ℕ) (old new : List ℕ) → CountsOne low tag old new
    → ((t : ℕ) → t < length old → get_or old t 0 ≤ i) → (t : ℕ) → t < length new → get_or new t 0 ≤ i + 1
few-next low tag i old new one few t below =
    let before : t < length old = omega (arith, below, one.same) in
    grind (arith, one.each t before, few t before)

-- what a sweep has found, so many elements in
pub record IsFirstSoFar (most low high i : ℕ) (es : List Element) (first : ℕ) : Type 0 where
  pub within : first ≤ length es
  pub tags : (j : ℕ) → j < i → j < first → tag_at es j ≤ most
  pub indices : (j : ℕ) → j < i → j < first → CountsBetween low high es j
  pub unmet : first < length es → is_met (tagged most) es first ≡ false

-- the next element may follow
pub IsFirstSoFar-next : (most low high i first : ℕ) (es : List Element) → IsFirstSoFar most low high i es first
    → tag_at es i ≤ most → CountsBetween low high es i → IsFirstSoFar most low high (i + 1) es first
IsFirstSoFar-next most low high i first es so fits counts = record {
  within = so.within;
  tags = below_more _ _ (λ j b. so.tags j b) (λ f. fits);
  indices = below_more _ _ (λ j b. so.indices j b) (λ f. counts);
  unmet = so.unmet;
}

-- the next element may not
pub IsFirstSoFar-not_next : (most low high i first lower : ℕ) (es : List Element) → IsFirstSoFar most low high i es first
    → i < length es → is_met (tagged most) es i ≡ false → (first ≤ i → lower ≡ first) → (i ≤ first → lower ≡ i)
    → IsFirstSoFar most low high (i + 1) es lower
IsFirstSoFar-not_next most low high i first lower es so l off kept moved = go (cases_lt first i)
  where
    go : (first < i) ⊎ (i ≤ first) → IsFirstSoFar most low high (i + 1) es lower
    go (inl before) =
        let same : lower ≡ first = kept (omega (arith, before)) in
        record {
          within = omega (arith, same, so.within);
          tags = λ j b f. so.tags j (omega (arith, f, same, before)) (omega (arith, f, same));
          indices = λ j b f. so.indices j (omega (arith, f, same, before)) (omega (arith, f, same));
          unmet = subst (λ k. k < length es → is_met (tagged most) es k ≡ false) (sym same) so.unmet;
        }
    go (inr behind) =
        let same : lower ≡ i = moved behind in
        record {
          within = omega (arith, same, l);
          tags = λ j b f. so.tags j (omega (arith, f, same)) (omega (arith, f, same, behind));
          indices = λ j b f. so.indices j (omega (arith, f, same)) (omega (arith, f, same, behind));
          unmet = subst (λ k. k < length es → is_met (tagged most) es k ≡ false) (sym same) (λ h. off);
        }

-- once all elements are seen
pub IsFirstOfTags-so_far : (most low high i first : ℕ) (es : List Element) → length es ≤ i → IsFirstSoFar most low high i es first
    → IsFirstOfTags most low high es first
IsFirstOfTags-so_far most low high i first es all so = record {
  within = so.within;
  tags = λ j f. so.tags j (omega (arith, f, so.within, all)) f;
  indices = λ j f. so.indices j (omega (arith, f, so.within, all)) f;
  unmet = so.unmet;
}
