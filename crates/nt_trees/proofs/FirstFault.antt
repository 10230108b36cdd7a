-- The first fault of columns, in words.
use Rattle.std.proofs.Common.{◌≡◌, ℕ, zero, suc, ◌<◌, ◌≤◌, ◌⊎◌, inl, inr, ◌==◌, nat_lt, Bool, true, false, List, length, Option, Some, None}
use Rattle.std.proofs.Common.{refl, ap, sym, ◌∙◌, subst, arith}
use Rattle.std.proofs.lemmas.Bool.{eq-eqb, ne_eqb, lt-ltb, le-ltb, cases_eq, cases_lt, cond-true, cond-false}
use Rattle.nt_column.specs.Elements.{Element}
use Rattle.nt_plans.specs.Plan.{PlanData, PlansData, bool, number, text, list, maybe, record_of, choice, no_plans, plan}
use Rattle.nt_trees.specs.Columns.{Cols, last_end, count_tag}
use Rattle.nt_trees.specs.Sound.{how_many_plans}
use Rattle.nt_trees.specs.Faults.{Spot, Demand, free, rising, tagged, is_met, or_last, first_failing, spot_in, column_fault, lower}
use Rattle.nt_trees.specs.Faults.{fault_in, fault_in_any, fault_under, stepping}
use Rattle.nt_trees.specs.Required.{Required, IsKeptBy, IsRequired, IsRequiredOfAny, IsRequiredUnder, IsFaultOfAll}

-- ---- of one column

-- what the first number at which a test fails is
abbrev FailsFirst : (ℕ → Bool) → ℕ → Option ℕ → Type 0
FailsFirst f n None = (i : ℕ) → i < n → f i ≡ true
FailsFirst f n (Some x) = (x < n) × (f x ≡ false) × ((i : ℕ) → i < x → f i ≡ true)

fails-next : (f : ℕ → Bool) (n : ℕ) (o : Option ℕ) (b : Bool)
    → b ≡ f n → FailsFirst f n o → FailsFirst f (suc n) (or_last o b n)
fails-next f n (Some x) b is h = (omega (arith, h.0), h.1, h.2)
fails-next f n None true is h = λ i l. go i l (cases_eq i n)
  where
    go : (i : ℕ) → i < suc n → (i ≡ n) ⊎ (i ≡ n → ⊥) → f i ≡ true
    go i l (inl same) = ap f same ∙ sym is
    go i l (inr apart) = h i (omega (arith, l, apart))
fails-next f n None false is h = (omega arith, sym is, h)

fails-first : (f : ℕ → Bool) (n : ℕ) → FailsFirst f n (first_failing f n)
fails-first f zero = λ i l. absurd (omega (arith, l))
fails-first f (suc n) = fails-next f n (first_failing f n) (f n) refl (fails-first f n)

asked-column : (d : Demand) (cols : Cols) (k n : ℕ)
    → IsFaultOfAll (λ r. r ≡ record { column = k; needed = n; each = d }) cols (column_fault d cols k n)
asked-column d cols k n = go (cases_eq (length (cols k)) n)
  where
    this : Required
    this = record { column = k; needed = n; each = d }

    inside : (o : Option ℕ) → length (cols k) ≡ n → FailsFirst (is_met d (cols k)) (length (cols k)) o
        → IsFaultOfAll (λ r. r ≡ this) cols (spot_in k o)
    inside None same h = λ r is. subst (IsKeptBy cols) (sym is) (record { length_is = same; elements = h })
    inside (Some x) same h = record {
      of = this;
      is_asked = refl;
      column_is = refl;
      is_off = inr (record { length_is = same; within = h.0; elements = h.2; off = h.1 });
      lower_kept = λ r is l. absurd (omega (arith, l, ap (λ (q : Required). q.column) is));
    }

    short : (length (cols k) ≡ n → ⊥) → IsFaultOfAll (λ r. r ≡ this) cols (Some (k, length (cols k)))
    short apart = record {
      of = this;
      is_asked = refl;
      column_is = refl;
      is_off = inl (apart, refl);
      lower_kept = λ r is l. absurd (omega (arith, l, ap (λ (q : Required). q.column) is));
    }

    go : (length (cols k) ≡ n) ⊎ (length (cols k) ≡ n → ⊥) → IsFaultOfAll (λ r. r ≡ this) cols (column_fault d cols k n)
    go (inl same) = subst (IsFaultOfAll (λ r. r ≡ this) cols)
        (sym (cond-true (length (cols k) == n) _ (Some (k, length (cols k))) (eq-eqb (length (cols k)) n same)))
        (inside (first_failing (is_met d (cols k)) (length (cols k))) same (fails-first (is_met d (cols k)) (length (cols k))))
    go (inr apart) = subst (IsFaultOfAll (λ r. r ≡ this) cols)
        (sym (cond-false (length (cols k) == n) _ (Some (k, length (cols k))) (ne_eqb (length (cols k)) n apart)))
        (short apart)

-- ---- of several

asked-both : (A B : Required → Type 0) (cols : Cols) (f g : Option Spot) → IsFaultOfAll A cols f → IsFaultOfAll B cols g
    → IsFaultOfAll (λ r. A r ⊎ B r) cols (lower f g)
asked-both A B cols None None a b = both
  where
    both : (r : Required) → A r ⊎ B r → IsKeptBy cols r
    both r (inl x) = a r x
    both r (inr y) = b r y
asked-both A B cols None (Some g) a b = record {
  of = b.of;
  is_asked = inr b.is_asked;
  column_is = b.column_is;
  is_off = b.is_off;
  lower_kept = kept;
}
  where
    kept : (r : Required) → A r ⊎ B r → r.column < g.0 → IsKeptBy cols r
    kept r (inl x) l = a r x
    kept r (inr y) l = b.lower_kept r y l
asked-both A B cols (Some f) None a b = record {
  of = a.of;
  is_asked = inl a.is_asked;
  column_is = a.column_is;
  is_off = a.is_off;
  lower_kept = kept;
}
  where
    kept : (r : Required) → A r ⊎ B r → r.column < f.0 → IsKeptBy cols r
    kept r (inl x) l = a.lower_kept r x l
    kept r (inr y) l = b r y
asked-both A B cols (Some f) (Some g) a b = go (cases_lt g.0 f.0)
  where
    keep : (s : Spot) → s.0 ≤ f.0 → s.0 ≤ g.0 → (r : Required) → A r ⊎ B r → r.column < s.0 → IsKeptBy cols r
    keep s x y r (inl p) l = a.lower_kept r p (omega (arith, l, x))
    keep s x y r (inr q) l = b.lower_kept r q (omega (arith, l, y))

    go : (g.0 < f.0) ⊎ (f.0 ≤ g.0) → IsFaultOfAll (λ r. A r ⊎ B r) cols (lower (Some f) (Some g))
    go (inl l) = subst (IsFaultOfAll (λ r. A r ⊎ B r) cols) (sym (cond-true (nat_lt g.0 f.0) (Some g) (Some f) (lt-ltb g.0 f.0 l)))
        (record {
          of = b.of;
          is_asked = inr b.is_asked;
          column_is = b.column_is;
          is_off = b.is_off;
          lower_kept = keep g (omega (arith, l)) (omega arith);
        })
    go (inr l) = subst (IsFaultOfAll (λ r. A r ⊎ B r) cols) (sym (cond-false (nat_lt g.0 f.0) (Some g) (Some f) (le-ltb g.0 f.0 l)))
        (record {
          of = a.of;
          is_asked = inl a.is_asked;
          column_is = a.column_is;
          is_off = a.is_off;
          lower_kept = keep f (omega arith) l;
        })

mutual
  pub asked-plan : (p : PlanData) (cols : Cols) (n : ℕ) → IsFaultOfAll (IsRequired p cols n) cols (fault_in p cols n)
  asked-plan (bool k) cols n = asked-column free cols k n
  asked-plan (number k bits signed) cols n = asked-column free cols k n
  asked-plan (text e c) cols n =
      asked-both _ _ cols (column_fault rising cols e n) (column_fault free cols c (last_end (cols e)))
      (asked-column rising cols e n) (asked-column free cols c (last_end (cols e)))
  asked-plan (list e p) cols n =
      asked-both _ _ cols (column_fault rising cols e n) (fault_in p cols (last_end (cols e)))
      (asked-column rising cols e n) (asked-plan p cols (last_end (cols e)))
  asked-plan (maybe e p) cols n =
      asked-both _ _ cols (column_fault stepping cols e n) (fault_in p cols (last_end (cols e)))
      (asked-column stepping cols e n) (asked-plan p cols (last_end (cols e)))
  asked-plan (record_of ps) cols n = asked-any ps cols n
  asked-plan (choice s ps) cols n =
      asked-both _ _ cols (column_fault (tagged (how_many_plans ps)) cols s n) (fault_under 0 ps (cols s) cols)
      (asked-column (tagged (how_many_plans ps)) cols s n) (asked-under 0 ps (cols s) cols)

  pub asked-any : (ps : PlansData) (cols : Cols) (n : ℕ) → IsFaultOfAll (IsRequiredOfAny ps cols n) cols (fault_in_any ps cols n)
  asked-any no_plans cols n = λ r x. absurd x
  asked-any (plan p ps) cols n =
      asked-both _ _ cols (fault_in p cols n) (fault_in_any ps cols n) (asked-plan p cols n) (asked-any ps cols n)

  asked-under : (before : ℕ) (ps : PlansData) (es : List Element) (cols : Cols)
      → IsFaultOfAll (IsRequiredUnder before ps es cols) cols (fault_under before ps es cols)
  asked-under before no_plans es cols = λ r x. absurd x
  asked-under before (plan p ps) es cols =
      asked-both _ _ cols (fault_in p cols (count_tag (suc before) es)) (fault_under (suc before) ps es cols)
      (asked-plan p cols (count_tag (suc before) es)) (asked-under (suc before) ps es cols)
