-- Each step keeps one history.
use Rattle.std.proofs.Common.{◌≡◌, ◌≢◌, ◌⊎◌, inl, inr, ⊎_elim, ℕ, ◌<◌, ◌≤◌, Bool, true, false, List, [], ◌∷◌, ◌++◌, set, refl, sym, ap, ◌∙◌}
use Rattle.std.proofs.Common.{subst, append-nil, arith}
use Rattle.std.specs.List.{AllByRecursion}
use Rattle.std.proofs.lemmas.Bool.{cases_eq}
use Rattle.std.specs.declared.option.Option.{Option}
use Rattle.std.specs.declared.option.Option.TheVariants.{Some}
use mathlib.Core.Option.{Option as Maybe, some, some-injective}
use mathlib.Core.List.{IsPrefix}
use Rattle.atomic_table.proofs.Lists.{at_set}
use Rattle.nt_turn.specs.declared.view.Stage.TheVariants.{Idle, Holding}
use Rattle.nt_turn.specs.declared.view.View.{View}
use Rattle.nt_turn.specs.History.{entries_of, HasNone}
use Rattle.nt_turn.specs.View.{IsAt}
use Rattle.nt_turn.specs.Rule.{Knows, Histories}
use Rattle.nt_turn.proofs.Prefixes.{prefix_more}
use Rattle.nt_turn.proofs.Entries.{entries_of-other, All-more, All-weaker}

-- the pass has the same number and entries
pub record IsSame {E B : Type 0} (v w : View E B) : Type 0 where
  pub live : w.live ≡ v.live
  pub number : w.number ≡ v.number
  pub own : w.own ≡ v.own
  pub birth : w.birth ≡ v.birth
  pub splits : w.splits ≡ v.splits
  pub kept : w.kept ≡ v.kept

pub clash : {l : Bool} → l ≡ true → l ≡ false → ⊥
clash lives dies = let both : true ≡ false = sym lives ∙ dies in cc both

-- a view that stood there, of the number of this one
pub record Stood {E B : Type 0} (views : List (View E B)) (by : ℕ) (u : View E B) : Type 0 where
  pub view : View E B
  pub at : IsAt views by view
  pub number : view.number ≡ u.number

module _ {V E B : Type 0} (history : V → List E) (born : V → B) (context : E → ℕ) (birth : B) (seats : ℕ)
    (homes : List (Maybe (Option V))) (views : List (View E B)) (h : Histories history born context birth seats homes views)
    (id : ℕ) (v : View E B) (at : IsAt views id v) where
  -- of a view after a change: it is the new one, or it stood there before
  pub who : (w : View E B) (by : ℕ) (u : View E B) → IsAt (set views id w) by u → ((by ≡ id) × (w ≡ u)) ⊎ ((by ≢ id) × IsAt views by u)
  who w by u e = ⊎_elim (λ p. inl p) (λ p. inr (p.0, (p.1, e.1))) (at_set views id by w u e.0)

  -- a pass goes on, or has seen more
  pub moved : (w : View E B) → IsSame v w → IsPrefix w.seen h.all → IsPrefix w.told h.all → ((t : ℕ) → w.stage ≡ Holding t → w.seen ≡ h.all)
      → (homes' : List (Maybe (Option V))) → ((y : Option V) → homes' ≡ some y ∷ [] → homes ≡ some y ∷ [])
      → Histories history born context birth seats homes' (set views id w)
  moved w same seen told hand homes' back = record {
    all = h.all;
    splits = h.splits;
    kept = h.kept;
    few = h.few;
    home = λ y e. h.home y (back y e);
    each = λ by u e. ⊎_elim (λ p. subst (Knows context birth h.all) p.1 knows) (λ p. h.each by u p.1) (who w by u e);
    dead = λ by u e no. ⊎_elim (λ p. absurd (clash (same.live ∙ at.1) (ap (λ (x : View E B). x.live) p.1 ∙ no)))
        (λ p. h.dead by u p.1 no) (at_set views id by w u e);
    hand = λ by t u e s. ⊎_elim (λ p. ap (λ (x : View E B). x.seen) (sym p.1) ∙ hand t (ap (λ (x : View E B). x.stage) p.1 ∙ s))
        (λ p. h.hand by t u p.1 s) (who w by u e);
    apart = λ i j u x e f n. ⊎_elim
        (λ p. ⊎_elim (λ q. p.0 ∙ sym q.0) (λ q. p.0 ∙ h.apart id j v x at q.1 (number u p.1 ∙ n)) (who w j x f))
        (λ p. ⊎_elim (λ q. h.apart i id u v p.1 at (n ∙ sym (number x q.1)) ∙ sym q.0) (λ q. h.apart i j u x p.1 q.1 n) (who w j x f))
        (who w i u e);
    first = λ by u e n. ⊎_elim
        (λ p. let old = h.first id v at (number u p.1 ∙ n) in (
          ap (λ (x : View E B). x.splits) (sym p.1) ∙ (same.splits ∙ old.0),
          ap (λ (x : View E B). x.kept) (sym p.1)
              ∙ (same.kept ∙ old.1),
        ))
        (λ p. h.first by u p.1 n) (who w by u e);
    others = λ by u e n. ⊎_elim
        (λ p. subst (λ (k : ℕ). (k < h.splits) × HasNone h.kept k) (number u p.1) (h.others id v at (λ s. n (sym (number u p.1) ∙ s))))
        (λ p. h.others by u p.1 n) (who w by u e);
    joins = h.joins;
    unused = h.unused;
  }
    where
      old_knows : Knows context birth h.all v
      old_knows = h.each id v at

      knows : Knows context birth h.all w
      knows = record {
        seen = seen;
        told = told;
        own = same.own ∙ (old_knows.own ∙ ap (entries_of context h.all) (sym same.number));
        birth = same.birth ∙ old_knows.birth;
      }

      number : (u : View E B) → w ≡ u → v.number ≡ u.number
      number u e = sym same.number ∙ ap (λ (x : View E B). x.number) e

  -- another pass has another number
  differs : (by : ℕ) (u : View E B) → by ≢ id → IsAt views by u → u.number ≢ v.number
  differs by u off e n = off (h.apart by id u v e at n)

  kept_differs : HasNone h.kept v.number
  kept_differs = elim (cases_eq v.number seats) [
    | inl same ↦ All-weaker (λ (k : ℕ × List E). (k.0 < h.splits) × (k.1 ≡ entries_of context h.all k.0))
        (λ (k : ℕ × List E). k.0 ≢ v.number) (λ k p e. let few = h.few in let less = p.0 in omega arith) h.kept h.joins
    | inr other ↦ (h.others id v at other).1
  ]

  unused_differs : (n : ℕ) → ((h.splits ≤ n) × (n < seats)) ⊎ (seats < n) → n ≢ v.number
  unused_differs n range e = elim (cases_eq v.number seats) [
    | inl same ↦ ⊎_elim (λ p. let a = p.1 in omega arith) (λ p. omega arith) range
    | inr other ↦ let less = (h.others id v at other).0 in let few = h.few in
        ⊎_elim (λ p. let a = p.0 in omega arith) (λ p. omega arith) range
  ]

  -- the pass that holds the value gives it home, with entries of its ours number more
  pub gave : (t : ℕ) → v.stage ≡ Holding t → (x : V) (more : List E) → history x ≡ v.seen ++ more
      → AllByRecursion (λ e. context e ≡ v.number) more → born x ≡ birth
      → ((by s : ℕ) (u : View E B) → by ≢ id → IsAt views by u → u.stage ≡ Holding s → ⊥)
      → (w : View E B) → w ≡ record v { stage = Idle; seen = history x; own = entries_of context (history x) v.number }
      → Histories history born context birth seats (some (Some x) ∷ []) (set views id w)
  gave t stage x more is ours birth_is one_hand w w_is = record {
    all = history x;
    splits = h.splits;
    kept = h.kept;
    few = h.few;
    home = λ y e. (x, sym (some-injective _ _ (head_is y e)), refl, birth_is);
    each = λ by u e. ⊎_elim (λ p. subst (Knows context birth (history x)) p.1 knows) (λ p. later by u p.0 p.1) (who w by u e);
    dead = λ by u e no. ⊎_elim (λ p. absurd (clash (ap (λ (y : View E B). y.live) w_is ∙ at.1) (ap (λ (y : View E B). y.live) p.1
        ∙ no))) (λ p. h.dead by u p.1 no) (at_set views id by w u e);
    hand = λ by s u e f. ⊎_elim (λ p. absurd (idle s (ap (λ (y : View E B). y.stage) p.1 ∙ f)))
        (λ p. absurd (one_hand by s u p.0 p.1 f)) (who w by u e);
    apart = λ i j u y e f n. ⊎_elim
        (λ p. ⊎_elim (λ q. p.0 ∙ sym q.0) (λ q. p.0 ∙ h.apart id j v y at q.1 (number u p.1 ∙ n)) (who w j y f))
        (λ p. ⊎_elim (λ q. h.apart i id u v p.1 at (n ∙ sym (number y q.1)) ∙ sym q.0) (λ q. h.apart i j u y p.1 q.1 n) (who w j y f))
        (who w i u e);
    first = λ by u e n. ⊎_elim
        (λ p. let old = h.first id v at (number u p.1 ∙ n) in (
          ap (λ (y : View E B). y.splits) (sym p.1) ∙ (ap (λ (y : View E B). y.splits) w_is ∙ old.0),
          ap (λ (y : View E B). y.kept) (sym p.1) ∙ (ap (λ (y : View E B). y.kept) w_is ∙ old.1),
        ))
        (λ p. h.first by u p.1 n) (who w by u e);
    others = λ by u e n. ⊎_elim
        (λ p. subst (λ (k : ℕ). (k < h.splits) × HasNone h.kept k) (number u p.1) (h.others id v at (λ s. n (sym (number u p.1) ∙ s))))
        (λ p. h.others by u p.1 n) (who w by u e);
    joins = All-more (λ (k : ℕ × List E). (k.0 < h.splits) × (k.1 ≡ entries_of context h.all k.0))
        (λ (k : ℕ × List E). k.0 ≢ v.number) (λ (k : ℕ × List E). (k.0 < h.splits) × (k.1 ≡ entries_of context (history x) k.0))
        (λ k p q. (p.0, p.1 ∙ sym (elsewhere k.0 q))) h.kept h.joins kept_differs;
    unused = λ n range. elsewhere n (unused_differs n range) ∙ h.unused n range;
  }
    where
      whole : history x ≡ h.all ++ more
      whole = is ∙ ap (λ (l : List E). l ++ more) (h.hand id t v at stage)

      elsewhere : (n : ℕ) → n ≢ v.number → entries_of context (history x) n ≡ entries_of context h.all n
      elsewhere n ne = ap (λ (l : List E). entries_of context l n) whole ∙ entries_of-other context v.number n h.all more ours ne

      longer_all : (l : List E) → IsPrefix l h.all → IsPrefix l (history x)
      longer_all l p = subst (IsPrefix l) (sym whole) (prefix_more l h.all more p)

      head_is : (y : Option V) → some (Some x) ∷ [] ≡ some y ∷ [] → some (Some x) ≡ some y
      head_is y e = cc e

      knows : Knows context birth (history x) w
      knows =
          let old = h.each id v at in
          subst (Knows context birth (history x)) (sym w_is) (record {
            seen = ([], append-nil (history x));
            told = longer_all v.told old.told;
            own = refl;
            birth = old.birth;
          })

      later : (by : ℕ) (u : View E B) → by ≢ id → IsAt views by u → Knows context birth (history x) u
      later by u off e =
          let old = h.each by u e in
          record {
            seen = longer_all u.seen old.seen;
            told = longer_all u.told old.told;
            own = old.own ∙ sym (elsewhere u.number (differs by u off e));
            birth = old.birth;
          }

      idle : (s : ℕ) → w.stage ≡ Holding s → ⊥
      idle s e = let both : Idle ≡ Holding s = ap (λ (y : View E B). y.stage) (sym w_is) ∙ e in cc both

      number : (u : View E B) → w ≡ u → v.number ≡ u.number
      number u e = ap (λ (y : View E B). y.number) (sym w_is) ∙ ap (λ (y : View E B). y.number) e
