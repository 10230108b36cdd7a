-- Splitting and joining passes keeps one history.
use Rattle.std.proofs.Common.{◌≡◌, ◌≢◌, ◌⊎◌, inl, inr, ⊎_elim, ℕ, ◌+◌, ◌<◌, true, false, List, [], ◌∷◌, ◌++◌, length, set, refl, sym, ap}
use Rattle.std.proofs.Common.{◌∙◌, subst, arith}
use Rattle.std.proofs.lemmas.Bool.{cases_eq}
use Rattle.std.specs.declared.option.Option.{Option}
use mathlib.Core.Option.{Option as Maybe}
use Rattle.atomic_table.proofs.Lists.{at_set}
use Rattle.nt_turn.proofs.Stages.{at_end}
use Rattle.nt_turn.specs.declared.view.Stage.TheVariants.{Idle, Holding}
use Rattle.nt_turn.specs.declared.view.View.{View}
use Rattle.nt_turn.specs.History.{entries_of, HasNone}
use Rattle.nt_turn.specs.View.{spent, split_off, after_split, joined, IsAt}
use Rattle.nt_turn.specs.Rule.{Knows, Histories}
use Rattle.nt_turn.proofs.Prefixes.{prefix_none}
use Rattle.nt_turn.proofs.Entries.{All-weaker, All-snoc}
use Rattle.nt_turn.proofs.Histories as histories
use Rattle.nt_turn.proofs.Histories.{Stood, clash}

module _ {V E B : Type 0} (history : V → List E) (born : V → B) (context : E → ℕ) (birth : B) (seats : ℕ)
    (homes : List (Maybe (Option V))) (views : List (View E B)) (h : Histories history born context birth seats homes views)
    (id : ℕ) (v : View E B) (at : IsAt views id v) where
  who : (w : View E B) (by : ℕ) (u : View E B) → IsAt (set views id w) by u → ((by ≡ id) × (w ≡ u)) ⊎ ((by ≢ id) × IsAt views by u)
  who = histories.who history born context birth seats homes views h id v at

  -- the first pass cuts off a new one, of the next number
  pub split : v.number ≡ seats → v.splits < seats → Histories history born context birth seats homes (set views id (after_split v)
      ++ split_off v ∷ [])
  split one room = record {
    all = h.all;
    splits = h.splits + 1;
    kept = h.kept;
    few = let splits = firsts.0 in omega arith;
    home = h.home;
    each = λ by u e. elim (which by u e) [
      | inl p ↦ subst (Knows context birth h.all) p.1 (record {
        seen = knows.seen;
        told = prefix_none h.all;
        own = none;
        birth = knows.birth;
      })
      | inr p ↦ ⊎_elim (λ q. subst (Knows context birth h.all) q.1 (record {
        seen = knows.seen;
        told = knows.told;
        own = knows.own;
        birth = knows.birth;
      })) (λ q. h.each by u q.1) p
    ];
    dead = λ by u e no. ⊎_elim (λ p. ⊎_elim (λ q. absurd (clash at.1 (ap (λ (y : View E B). y.live) q.1 ∙ no)))
        (λ q. h.dead by u q.1 no) (at_set views id by (after_split v) u p))
        (λ p. absurd (clash {l = true} refl (ap (λ (y : View E B). y.live) p.1 ∙ no)))
        (at_end (set views id (after_split v)) (split_off v) u by e);
    hand = λ by t u e s. elim (which by u e) [
      | inl p ↦ absurd (idle t (ap (λ (y : View E B). y.stage) p.1 ∙ s))
      | inr p ↦ ⊎_elim (λ q. ap (λ (y : View E B). y.seen) (sym q.1) ∙ h.hand id t v at (ap (λ (y : View E B). y.stage) q.1 ∙ s))
          (λ q. h.hand by t u q.1 s) p
    ];
    apart = λ i j u x e f n. elim (which i u e) [
      | inl p ↦ elim (which j x f) [
        | inl q ↦ p.0 ∙ sym q.0
        | inr q ↦ absurd (below j x q (sym n ∙ ap (λ (y : View E B). y.number) (sym p.1)))
      ]
      | inr p ↦ elim (which j x f) [
        | inl q ↦ absurd (below i u p (n ∙ ap (λ (y : View E B). y.number) (sym q.1)))
        | inr q ↦ let a = old i u p in let b = old j x q in h.apart i j a.view b.view a.at b.at (a.number ∙ (n ∙ sym b.number))
      ]
    ];
    first = λ by u e n. elim (which by u e) [
      | inl p ↦ absurd (apart_new u n p.1)
      | inr p ↦ ⊎_elim
          (λ q. (
            ap (λ (y : View E B). y.splits) (sym q.1) ∙ ap (λ (k : ℕ). k + 1) firsts.0,
            ap (λ (y : View E B). y.kept)
                (sym q.1) ∙ firsts.1,
          ))
          (λ q. absurd (q.0 (h.apart by id u v q.1 at (n ∙ sym one)))) p
    ];
    others = λ by u e n. elim (which by u e) [
      | inl p ↦ subst (λ (k : ℕ). (k < h.splits + 1) × HasNone h.kept k) (ap (λ (y : View E B). y.number) p.1) (
        let m = firsts.0 in
            omega arith,
        new_kept,
      )
      | inr p ↦
          let a = old by u p in
          let o = h.others by a.view a.at (λ s. n (sym a.number ∙ s)) in
          subst (λ (k : ℕ). (k < h.splits + 1) × HasNone h.kept k) a.number (let less = o.0 in omega arith, o.1)
    ];
    joins = All-weaker (λ (k : ℕ × List E). (k.0 < h.splits) × (k.1 ≡ entries_of context h.all k.0))
        (λ (k : ℕ × List E). (k.0 < h.splits + 1) × (k.1 ≡ entries_of context h.all k.0))
        (λ k p. (let a = p.0 in omega arith, p.1)) h.kept h.joins;
    unused = λ n range. h.unused n (⊎_elim (λ p. inl (let a = p.0 in omega arith, p.1)) (λ p. inr p) range);
  }
    where
      knows : Knows context birth h.all v
      knows = h.each id v at

      firsts : (v.splits ≡ h.splits) × (v.kept ≡ h.kept)
      firsts = h.first id v at one

      -- nothing is of the new number yet
      none : [] ≡ entries_of context h.all v.splits
      none = sym (h.unused v.splits (inl (let m = firsts.0 in omega arith, room)))

      idle : (t : ℕ) → Idle ≡ Holding t → ⊥
      idle t e = cc e

      apart_new : (u : View E B) → u.number ≡ seats → split_off v ≡ u → ⊥
      apart_new u n p = let e : v.splits ≡ seats = ap (λ (y : View E B). y.number) p ∙ n in omega arith

      new_kept : HasNone h.kept v.splits
      new_kept = All-weaker (λ (k : ℕ × List E). (k.0 < h.splits) × (k.1 ≡ entries_of context h.all k.0))
          (λ (k : ℕ × List E). k.0 ≢ v.splits) (λ k p e. let m = firsts.0 in let less = p.0 in omega arith) h.kept h.joins

      -- a view that stood there: of the same number
      old : (by : ℕ) (u : View E B) → ((by ≡ id) × (after_split v ≡ u)) ⊎ ((by ≢ id) × IsAt views by u) → Stood views by u
      old by u (inl q) = record {
        view = v;
        at = subst (λ (k : ℕ). IsAt views k v) (sym q.0) at;
        number = ap (λ (y : View E B). y.number) q.1;
      }
      old by u (inr q) = record { view = u; at = q.1; number = refl }

      below : (by : ℕ) (u : View E B) → ((by ≡ id) × (after_split v ≡ u)) ⊎ ((by ≢ id) × IsAt views by u) → u.number ≡ v.splits → ⊥
      below by u p e =
          let a = old by u p in
          let is : a.view.number ≡ v.splits = a.number ∙ e in
          elim (cases_eq a.view.number seats) [
            | inl same ↦ omega arith
            | inr other ↦ let less = (h.others by a.view a.at other).0 in let m = firsts.0 in omega arith
          ]

      -- it is the new one, or the first, or another
      which : (by : ℕ) (u : View E B) → IsAt (set views id (after_split v) ++ split_off v ∷ []) by u
          → ((by ≡ length (set views id (after_split v))) × (split_off v ≡ u))
          ⊎ (((by ≡ id) × (after_split v ≡ u)) ⊎ ((by ≢ id) × IsAt views by u))
      which by u e = ⊎_elim (λ p. inr (who (after_split v) by u (p, e.1))) (λ p. inl p)
          (at_end (set views id (after_split v)) (split_off v) u by e.0)

  -- the first pass takes in another, whose entries are kept
  pub join : v.number ≡ seats → (other : ℕ) (w : View E B) → other ≢ id → IsAt (set views id (joined v w)) other w
      → Histories history born context birth seats homes (set (set views id (joined v w)) other spent)
  join one other w off e = record {
    all = h.all;
    splits = h.splits;
    kept = h.kept ++ (w.number, w.own) ∷ [];
    few = h.few;
    home = h.home;
    each = λ by u e. ⊎_elim (λ p. subst (Knows context birth h.all) p.1 (record {
      seen = knows.seen;
      told = hers.seen;
      own = knows.own;
      birth = knows.birth;
    })) (λ p. h.each by u p.1) (which by u e).1;
    dead = λ by u e no. ⊎_elim (λ p. ap (λ (y : View E B). y.stage) (sym p.1))
        (λ p. ⊎_elim (λ q. absurd (clash at.1 (ap (λ (y : View E B). y.live) q.1 ∙ no))) (λ q. h.dead by u q.1 no)
        (at_set views id by (joined v w) u p.1)) (at_set (set views id (joined v w)) other by spent u e);
    hand = λ by t u e s. ⊎_elim (λ p. ap (λ (y : View E B). y.seen) (sym p.1)
        ∙ h.hand id t v at (ap (λ (y : View E B). y.stage) p.1 ∙ s)) (λ p. h.hand by t u p.1 s) (which by u e).1;
    apart = λ i j u x e f n. let a = old i u (which i u e).1 in let b = old j x (which j x f).1 in
        h.apart i j a.view b.view a.at b.at (a.number ∙ (n ∙ sym b.number));
    first = λ by u e n. ⊎_elim
        (λ q. let m = h.first id v at one in (
          ap (λ (y : View E B). y.splits) (sym q.1)
              ∙ m.0,
          ap (λ (y : View E B). y.kept) (sym q.1) ∙ ap (λ (l : List (ℕ × List E)). l ++ (w.number, w.own) ∷ []) m.1,
        ))
        (λ q. absurd (q.0 (h.apart by id u v q.1 at (n ∙ sym one)))) (which by u e).1;
    others = λ by u e n.
        let a = old by u (which by u e).1 in
        let o = h.others by a.view a.at (λ s. n (sym a.number ∙ s)) in
        let ne : w.number ≢ a.view.number = λ s. (which by u e).0 (h.apart by other a.view w a.at her_at (sym s)) in
        subst (λ (k : ℕ). (k < h.splits) × HasNone (h.kept ++ (w.number, w.own) ∷ []) k) a.number
        (o.0, All-snoc (λ (k : ℕ × List E). k.0 ≢ a.view.number) h.kept (w.number, w.own) o.1 ne);
    joins = All-snoc (λ (k : ℕ × List E). (k.0 < h.splits) × (k.1 ≡ entries_of context h.all k.0)) h.kept (w.number, w.own) h.joins
        (hers_other.0, hers.own);
    unused = h.unused;
  }
    where
      knows : Knows context birth h.all v
      knows = h.each id v at

      her_at : IsAt views other w
      her_at = ⊎_elim (λ p. absurd (off p.0)) (λ p. p.1) (who (joined v w) other w e)

      hers : Knows context birth h.all w
      hers = h.each other w her_at

      hers_other : (w.number < h.splits) × HasNone h.kept w.number
      hers_other = h.others other w her_at (λ s. off (h.apart other id w v her_at at (s ∙ sym one)))

      dead : (u : View E B) → spent ≡ u → u.live ≡ true → ⊥
      dead u is live = let no : false ≡ true = ap (λ (y : View E B). y.live) is ∙ live in cc no

      -- what is there is the first pass, or another that stood there
      which : (by : ℕ) (u : View E B) → IsAt (set (set views id (joined v w)) other spent) by u
          → (by ≢ other) × (((by ≡ id) × (joined v w ≡ u)) ⊎ ((by ≢ id) × IsAt views by u))
      which by u e = ⊎_elim (λ p. absurd (dead u p.1 e.1)) (λ p. (p.0, who (joined v w) by u (p.1, e.1)))
          (at_set (set views id (joined v w)) other by spent u e.0)

      old : (by : ℕ) (u : View E B) → ((by ≡ id) × (joined v w ≡ u)) ⊎ ((by ≢ id) × IsAt views by u) → Stood views by u
      old by u (inl q) = record {
        view = v;
        at = subst (λ (k : ℕ). IsAt views k v) (sym q.0) at;
        number = ap (λ (y : View E B). y.number) q.1;
      }
      old by u (inr q) = record { view = u; at = q.1; number = refl }
