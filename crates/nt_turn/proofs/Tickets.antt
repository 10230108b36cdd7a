-- Each step keeps the order of tickets.
use Rattle.std.proofs.Common.{◌≡◌, ◌≢◌, inl, inr, ⊎_elim, ℕ, zero, suc, ◌+◌, ◌^◌, ◌<◌, ◌≤◌, List, [], ◌∷◌, ◌++◌, set, refl, sym, ap, ◌∙◌}
use Rattle.std.proofs.Common.{subst, arith}
use Rattle.std.proofs.lemmas.Bool.{cases_eq}
use mathlib.Core.Option.{Option as Maybe, some, none, some-injective, some-ne-none}
use lib.ListN.{get_elem?}
use Rattle.atomic_table.proofs.Lists.{at_set, set_else, at_snoc, at_longer}
use Rattle.nt_turn.specs.declared.view.Stage.{Stage}
use Rattle.nt_turn.specs.declared.view.Stage.TheVariants.{Idle, Waiting, Holding}
use Rattle.nt_turn.specs.Tickets.{HasTicket, Ordered}

abbrev first_of : {A : Type 0} → List (Maybe A) → Maybe A
first_of [] = none
first_of (x ∷ xs) = x

pub put_there : (l : List Stage) (i : ℕ) (a b : Stage) → get_elem? l i ≡ some b → get_elem? (set l i a) i ≡ some a
put_there [] i a b e = absurd (some-ne-none b (sym e))
put_there (x ∷ xs) zero a b e = refl
put_there (x ∷ xs) (suc i) a b e = put_there xs i a b e

module _ {A : Type 0} (next serving : ℕ) (homes : List (Maybe A)) (views : List Stage) (h : Ordered next serving homes views) (id : ℕ) where
  -- an idle pass draws the next ticket
  pub drawn : next + 1 < 2 ^ 64 → get_elem? views id ≡ some Idle → Ordered (next + 1) serving homes (set views id (Waiting next))
  drawn room at = record {
    fits = room;
    order = omega (arith, h.order);
    range = λ by t v e has. ⊎_elim (λ p. own t v p.1 has) (λ p. let r = h.range by t v p.1 has in (r.0, omega arith))
        (at_set views id by (Waiting next) v e);
    apart = λ i j t v w e f hv hw. ⊎_elim
        (λ p. ⊎_elim (λ q. p.0 ∙ sym q.0) (λ q. absurd (new t v w j p.1 q.1 hv hw)) (at_set views id j (Waiting next) w f))
        (λ p. ⊎_elim (λ q. absurd (new t w v i q.1 p.1 hw hv)) (λ q. h.apart i j t v w p.1 q.1 hv hw)
        (at_set views id j (Waiting next) w f))
        (at_set views id i (Waiting next) v e);
    holding = λ by t e. ⊎_elim (λ p. absurd (cc (p.1))) (λ p. h.holding by t p.1) (at_set views id by (Waiting next) (Holding t) e);
    home = ⊎_elim (λ x. inl x) (λ x. inr (
      x.0,
      (
        x.1.0,
        set_else views id x.1.0 (Waiting next) (λ same. other x.1.0 x.1.1 same)
            ∙ x.1.1,
      ),
    )) h.home;
  }
    where
      own : (t : ℕ) (v : Stage) → Waiting next ≡ v → HasTicket t v → (serving ≤ t) × (t < next + 1)
      own t v is has = let e : t ≡ next = subst (HasTicket t) (sym is) has in (omega (arith, h.order), omega arith)

      new : (t : ℕ) (v w : Stage) (j : ℕ) → Waiting next ≡ v → get_elem? views j ≡ some w → HasTicket t v → HasTicket t w → ⊥
      new t v w j is f hv hw = let e : t ≡ next = subst (HasTicket t) (sym is) hv in let r = h.range j t w f hw in omega (arith, r.1)

      other : (by : ℕ) → get_elem? views by ≡ some (Holding serving) → by ≡ id → ⊥
      other by e same = let both : some (Holding serving) ≡ some Idle =
          sym e ∙ (ap (get_elem? views) same ∙ at) in cc (some-injective _ _ both)

  -- a pass whose ticket is served takes the value
  pub taken : (x : A) → homes ≡ some x ∷ [] → get_elem? views id ≡ some (Waiting serving) → Ordered {A =
      A} next serving (none ∷ []) (set views id (Holding serving))
  taken x is at = record {
    fits = h.fits;
    order = h.order;
    range = λ by t v e has. ⊎_elim (λ p. h.range id t (Waiting serving) at (own t v p.1 has)) (λ p. h.range by t v p.1 has)
        (at_set views id by (Holding serving) v e);
    apart = λ i j t v w e f hv hw. ⊎_elim
        (λ p. ⊎_elim (λ q. p.0 ∙ sym q.0) (λ q. p.0 ∙ h.apart id j t (Waiting serving) w at q.1 (own t v p.1 hv) hw)
        (at_set views id j (Holding serving) w f))
        (λ p. ⊎_elim (λ q. h.apart i id t v (Waiting serving) p.1 at hv (own t w q.1 hw) ∙ sym q.0)
        (λ q. h.apart i j t v w p.1 q.1 hv hw) (at_set views id j (Holding serving) w f))
        (at_set views id i (Holding serving) v e);
    holding = λ by t e. ⊎_elim (λ p. (cc (p.1), refl)) (λ p. absurd (not_out (h.holding by t p.1).1))
        (at_set views id by (Holding serving) (Holding t) e);
    home = inr (refl, (id, put_there views id (Holding serving) (Waiting serving) at));
  }
    where
      own : (t : ℕ) (v : Stage) → Holding serving ≡ v → HasTicket t v → t ≡ serving
      own t v e has = subst (HasTicket t) (sym e) has

      not_out : homes ≡ none ∷ [] → ⊥
      not_out out = some-ne-none x (ap (λ (l : List (Maybe A)). first_of l) (sym is ∙ out))

  -- a pass that holds the value gives it back
  pub given : (x : A) → get_elem? views id ≡ some (Holding serving) → Ordered next (serving + 1) (some x ∷ []) (set views id Idle)
  given x at = record {
    fits = h.fits;
    order = omega (arith, (h.range id serving (Holding serving) at refl).1);
    range = λ by t v e has. ⊎_elim (λ p. absurd (subst (HasTicket t) (sym p.1) has)) (λ p. let r = h.range by t v p.1 has in
        (above by t v p.0 p.1 has r.0, r.1)) (at_set views id by Idle v e);
    apart = λ i j t v w e f hv hw. ⊎_elim
        (λ p. absurd (subst (HasTicket t) (sym p.1) hv))
        (λ p. ⊎_elim (λ q. absurd (subst (HasTicket t) (sym q.1) hw)) (λ q. h.apart i j t v w p.1 q.1 hv hw) (at_set views id j Idle w f))
        (at_set views id i Idle v e);
    holding = λ by t e. ⊎_elim (λ p. absurd (cc (p.1)))
        (λ p. absurd (p.0 (h.apart by id serving (Holding t) (Holding serving) p.1 at (sym (h.holding by t p.1).0) refl)))
        (at_set views id by Idle (Holding t) e);
    home = inl (x, refl);
  }
    where
      above : (by t : ℕ) (v : Stage) → by ≢ id → get_elem? views by ≡ some v → HasTicket t v → serving ≤ t → serving + 1 ≤ t
      above by t v off e has le = elim (cases_eq t serving) [
        | inl same ↦ absurd (off (h.apart by id t v (Holding serving) e at has same))
        | inr other ↦ omega arith
      ]

  -- an idle pass more
  pub widened : Ordered next serving homes (views ++ Idle ∷ [])
  widened = record {
    fits = h.fits;
    order = h.order;
    range = λ by t v e has. ⊎_elim (λ p. h.range by t v p has) (λ p. absurd (none_has t v p has)) (at_snoc views Idle v by e);
    apart = λ i j t v w e f hv hw. ⊎_elim
        (λ p. ⊎_elim (λ q. h.apart i j t v w p q hv hw) (λ q. absurd (none_has t w q hw)) (at_snoc views Idle w j f))
        (λ p. absurd (none_has t v p hv))
        (at_snoc views Idle v i e);
    holding = λ by t e. ⊎_elim (λ p. h.holding by t p) (λ p. absurd (none_has t (Holding t) p refl)) (at_snoc views Idle (Holding t) by e);
    home = ⊎_elim (λ x. inl x) (λ x. inr (x.0, (x.1.0, at_longer views (Idle ∷ []) x.1.0 (Holding serving) x.1.1))) h.home;
  }
    where
      none_has : (t : ℕ) (v : Stage) → Idle ≡ v → HasTicket t v → ⊥
      none_has t v is has = subst (HasTicket t) (sym is) has
