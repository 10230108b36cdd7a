-- The rule holds at the start.
use Rattle.std.proofs.Common.{◌≡◌, inl, ℕ, zero, suc, List, [], ◌∷◌, refl, sym, ap, ◌∙◌, subst, arith}
use Rattle.std.specs.declared.option.Option.{Option}
use Rattle.std.specs.declared.option.Option.TheVariants.{Some}
use mathlib.Core.Option.{Option as Maybe, some, some-injective, some-ne-none}
use lib.ListN.{get_elem?}
use Rattle.nt_turn.specs.declared.view.Stage.{Stage}
use Rattle.nt_turn.specs.declared.view.Stage.TheVariants.{Idle, Holding}
use Rattle.nt_turn.specs.declared.view.View.{View}
use Rattle.nt_turn.specs.Tickets.{HasTicket, Ordered}
use Rattle.nt_turn.specs.View.{newcomer}
use Rattle.nt_turn.specs.Rule.{Knows, Histories, InTurn}
use Rattle.nt_turn.proofs.Prefixes.{prefix_none}

-- a list of one has that one
one_of : {A : Type 0} (a b : A) (i : ℕ) → get_elem? (a ∷ []) i ≡ some b → (i ≡ 0) × (a ≡ b)
one_of a b zero e = (refl, some-injective a b e)
one_of a b (suc i) e = absurd (some-ne-none b (sym e))

none_has : (t : ℕ) (s : Stage) → Idle ≡ s → HasTicket t s → ⊥
none_has t s is has = subst (HasTicket t) (sym is) has

idle : {A : Type 0} (t : ℕ) → Idle ≡ Holding t → A
idle t e = absurd cc

opened : {A : Type 0} (x : A) → Ordered 0 0 (some x ∷ []) (Idle ∷ [])
opened x = record {
  fits = omega arith;
  order = omega arith;
  range = λ by t v e has. absurd (none_has t v (one_of Idle v by e).1 has);
  apart = λ i j t v w e f hv hw. absurd (none_has t v (one_of Idle v i e).1 hv);
  holding = λ by t e. idle t (one_of Idle (Holding t) by e).1;
  home = inl (x, refl);
}

module _ {V E B : Type 0} (history : V → List E) (born : V → B) (context : E → ℕ) (seats : ℕ) (x first : V) where
  fresh : View E B
  fresh = newcomer seats (born first)

  begun : history x ≡ [] → first ≡ x → Histories history born context (born first) seats (some (Some x) ∷ [])
      (newcomer seats (born first) ∷ [])
  begun none_yet same = record {
    all = [];
    splits = 0;
    kept = [];
    few = omega arith;
    home = λ y e. (x, some-injective _ _ (cc e), none_yet, ap born (sym same));
    each = λ by v e. subst (Knows context (born first) []) (one_of _ v by e.0).1 (record {
      seen = prefix_none [];
      told = prefix_none [];
      own = refl;
      birth = refl;
    });
    dead = λ by v e no. ap (λ (u : View E B). u.stage) (sym (one_of _ v by e).1);
    hand = λ by t v e s. ap (λ (u : View E B). u.seen) (sym (one_of _ v by e.0).1);
    apart = λ i j v w e f n. (one_of _ v i e.0).0 ∙ sym (one_of _ w j f.0).0;
    first = λ by v e n. (
      ap (λ (u : View E B). u.splits) (sym (one_of _ v by e.0).1),
      ap (λ (u : View E B). u.kept)
          (sym (one_of _ v by e.0).1),
    );
    others = λ by v e n. absurd (n (ap (λ (u : View E B). u.number) (sym (one_of _ v by e.0).1)));
    joins = tt;
    unused = λ n range. refl;
  }

  pub opens : (homes : List (Maybe (Option V))) → homes ≡ some (Some x) ∷ [] → history x ≡ [] → first ≡ x
      → InTurn history born context (born first) seats (0 ∷ 0 ∷ []) homes (newcomer seats (born first) ∷ [])
  opens homes is none_yet same =
      subst (λ (l : List (Maybe (Option V))). InTurn history born context (born first) seats (0 ∷ 0 ∷ []) l
      (newcomer seats (born first) ∷ [])) (sym is)
      (0, 0, refl, opened (Some x), begun none_yet same)
