-- What a pass may do, with the slots that it has.
use Rattle.std.proofs.Common.{◌≡◌, ℕ, ◌+◌, ◌%◌, ◌^◌, ◌<◌, ◌==◌, List, [], ◌∷◌, sym, ap}
use Rattle.std.proofs.Common.{◌∙◌, subst}
use Rattle.std.specs.declared.option.Option.{Option}
use Rattle.std.specs.declared.option.Option.TheVariants.{Some}
use mathlib.Core.Option.{none}
use prog.Atomic.{either}
use Rattle.atomic_table.specs.Table.{State, Me, Allows, Splits, Joins, step}
use Rattle.atomic_table.specs.Table.{rest}
use Rattle.nt_turn.specs.declared.view.View.{View}
use Rattle.nt_turn.specs.View.{spent, split_off, after_split, joined}
use Rattle.nt_turn.specs.Steps.{Drew, Looked, Gave, Learned, HoldsNothing, IsWaiting, IsHolding}
use Rattle.nt_turn.specs.Pass.{Adds, pass_state}
use Rattle.atomic_table.specs.Seated.{TableId}
use Rattle.nt_turn.proofs.Splits.{joins, splits}
use Rattle.nt_turn.proofs.Moves.{Rule, draws, gives_back, learns, looks}

module _ {V E B : Type 0} (history : V → List E) (born : V → B) (context : E → ℕ) (birth : B) (seats : ℕ) where
  abbrev Kept : State (Option V) (View E B) → Type 0
  Kept = Rule history born context birth seats

  pub me_draws : (slots id old : ℕ) (me : Me (Option V) (View E B)) → HoldsNothing me → old + 1 < 2 ^ 64
      → Allows Kept slots id me 0 (λ n. either (n == old) (old + 1) n) (Drew (step slots 0 old (old + 1) none) me)
  me_draws slots id old me idle room =
      subst (λ (m : Me (Option V) (View E B)). Allows Kept slots id m 0 (λ n. either (n == old) (old + 1) n)
      (Drew (step slots 0 old (old + 1) none) m))
      (ap (λ (l : List (ℕ × Option V)). (me.0, l)) (sym idle.none))
      (draws history born context birth seats slots id old me.0 idle.live idle.stage room)

  pub me_looks : (slots id t : ℕ) (me : Me (Option V) (View E B)) → IsWaiting t me
      → Allows Kept slots id me 1 (λ n. n) (Looked history born context (step slots 1 0 0 none) me)
  me_looks slots id t me waits =
      subst (λ (m : Me (Option V) (View E B)). Allows Kept slots id m 1 (λ n. n) (Looked history born context (step slots 1 0 0 none) m))
      (ap (λ (l : List (ℕ × Option V)). (me.0, l)) (sym waits.none))
      (looks history born context birth seats slots id t me.0 waits.live waits.stage)

  pub me_learns : (slots id : ℕ) (me : Me (Option V) (View E B)) → HoldsNothing me
      → Allows Kept slots id me 1 (λ n. n) (Learned (step slots 1 0 0 none) me)
  me_learns slots id me idle =
      subst (λ (m : Me (Option V) (View E B)). Allows Kept slots id m 1 (λ n. n) (Learned (step slots 1 0 0 none) m))
      (ap (λ (l : List (ℕ × Option V)). (me.0, l)) (sym idle.none))
      (learns history born context birth seats slots id me.0 idle.live idle.stage)

  -- what is asked of a pass that has put a value into its slot
  pub put_gives : (slots id : ℕ) (turn : TableId) (old me : Me (Option V) (View E B)) (x : V) → IsHolding old
      → Adds context (pass_state turn old.0) (history x) → old.0.birth ≡ Some (born x)
      → me ≡ (old.0, (0, Some x) ∷ rest old.1)
      → Allows Kept slots id me 1 (λ n. (n + 1) % 2 ^ 64) (Gave history context (step slots 1 1 0 none) me)
  put_gives slots id turn old me x holding adds birth_is is =
      let none_more : rest old.1 ≡ [] = ap rest holding.out in
      let at : me ≡ (old.0, (0, Some x) ∷ []) = is ∙ ap (λ (l : List (ℕ × Option V)). (old.0, (0, Some x) ∷ l)) none_more in
      subst (λ (m : Me (Option V) (View E B)). Allows Kept slots id m 1 (λ n. (n + 1) % 2 ^ 64)
      (Gave history context (step slots 1 1 0 none) m)) (sym at)
      (gives_back history born context birth seats slots id holding.ticket old.0 x adds.more
      holding.live holding.stage adds.whole adds.ours birth_is)

  pub me_splits : (id : ℕ) (me : Me (Option V) (View E B)) → HoldsNothing me → me.0.number ≡ seats → me.0.splits < seats
      → Splits Kept id me.0 (after_split me.0) (split_off me.0)
  me_splits id me idle one room = splits history born context birth seats id me.0 idle.live one room

  pub me_joins : (id other : ℕ) (me her : Me (Option V) (View E B)) → HoldsNothing me → HoldsNothing her → me.0.number ≡ seats
      → Joins Kept id me.0 other her.0 (joined me.0 her.0) spent
  me_joins id other me her idle hers one = joins history born context birth seats id other me.0 her.0 idle.live hers.live one hers.stage

  pub me_learns_joined : (slots id : ℕ) (old : Me (Option V) (View E B)) (w : View E B) (me : Me (Option V) (View E B)) → HoldsNothing old
      → me ≡ (joined old.0 w, old.1)
      → Allows Kept slots id me 1 (λ n. n) (Learned (step slots 1 0 0 none) me)
  me_learns_joined slots id old w me idle is =
      me_learns slots id me (subst (λ (m : Me (Option V) (View E B)). HoldsNothing m) (sym is) (record {
        live = idle.live;
        stage = idle.stage;
        none = idle.none;
      }))
