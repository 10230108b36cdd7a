-- A pass is split, and one is joined, under the rule.
use Rattle.std.proofs.Common.{◌≡◌, ℕ, ◌<◌, true, List, [], ◌∷◌, ◌++◌, set, refl, sym, ap}
use Rattle.std.proofs.Common.{◌∙◌, subst}
use mathlib.Core.Option.{some}
use lib.ListN.{get_elem?}
use Rattle.atomic_table.specs.Table.{Splits, Joins}
use Rattle.atomic_table.proofs.Lists.{set_again}
use Rattle.nt_turn.specs.declared.view.Stage.{Stage}
use Rattle.nt_turn.specs.declared.view.Stage.TheVariants.{Idle}
use Rattle.nt_turn.specs.declared.view.View.{View}
use Rattle.nt_turn.specs.Tickets.{Ordered}
use Rattle.nt_turn.specs.View.{spent, split_off, after_split, joined, stages}
use Rattle.nt_turn.proofs.Tickets.{widened}
use Rattle.nt_turn.proofs.Stages.{stages_set, stages_snoc, stage_at}
use Rattle.nt_turn.proofs.Members.{split, join}
use Rattle.nt_turn.proofs.Moves.{Rule}

module _ {V E B : Type 0} (history : V → List E) (born : V → B) (context : E → ℕ) (birth : B) (seats : ℕ) where
  -- a change that keeps the stage keeps the stages
  same_stages : (views : List (View E B)) (id : ℕ) (v w : View E B) → get_elem? views id ≡ some v → w.stage ≡ v.stage
      → stages (set views id w) ≡ stages views
  same_stages views id v w at same = stages_set views id w
      ∙ (ap (λ (t : Stage). set (stages views) id t) same ∙ set_again (stages views) id v.stage (stage_at views id v at))

  pub splits : (id : ℕ) (v : View E B) → v.live ≡ true → v.number ≡ seats → v.splits < seats
      → Splits (Rule history born context birth seats) id v (after_split v) (split_off v)
  splits id v live one room s kept at =
      let there : stages (set s.views id (after_split v)) ≡ stages s.views = same_stages s.views id v (after_split v) at refl in
      let all : stages s.views ++ Idle ∷ [] ≡ stages (set s.views id (after_split v) ++ split_off v ∷ []) =
      ap (λ (l : List Stage). l ++ Idle ∷ []) (sym there) ∙ sym (stages_snoc (set s.views id (after_split v)) (split_off v)) in
      let tickets = subst (λ (l : List Stage). Ordered kept.0 kept.1 s.homes l) all
      (widened kept.0 kept.1 s.homes (stages s.views) kept.3 0) in
      (kept.0, kept.1, kept.2, tickets, split history born context birth seats s.homes s.views kept.4 id v (at, live) one room)

  pub joins : (id other : ℕ) (v w : View E B) → v.live ≡ true → w.live ≡ true → v.number ≡ seats → w.stage ≡ Idle
      → Joins (Rule history born context birth seats) id v other w (joined v w) spent
  joins id other v w live hers one idle s kept at off there =
      let first : stages (set s.views id (joined v w)) ≡ stages s.views = same_stages s.views id v (joined v w) at refl in
      let all : stages (set (set s.views id (joined v w)) other spent) ≡ stages s.views =
      same_stages (set s.views id (joined v w)) other w spent there (sym idle) ∙ first in
      let tickets = subst (λ (l : List Stage). Ordered kept.0 kept.1 s.homes l) (sym all) kept.3 in (
        kept.0,
        kept.1,
        kept.2,
        tickets,
        join history born context birth seats s.homes s.views kept.4 id v (at, live) one other w
            off (there, hers),
      )
