-- What stands in the slot once all passes were joined.
use Rattle.std.proofs.Common.{◌≡◌, ◌≢◌, ◌⊎◌, inl, inr, ⊎_elim, ℕ, ◌<◌, ◌≤◌, Bool, true, false, List, [], ◌∷◌, refl, sym, ap, ◌∙◌, subst}
use Rattle.std.proofs.Common.{arith}
use Rattle.std.specs.List.{AllByRecursion}
use Rattle.std.proofs.lemmas.Bool.{cases_eq, cases_lt}
use Rattle.std.proofs.Math.Nat.{eq-or-lt_of_le}
use Rattle.std.specs.declared.option.Option.{Option}
use Rattle.std.specs.declared.option.Option.TheVariants.{Some}
use mathlib.Core.Option.{Option as Maybe, some, some-injective}
use mathlib.Core.List.{IsPrefix}
use lib.ListN.{get_elem?}
use Rattle.atomic_table.specs.Table.{Me, Final, Seen}
use Rattle.nt_turn.specs.declared.view.Stage.TheVariants.{Idle, Holding}
use Rattle.nt_turn.specs.declared.view.View.{View}
use Rattle.nt_turn.specs.Tickets.{IsHome, Ordered}
use Rattle.nt_turn.specs.History.{entries_of, HasNone}
use Rattle.nt_turn.specs.View.{IsAt, stages}
use Rattle.nt_turn.specs.Steps.{HoldsNothing}
use Rattle.nt_turn.specs.Pass.{AllJoined, Closes, pass_state}
use Rattle.atomic_table.specs.Seated.{TableId}
use Rattle.nt_turn.specs.Rule.{Histories}
use Rattle.nt_turn.proofs.Stages.{view_at}
use Rattle.nt_turn.proofs.Entries.{All-weaker}
use Rattle.nt_turn.proofs.Moves.{Rule}

module _ {V E B : Type 0} (history : V → List E) (born : V → B) (context : E → ℕ) (birth : B) (seats next serving : ℕ)
    (homes : List (Maybe (Option V))) (views : List (View E B)) (o : Ordered next serving homes (stages views))
    (h : Histories history born context birth seats homes views) (id : ℕ) (turn : TableId) (v : View E B) (at : IsAt views id v)
    (idle : v.stage ≡ Idle) (one : v.number ≡ seats) (all : AllJoined (pass_state turn v)) where
  firsts : (v.splits ≡ h.splits) × (v.kept ≡ h.kept)
  firsts = h.first id v at one

  -- no pass holds the value
  free : (by : ℕ) → get_elem? (stages views) by ≡ some (Holding serving) → ⊥
  free by e = let u = view_at views by (Holding serving) e in out by u.0 u.1 u.2 u.0.live refl
    where
      idle_not : Idle ≡ Holding serving → ⊥
      idle_not e = cc e

      same_pass : (by : ℕ) (u : View E B) → get_elem? views by ≡ some u → by ≡ id → u ≡ v
      same_pass by u there same = some-injective u v (sym there ∙ (ap (get_elem? views) same ∙ at.0))

      out : (by : ℕ) (u : View E B) → get_elem? views by ≡ some u → u.stage ≡ Holding serving → (l : Bool) → u.live ≡ l → ⊥
      out by u there holds false dead = idle_not (sym (h.dead by u there dead) ∙ holds)
      out by u there holds true live = elim (cases_eq u.number seats) [
        | inl same ↦ idle_not (sym idle ∙ (ap (λ (y : View E B). y.stage)
            (sym (same_pass by u there (h.apart by id u v (there, live) at (same ∙ sym one)))) ∙ holds))
        | inr other ↦
            let o = h.others by u (there, live) other in
            all u.number (let m = firsts.0 in let less = o.0 in omega arith)
            (subst (λ (k : List (ℕ × List E)). HasNone k u.number) (sym firsts.1) o.1)
      ]

  at_home : IsHome homes
  at_home = ⊎_elim (λ x. x) (λ x. absurd (free x.1.0 x.1.1)) o.home

  pub closes : (x : V) × (homes ≡ some (Some x) ∷ []) × Closes history born context (pass_state turn v) x
  closes =
      let y = h.home at_home.0 at_home.1 in (
        y.0,
        at_home.1 ∙ ap (λ (z : Option V). some z ∷ []) y.1,
        record {
          seen = subst (IsPrefix v.seen) (sym y.2) (h.each id v at).seen;
          own = (h.each id v at).own ∙ ap (λ (l : List E). entries_of context l v.number) (sym y.2);
          kept = subst (λ (k : List (ℕ × List E)). AllByRecursion (λ (p : ℕ × List E). p.1 ≡ entries_of context (history y.0) p.0)
              k) (sym firsts.1)
              (All-weaker (λ (k : ℕ × List E). (k.0 < h.splits) × (k.1 ≡ entries_of context h.all k.0)) (λ (k : ℕ × List E). k.1
              ≡ entries_of context (history y.0) k.0) (λ k p. p.1 ∙ ap (λ (l : List E). entries_of context l k.0) (sym y.2))
              h.kept h.joins);
          others = λ n ne has. ap (λ (l : List E). entries_of context l n) y.2 ∙ h.unused n (above n ne has);
          birth = (h.each id v at).birth ∙ ap (λ (b : B). Some b) (sym y.3);
        },
      )
    where
      above : (n : ℕ) → n ≢ v.number → HasNone v.kept n → ((h.splits ≤ n) × (n < seats)) ⊎ (seats < n)
      above n ne has = elim (cases_lt n v.splits) [
        | inl less ↦ absurd (all n less has)
        | inr more ↦ elim (cases_lt n seats) [
          | inl below ↦ inl (let m = firsts.0 in omega arith, below)
          | inr over ↦ ⊎_elim (λ s. absurd (ne (sym s ∙ sym one))) (λ s. inr s) (eq-or-lt_of_le over)
        ]
      ]

module _ {V E B : Type 0} (history : V → List E) (born : V → B) (context : E → ℕ) (birth : B) (seats : ℕ) where
  -- the value that lies in the closed table
  pub found : (id : ℕ) (turn : TableId) (me : Me (Option V) (View E B)) (words : List ℕ) (slots : List (Option V)) → HoldsNothing me
      → me.0.number ≡ seats → AllJoined (pass_state turn me.0)
      → Final (Seen (Rule history born context birth seats) id me.0) words slots → (y : Option V) → get_elem? slots 0
      ≡ some y → (x : V) × (y ≡ Some x) × Closes history born context (pass_state turn me.0) x
  found id turn me words slots idle one all final y there =
      let s = final.0 in
      let kept = final.1.0 in
      let c = closes history born context birth seats kept.0 kept.1 s.homes s.views kept.3 kept.4 id turn me.0
      (final.1.1, idle.live) idle.stage one all in
      let home : get_elem? slots 0 ≡ some (Some c.0) = final.4 0 (Some c.0) (ap (λ (l : List (Maybe (Option V))). get_elem? l 0) c.1) in
      (c.0, some-injective _ _ (sym there ∙ home), c.2)
