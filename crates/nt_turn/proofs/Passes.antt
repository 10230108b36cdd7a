-- A pass as its user sees it, and as it stands at the table.
use Rattle.std.proofs.Common.{◌≡◌, ℕ, ◌<◌, Bool, true, false, List, [], ◌∷◌, ◌++◌, refl, sym, ap, ◌∙◌, append-nil, arith}
use Rattle.std.specs.Prelude.{MatchBool}
use Rattle.std.specs.declared.option.Option.{Option}
use Rattle.std.specs.declared.option.Option.TheVariants.{None}
use Rattle.atomic_table.specs.Table.{Me}
use Rattle.atomic_table.specs.Seated.{TableId}
use Rattle.nt_turn.specs.declared.view.Stage.{Stage}
use Rattle.nt_turn.specs.declared.view.Stage.TheVariants.{Idle, Waiting, Holding}
use Rattle.nt_turn.specs.declared.view.View.{View}
use Rattle.nt_turn.specs.Steps.{HoldsNothing, IsHolding}
use Rattle.nt_turn.specs.Pass.{TurnState, PassState, IsPass, IsSettled, IsFree, IsFirst, IsHolder, Adds, holds_turn, pass_state}

idle_by : {V : Type 0} (s : Stage) (out : List (ℕ × Option V)) → IsSettled s out → holds_turn s ≡ false → (s ≡ Idle) × (out ≡ [])
idle_by Idle out is free = (refl, is)
idle_by (Waiting t) out is free = absurd is
idle_by (Holding t) out is free = absurd (cc free)

holding_by : {V : Type 0} (s : Stage) (out : List (ℕ × Option V)) → IsSettled s out → holds_turn s ≡ true
    → (t : ℕ) × (s ≡ Holding t) × (out ≡ (0, None) ∷ [])
holding_by Idle out is held = absurd (cc held)
holding_by (Waiting t) out is held = absurd is
holding_by (Holding t) out is held = (t, refl, is)

module _ {V E B : Type 0} (id : TableId) (seats : ℕ) (birth : B) (turn : TurnState B) (turn_is : record {
  id = id;
  seats = seats;
  birth = birth;
} ≡ turn)
    (table : TableId) (number splits : ℕ) (me : Me (Option V) (View E B)) (is : IsPass number splits me) (pass : PassState E B)
    (pass_is : pass_state table me.0 ≡ pass) where
  of_turn : pass.turn ≡ turn.id → table ≡ id
  of_turn same = ap (λ (p : PassState E B). p.turn) pass_is ∙ (same ∙ sym (ap (λ (t : TurnState B). t.id) turn_is))

  idle : pass.holds ≡ false → HoldsNothing me
  idle free =
      let at = idle_by me.0.stage me.1 is.settled (ap (λ (p : PassState E B). p.holds) pass_is ∙ free) in
      record { live = is.live; stage = at.0; none = at.1 }

  -- a pass that doesn't hold the turn is idle
  pub free_of : IsFree turn pass → (table ≡ id) × HoldsNothing me
  free_of p = (of_turn p.turn_is, idle p.free)

  -- the first pass is idle, and its number is that of the seats
  pub first_of : IsFirst turn pass → (table ≡ id) × HoldsNothing me × (me.0.number ≡ seats)
  first_of p =
      let number_is = ap (λ (q : PassState E B). q.number) pass_is in
      let seats_are = ap (λ (t : TurnState B). t.seats) turn_is in
      (of_turn p.turn_is, idle p.free, number_is ∙ (p.number ∙ sym seats_are))

  -- a first pass that may be split has room
  pub room_of : pass.splits < turn.seats → me.0.splits < seats
  room_of less = let splits_are = ap (λ (q : PassState E B). q.splits) pass_is in
      let seats_are = ap (λ (t : TurnState B). t.seats) turn_is in omega arith

  -- the user of a pass that holds the turn has the value
  pub holder_of : IsHolder turn pass → (table ≡ id) × IsHolding me
  holder_of p =
      let at = holding_by me.0.stage me.1 is.settled (ap (λ (q : PassState E B). q.holds) pass_is ∙ p.held) in
      (of_turn p.turn_is, record { ticket = at.0; live = is.live; stage = at.1; out = at.2 })

-- a history of the pass's own with at most one entry more
pub adds_by : {E B : Type 0} (context : E → ℕ) (pass : PassState E B) (log : List E) (e : E) (done : Bool) → context e ≡ pass.number
    → MatchBool done (log ≡ pass.seen ++ e ∷ []) (log ≡ pass.seen) → Adds context pass log
adds_by context pass log e true own is = record { more = e ∷ []; whole = is; ours = (own, tt) }
adds_by context pass log e false own is = record { more = []; whole = is ∙ sym (append-nil pass.seen); ours = tt }
