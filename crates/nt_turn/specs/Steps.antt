-- What each step of a pass does to what it knows.
use Rattle.std.specs.Prelude.{◌≡◌, ℕ, ◌==◌, true, List, [], ◌∷◌, MatchBool}
use mathlib.Core.List.{IsPrefix}
use Rattle.std.specs.declared.option.Option.{Option}
use Rattle.std.specs.declared.option.Option.TheVariants.{Some, None}
use Rattle.atomic_table.specs.Table.{Me, Step}
use Rattle.nt_turn.specs.declared.view.Stage.TheVariants.{Idle, Waiting, Holding}
use Rattle.nt_turn.specs.declared.view.View.{View}
use Rattle.nt_turn.specs.History.{entries_of, longer}
use Rattle.nt_turn.specs.Tickets.{ticket_of}

-- the pass does nothing
pub record HoldsNothing {V E B : Type 0} (me : Me (Option V) (View E B)) : Type 0 where
  pub live : me.0.live ≡ true
  pub stage : me.0.stage ≡ Idle
  pub none : me.1 ≡ []

-- the pass waits with this ticket
pub record IsWaiting {V E B : Type 0} (ticket : ℕ) (me : Me (Option V) (View E B)) : Type 0 where
  pub live : me.0.live ≡ true
  pub stage : me.0.stage ≡ Waiting ticket
  pub none : me.1 ≡ []

-- the pass holds the turn, and its user has the value
pub record IsHolding {V E B : Type 0} (me : Me (Option V) (View E B)) : Type 0 where
  pub ticket : ℕ
  pub live : me.0.live ≡ true
  pub stage : me.0.stage ≡ Holding ticket
  pub out : me.1 ≡ (0, None) ∷ []

-- the pass has drawn this ticket, and nothing else of it changed
abbrev pub IsDrawn : {V E B : Type 0} → ℕ → Me (Option V) (View E B) → Me (Option V) (View E B) → Type 0
IsDrawn ticket old new = new ≡ (record old.0 { stage = Waiting ticket }, old.1)

-- the pass holds the value under this ticket, has seen all of its history and knows its own entries in it
pub record Holds {V E B : Type 0} (history : V → List E) (born : V → B) (context : E → ℕ) (ticket : ℕ)
    (old new : Me (Option V) (View E B)) : Type 0 where
  pub value : V
  pub is : new ≡ (record old.0 { stage = Holding ticket; seen = history value }, (0, Some value) ∷ [])
  pub seen : IsPrefix old.0.seen (history value)
  pub own : old.0.own ≡ entries_of context (history value) old.0.number
  pub birth : old.0.birth ≡ Some (born value)

-- the word was raised, and its old number is the pass's ticket; or nothing changed
abbrev pub Drew : {V E B : Type 0} → Step (Option V) → Me (Option V) (View E B) → ℕ → Me (Option V) (View E B) → Type 0
Drew step old found new = MatchBool (found == step.first) (IsDrawn found old new) (new ≡ old)

-- the pass holds the value where the word is its ticket, or nothing changed
abbrev pub Looked : {V E B : Type 0} → (V → List E) → (V → B) → (E → ℕ)
    → Step (Option V) → Me (Option V) (View E B) → ℕ → Me (Option V) (View E B) → Type 0
Looked history born context step old found new =
    MatchBool (found == ticket_of old.0.stage) (Holds history born context (ticket_of old.0.stage) old new) (new ≡ old)

-- the history of the value that a pass carries
abbrev pub history_in : {V E : Type 0} → (V → List E) → List (ℕ × Option V) → List E
history_in history [] = []
history_in history ((k, None) ∷ xs) = []
history_in history ((k, Some x) ∷ xs) = history x

-- the value is at home again, and the pass has seen its history
abbrev pub Gave : {V E B : Type 0} → (V → List E) → (E → ℕ)
    → Step (Option V) → Me (Option V) (View E B) → ℕ → Me (Option V) (View E B) → Type 0
Gave history context step old found new =
    new ≡ (
      record old.0 {
        stage = Idle;
        seen = history_in history old.1;
        own = entries_of context (history_in history old.1) old.0.number;
      },
      [],
    )

-- the pass has seen the longer of what it had seen and what it was told, which begins with both
pub record Learned {V E B : Type 0} (step : Step (Option V)) (old : Me (Option V) (View E B))
    (found : ℕ) (new : Me (Option V) (View E B)) : Type 0 where
  pub is : new ≡ (record old.0 { seen = longer old.0.seen old.0.told; told = [] }, old.1)
  pub seen : IsPrefix old.0.seen (longer old.0.seen old.0.told)
  pub told : IsPrefix old.0.told (longer old.0.seen old.0.told)
