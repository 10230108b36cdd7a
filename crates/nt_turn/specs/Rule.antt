-- The rule of the turn: what is true of its table between two steps.
use Rattle.std.specs.Prelude.{◌≡◌, ◌≢◌, ◌⊎◌, ℕ, ◌<◌, ◌≤◌, false, List, [], ◌∷◌}
use Rattle.std.specs.List.{AllByRecursion}
use mathlib.Core.Option.{Option as Maybe, some}
use mathlib.Core.List.{IsPrefix}
use lib.ListN.{get_elem?}
use Rattle.std.specs.declared.option.Option.{Option}
use Rattle.std.specs.declared.option.Option.TheVariants.{Some}
use Rattle.nt_turn.specs.declared.view.Stage.TheVariants.{Idle, Holding}
use Rattle.nt_turn.specs.declared.view.View.{View}
use Rattle.nt_turn.specs.History.{entries_of, HasNone}
use Rattle.nt_turn.specs.View.{IsAt, stages}
use Rattle.nt_turn.specs.Tickets.{Ordered}

-- a pass has seen a beginning of the history, and knows its own entries
pub record Knows {E B : Type 0} (context : E → ℕ) (born : B) (all : List E) (v : View E B) : Type 0 where
  pub seen : IsPrefix v.seen all
  pub told : IsPrefix v.told all
  pub own : v.own ≡ entries_of context all v.number
  pub birth : v.birth ≡ Some born

-- one history, of the value at home or of the pass that holds it: all passes have seen it begin, and nobody else has entries
pub record Histories {V E B : Type 0} (history : V → List E) (born : V → B) (context : E → ℕ) (birth : B) (seats : ℕ)
    (homes : List (Maybe (Option V))) (views : List (View E B)) : Type 0 where
  pub all : List E
  pub splits : ℕ
  pub kept : List (ℕ × List E)
  pub few : splits ≤ seats
  pub home : (y : Option V) → homes ≡ some y ∷ [] → (x : V) × (y ≡ Some x) × (history x ≡ all) × (born x ≡ birth)
  pub each : (by : ℕ) (v : View E B) → IsAt views by v → Knows context birth all v
  pub dead : (by : ℕ) (v : View E B) → get_elem? views by ≡ some v → v.live ≡ false → v.stage ≡ Idle
  pub hand : (by t : ℕ) (v : View E B) → IsAt views by v → v.stage ≡ Holding t → v.seen ≡ all
  pub apart : (i j : ℕ) (v w : View E B) → IsAt views i v → IsAt views j w → v.number ≡ w.number → i ≡ j
  pub first : (by : ℕ) (v : View E B) → IsAt views by v → v.number ≡ seats → (v.splits ≡ splits) × (v.kept ≡ kept)
  pub others : (by : ℕ) (v : View E B) → IsAt views by v → v.number ≢ seats → (v.number < splits) × HasNone kept v.number
  pub joins : AllByRecursion (λ (k : ℕ × List E). (k.0 < splits) × (k.1 ≡ entries_of context all k.0)) kept
  pub unused : (n : ℕ) → ((splits ≤ n) × (n < seats)) ⊎ (seats < n) → entries_of context all n ≡ []

-- the words are the next ticket and the one that is served; the tickets are in order, and there is one history
abbrev pub InTurn : {V E B : Type 0} → (V → List E) → (V → B) → (E → ℕ) → B → ℕ
    → List ℕ → List (Maybe (Option V)) → List (View E B) → Type 0
InTurn history born context birth seats words homes views =
    (next : ℕ) × (serving : ℕ) × (words ≡ next ∷ serving ∷ [])
    × Ordered next serving homes (stages views) × Histories history born context birth seats homes views
