-- Tickets in order, and a value that is out with one pass at most.
use Rattle.std.specs.Prelude.{◌≡◌, ◌⊎◌, ℕ, ◌^◌, ◌<◌, ◌≤◌, List, [], ◌∷◌}
use mathlib.Core.Option.{Option as Maybe, some, none}
use lib.ListN.{get_elem?}
use Rattle.nt_turn.specs.declared.view.Stage.{Stage}
use Rattle.nt_turn.specs.declared.view.Stage.TheVariants.{Idle, Waiting, Holding}

-- a pass has the ticket
abbrev pub HasTicket : ℕ → Stage → Type 0
HasTicket t Idle = ⊥
HasTicket t (Waiting u) = t ≡ u
HasTicket t (Holding u) = t ≡ u

-- the ticket of a pass, where it has one
abbrev pub ticket_of : Stage → ℕ
ticket_of Idle = 0
ticket_of (Waiting t) = t
ticket_of (Holding t) = t

-- a value is at home
abbrev pub IsHome : {A : Type 0} → List (Maybe A) → Type 0
IsHome {A} homes = (x : A) × (homes ≡ some x ∷ [])

-- the value is out with a pass
abbrev pub IsWithPass : {A : Type 0} → List (Maybe A) → Type 0
IsWithPass homes = homes ≡ none ∷ []

-- one pass holds the value under the ticket that is served
abbrev pub SomeHolds : List Stage → ℕ → Type 0
SomeHolds views serving = (by : ℕ) × (get_elem? views by ≡ some (Holding serving))

-- the tickets that passes have differ, are drawn and not served before; the value is out exactly while one pass holds it, under the
-- ticket that is served
pub record Ordered {A : Type 0} (next serving : ℕ) (homes : List (Maybe A)) (views : List Stage) : Type 0 where
  pub fits : next < 2 ^ 64
  pub order : serving ≤ next
  pub range : (by t : ℕ) (v : Stage) → get_elem? views by ≡ some v → HasTicket t v → (serving ≤ t) × (t < next)
  pub apart : (i j t : ℕ) (v w : Stage) → get_elem? views i ≡ some v → get_elem? views j ≡ some w → HasTicket t v → HasTicket t w → i ≡ j
  pub holding : (by t : ℕ) → get_elem? views by ≡ some (Holding t) → (t ≡ serving) × IsWithPass homes
  pub home : IsHome homes ⊎ (IsWithPass homes × SomeHolds views serving)
