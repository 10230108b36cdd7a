-- The message of an answer, and what was asked for before it.
use Rattle.std.specs.Prelude.{◌≡◌, ◌⊎◌, ℕ, ◌≤◌, List, ◌++◌, length, take, Some}
use Rattle.nt_outside.specs.declared.stream.Stream.TheVariants.{ToErr}
use Rattle.nt_outside.specs.Faults.{Rose}
use Rattle.nt_outside.specs.World.{World, HostState, prints}

-- err gained the message, or its front where a print on err failed
abbrev pub SaysOnErr : List ℕ → HostState → HostState → World → World → Type 0
SaysOnErr message old new w w' =
    (n : ℕ) × (w'.err ≡ w.err ++ take n message) × ((length message ≤ n) ⊎ Rose old.err_faults new.err_faults)

-- a message was printed on err, and nothing else happened
pub record Reports (message : List ℕ) (old new : HostState) : Type 0 where
  pub told : (w : World) → old.world ≡ Some w → (n : ℕ) × (new.world ≡ Some (prints ToErr (take n message) w))
      × ((length message ≤ n) ⊎ Rose old.err_faults new.err_faults)
  pub asked : new.asked ≡ old.asked
  pub faults : new.faults ≡ old.faults
  pub opened : new.opened ≡ old.opened

-- the outside served throughout: no failure was counted
abbrev pub Served : HostState → HostState → Type 0
Served old new = Rose old.faults new.faults → ⊥
