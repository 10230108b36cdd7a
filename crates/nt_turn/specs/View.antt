-- What a pass knows, and how that changes where passes are split and joined.
use Rattle.std.specs.Prelude.{◌≡◌, ℕ, ◌+◌, true, false, List, [], ◌∷◌, ◌++◌, map}
use mathlib.Core.Option.{some}
use lib.ListN.{get_elem?}
use Rattle.std.specs.declared.option.Option.TheVariants.{Some, None}
use Rattle.nt_turn.specs.declared.view.Stage.{Stage}
use Rattle.nt_turn.specs.declared.view.Stage.TheVariants.{Idle}
use Rattle.nt_turn.specs.declared.view.View.{View}

-- a pass that has done and seen nothing
abbrev pub newcomer : {E B : Type 0} → ℕ → B → View E B
newcomer number birth =
    record { live = true; number = number; stage = Idle; birth = Some birth; seen = []; told = []; own = []; splits = 0; kept = [] }

-- what is left of a pass that was joined
abbrev pub spent : {E B : Type 0} → View E B
spent = record { live = false; number = 0; stage = Idle; birth = None; seen = []; told = []; own = []; splits = 0; kept = [] }

-- a pass that is split off the first gets the next number, and has seen what the first has
abbrev pub split_off : {E B : Type 0} → View E B → View E B
split_off v =
    record { live = true; number = v.splits; stage = Idle; birth = v.birth; seen = v.seen; told = []; own = []; splits = 0; kept = [] }

-- the first pass after a split
abbrev pub after_split : {E B : Type 0} → View E B → View E B
after_split v = record v { splits = v.splits + 1 }

-- the first pass keeps the other's entries, and is told what it had seen
abbrev pub joined : {E B : Type 0} → View E B → View E B → View E B
joined v w = record v { told = w.seen; kept = v.kept ++ (w.number, w.own) ∷ [] }

-- a pass that was not joined stands there
abbrev pub IsAt : {E B : Type 0} → List (View E B) → ℕ → View E B → Type 0
IsAt views by v = (get_elem? views by ≡ some v) × (v.live ≡ true)

-- what each pass is doing
abbrev pub stages : {E B : Type 0} → List (View E B) → List Stage
stages {E = E} {B = B} views = map (λ (v : View E B). v.stage) views
